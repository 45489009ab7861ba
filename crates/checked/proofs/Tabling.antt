-- The tables of an index whose boxes are right: what their parts tell is what is asked of them.
use mathlib.Core.Bool.{Bool, true, ◌&&◌}
use mathlib.Core.List.{List}
use mathlib.Core.Path.{◌≡◌, sym, ap, subst, ◌∙◌}
use Prim.Native.Nat.{ℕ, ◌+◌, ◌*◌, ◌≤◌, ◌<◌}
use native.Mathlib.Nat.{mul-le-mul}
use lib.Dec.{leb}
use lib.Ieee.{Float}
use lib.ListN.{length, get_or}
use Rattle.plane.specs.declared.Bounds.{Bounds}
use Rattle.cells.specs.Cover.{Cover, covers, start_of, stretch}
use Rattle.grid.specs.declared.Grid.{Grid}
use Rattle.grid.specs.Grid.{cells_in, cells_of, cover_of, total_of}
use Rattle.grid.specs.Boxes.{boxes_of}
use Rattle.grid.specs.Build.{refusal_of_members}
use Rattle.grid.specs.Inside.{NearBox, Gridded}
use Rattle.grid.proofs.Boxing.{boxes_length}
use Rattle.grid.proofs.Gridding.{counted}
use Rattle.grid.proofs.Accepting.{members_fit}
use Rattle.checked.specs.Inside.{Tells, cells_under, box_covers, Boxed, cell_holds, SameTables}
use Rattle.checked.proofs.Counting.{rises_as, Held, held, starts_are, members_are, begins, ends, holds}
use Rattle.checked.proofs.Comparing.{boxes_each}

module _ (mesh : List Float) (n : ℕ) (g : Grid) (boxes : List Float) (z : Gridded mesh n g) (e : boxes ≡ boxes_of mesh n) where
  long : length boxes ≡ n * 5
  long = ap length e ∙ boxes_length mesh n

  pub boxed : Boxed n g boxes
  boxed =
      record {
        some = z.some;
        few = mul-le-mul z.tall z.wide;
        small = z.few;
        five = long;
        near = λ i h. subst (NearBox g) (sym (boxes_each mesh boxes n long e i h)) (z.near i h);
      }

  module _ (s m : List ℕ) where
    abbrev on : Cover
    on = cover_of mesh g

    -- the box table and the mesh say the same of each triangle
    same_cover : (i c : ℕ) → i < n → box_covers boxes g i c ≡ on i c
    unfolding cells_under cells_of
    same_cover i c h = ap (λ (b : Bounds). covers g.columns (cells_under g b) c) (boxes_each mesh boxes n long e i h)

    holds_as : (c : ℕ) → cell_holds (box_covers boxes g) n s m c ≡ cell_holds on n s m c
    unfolding cell_holds
    holds_as c =
        ap (λ (b : Bool). leb (get_or s c 0) (get_or s (c + 1) 0) && (leb (get_or s (c + 1) 0) (length m) && b))
        (rises_as (λ i. box_covers boxes g i c) (λ i. on i c) n (λ i h. same_cover i c h) 0 (stretch s m c))

    module _ (t k : ℕ) (p : t ≡ total_of mesh g n) (q : k ≡ refusal_of_members t (length m)) where
      many : t ≡ start_of on n (cells_in g)
      many = p ∙ counted mesh g n z

      asked : k ≡ refusal_of_members (start_of on n (cells_in g)) (length m)
      asked = q ∙ ap (λ (v : ℕ). refusal_of_members v (length m)) many

      pub no_room : (k ≡ 0 → ⊥) → SameTables on n (cells_in g) s m → ⊥
      no_room h u = h (asked ∙ u.few)

      pub other_start : (get_or s 0 0 ≡ 0 → ⊥) → SameTables on n (cells_in g) s m → ⊥
      other_start h u = h (begins on n (cells_in g) s m u.starts u.members)

      pub other_end : (get_or s (cells_in g) 0 ≡ t → ⊥) → SameTables on n (cells_in g) s m → ⊥
      other_end h u = h (ends on n (cells_in g) s m u.starts u.members ∙ sym many)

      pub tables_tell : k ≡ 0 → cells_in g + 1 ≤ length s → get_or s 0 0 ≡ 0 → get_or s (cells_in g) 0 ≡ t → (b : Bool)
          → Tells b ((c : ℕ) → c < cells_in g → cell_holds (box_covers boxes g) n s m c ≡ true) → Tells b (SameTables on n (cells_in g) s m)
      tables_tell few room first last b told = (
        λ y.
            let each : (c : ℕ) → c < cells_in g → Held on n (cells_in g) s m c = λ c h. held on n (cells_in g) s m c (sym (holds_as c) ∙ told.0 y c h) in
            let end : get_or s (cells_in g) 0 ≡ start_of on n (cells_in g) = last ∙ many in
            record {
              few = sym asked ∙ few;
              starts = starts_are on n (cells_in g) s m first each end room;
              members = members_are on n (cells_in g) s m first each end (members_fit _ _ (sym asked ∙ few)).1;
            },
        λ u. told.1 (λ c h. holds_as c ∙ holds on n (cells_in g) s m u.starts u.members c h),
      )
