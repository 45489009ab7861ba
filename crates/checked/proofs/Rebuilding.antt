-- An index is built from its mesh exactly if building the mesh again, with the floor and r of its header and over its own tables, leaves everything as it is.
use mathlib.Core.Bool.{Bool, true, false}
use mathlib.Core.List.{List, ◌++◌}
use mathlib.Core.Path.{◌≡◌, refl, sym, ap, subst, ◌∙◌}
use Prim.Native.Nat.{ℕ, suc, ◌+◌, ◌%◌, ◌≤◌}
use native.Mathlib.Omega.{arith}
use borrow.Author.Tests.{eqb-true, eqb-false}
use lib.Dec.{eqb, ltb}
use lib.Ieee.{Float}
use lib.ListN.{length, drop, length-append, length-drop}
use lib.Seq.{drop_at}
use Rattle.rules.proofs.Branches.{no, by_test}
use Rattle.plane.specs.Ranges.{is_coordinate, is_radius}
use Rattle.spans.specs.Mesh.{first_bad}
use Rattle.cells.specs.Cover.{Cover, listed, start_of, entries, starts_of, members_table}
use Rattle.cells.proofs.Building.{entries_length}
use Rattle.grid.specs.declared.Grid.{Grid}
use Rattle.grid.specs.declared.Header.{Header}
use Rattle.rules.specs.Ladder.{demand, refuse}
use Rattle.grid.specs.Grid.{triangles_in, grid_of, cells_in, cover_of}
use Rattle.grid.specs.Boxes.{is_boxed, boxes_of}
use Rattle.grid.specs.Header.{header_of}
use Rattle.grid.specs.Build.{is_nowhere, refusal_of_numbers, refusal_of_mesh, refusal_of_grid, refusal_of_members, Outcome}
use Rattle.grid.specs.Build.{outcome, refused_by, accepted_with, unless, filled_of, gridded, build_of}
use Rattle.grid.specs.Index.{Index, BuiltFrom}
use Rattle.grid.proofs.Boxing.{boxes_length}
use Rattle.grid.proofs.Accepting.{accepted, passed, members_fit, unless_next}
use Rattle.checked.specs.Check.{refusal_of, CheckPromise}
use Rattle.checked.specs.Inside.{Tells, told_as, SameTables, SameIndex}

-- ---- how a refusal of the builder is told
module _ (ix : Index) (floor r : Float) where
  told_is : told_as (refusal_of_mesh ix.mesh floor r ix.boxes) ≡ refusal_of ix
  unfolding told_as refusal_of refusal_of_mesh refusal_of_numbers demand refuse
  told_is =
      by_test (eqb (length ix.mesh % 9) 0)
      (λ a.
      by_test (ltb 65536 (triangles_in ix.mesh))
      (λ b. rw (a, b) refl)
      (λ b.
      by_test (is_boxed ix.mesh ix.boxes)
      (λ c.
      by_test (eqb (triangles_in ix.mesh) 0)
      (λ d. rw (a, b, c, d) refl)
      (λ d.
      by_test (is_coordinate floor)
      (λ e.
      by_test (is_radius r)
      (λ f. by_test (is_nowhere (first_bad ix.mesh)) (λ g. rw (a, b, c, d, e, f, g) refl) (λ g. rw (a, b, c, d, e, f, g) refl))
      (λ f. rw (a, b, c, d, e, f) refl))
      (λ e. rw (a, b, c, d, e) refl)))
      (λ c. rw (a, b, c) refl)))
      (λ a. rw a refl)

never_none : (k : ℕ) → told_as k ≡ 0 → ⊥
unfolding told_as
never_none k e =
    by_test (eqb k 1)
    (λ a. let z : 1 ≡ 0 = rw a at e in omega arith)
    (λ a. by_test (eqb k 23) (λ b. let z : 23 ≡ 0 = rw (a, b) at e in omega arith) (λ b. let z : 7 ≡ 0 = rw (a, b) at e in omega arith))

told_none : 7 ≡ told_as 0
unfolding told_as
told_none = refl

-- ---- tables over themselves
module _ (on : Cover) (n cells : ℕ) (old : List ℕ) where
  starts_again : starts_of on n cells (starts_of on n cells old) ≡ starts_of on n cells old
  unfolding starts_of
  starts_again =
      ap (λ (t : List ℕ). entries (start_of on n) (suc cells) ++ t)
      (drop_at (entries (start_of on n) (suc cells)) (drop (suc cells) old) (suc cells) (entries_length (start_of on n) (suc cells)))

  members_again : members_table on n cells (members_table on n cells old) ≡ members_table on n cells old
  unfolding members_table start_of
  members_again = ap (λ (t : List ℕ). listed on n cells ++ t)
      (drop_at (listed on n cells) (drop (length (listed on n cells)) old) (length (listed on n cells)) refl)

  starts_long : cells + 1 ≤ length old → length (starts_of on n cells old) ≡ length old
  unfolding starts_of
  starts_long h = omega (
    arith,
    length-append (entries (start_of on n) (suc cells)) (drop (suc cells) old),
    entries_length (start_of on n) (suc cells),
    length-drop (suc cells) old,
  )

  members_long : start_of on n cells ≤ length old → length (members_table on n cells old) ≡ length old
  unfolding members_table start_of
  members_long h = omega (arith, length-append (listed on n cells) (drop (length (listed on n cells)) old), length-drop (length (listed on n cells)) old)

-- ---- an accepted outcome is no refusal
cut : (k p : ℕ) (s m : List ℕ) (x : List Float) (next : Outcome) (h : Header) (s' m' : List ℕ) (x' : List Float)
    → unless k p s m x next ≡ outcome (accepted_with h) s' m' x' → (k ≡ 0) × (next ≡ outcome (accepted_with h) s' m' x')
unfolding unless refused_by accepted_with
cut k p s m x next h s' m' x' e =
    by_test (eqb k 0)
    (λ t. (eqb-true k 0 t, rw t at e))
    (λ t.
    let u : outcome (refused_by k p) s m x ≡ outcome (accepted_with h) s' m' x' = rw t at e in
    absurd (eqb-false k 0 t (ap (λ (o : Outcome). o.built.refusal) u)))

-- outcomes of the same parts
same_outcome : (h h' : Header) (s s' m m' : List ℕ) (x x' : List Float) → h ≡ h' → s ≡ s' → m ≡ m' → x ≡ x'
    → outcome (accepted_with h) s m x ≡ outcome (accepted_with h') s' m' x'
same_outcome h h' s s' m m' x x' a b c d = rw (a, b, c, d) refl

boxed_as : (mesh : List Float) (floor r : Float) (x y : List Float) → length x ≡ length y → refusal_of_mesh mesh floor r x ≡ refusal_of_mesh mesh floor r y
unfolding refusal_of_mesh is_boxed
boxed_as mesh floor r x y e = rw e refl

-- ---- there and back
module _ (ix : Index) where
  abbrev count : ℕ
  count = triangles_in ix.mesh

  abbrev own : Outcome
  own = outcome (accepted_with ix.header) ix.starts ix.members ix.boxes

  again : refusal_of_mesh ix.mesh ix.header.floor ix.header.r ix.boxes ≡ 0 → SameIndex count (grid_of ix.mesh count ix.header.r) ix
      → own ≡ build_of ix.mesh ix.header.floor ix.header.r ix.starts ix.members ix.boxes
  unfolding build_of gridded filled_of
  again z i =
      unless_next _ _ ix.starts ix.members ix.boxes _ _ z
      (unless_next _ _ ix.starts ix.members ix.boxes _ _ i.fits
      (unless_next _ _ ix.starts ix.members ix.boxes _ _ i.tables.few
      (same_outcome _ _ _ _ _ _ _ _ i.header i.tables.starts i.tables.members i.boxes)))

  pub from_same : refusal_of_mesh ix.mesh ix.header.floor ix.header.r ix.boxes ≡ 0
      → SameIndex count (grid_of ix.mesh count ix.header.r) ix → BuiltFrom ix
  from_same z i =
      record {
        floor = ix.header.floor;
        r = ix.header.r;
        old_starts = ix.starts;
        old_members = ix.members;
        old_boxes = ix.boxes;
        built = sym (again z i);
      }

  -- what is so of the floor and the r that it was built with
  abbrev Facts : Float → Float → Type 0
  Facts floor r =
      let g = grid_of ix.mesh count r in
      (refusal_of_mesh ix.mesh floor r ix.boxes ≡ 0)
      × (refusal_of_grid g.columns g.rows (length ix.starts) ≡ 0)
      × (ix.header ≡ header_of ix.mesh count g floor r)
      × (ix.boxes ≡ boxes_of ix.mesh count)
      × SameTables (cover_of ix.mesh g) count (cells_in g) ix.starts ix.members

  module _ (floor r : Float) (s m : List ℕ) (x : List Float) where
    abbrev grid : Grid
    grid = grid_of ix.mesh count r

    abbrev on : Cover
    on = cover_of ix.mesh grid

    facts : refusal_of_mesh ix.mesh floor r x ≡ 0 → refusal_of_grid grid.columns grid.rows (length s) ≡ 0
        → refusal_of_members (start_of on count (cells_in grid)) (length m) ≡ 0
        → outcome (accepted_with (header_of ix.mesh count grid floor r)) (starts_of on count (cells_in grid) s) (members_table on count (cells_in grid) m)
        (boxes_of ix.mesh count) ≡ own
        → Facts floor r
    unfolding accepted_with
    facts a b c e =
        let es = ap (λ (o : Outcome). o.starts) e in
        let em = ap (λ (o : Outcome). o.members) e in
        let ex = ap (λ (o : Outcome). o.boxes) e in
        let ls : length ix.starts ≡ length s = ap length (sym es) ∙ starts_long on count (cells_in grid) s (passed _ _ _ b).room in
        let lm : length ix.members ≡ length m = ap length (sym em) ∙ members_long on count (cells_in grid) m (members_fit _ _ c).1 in
        let lx : length ix.boxes ≡ length x = ap length (sym ex) ∙ boxes_length ix.mesh count ∙ sym (accepted _ _ _ _ a).five in (
          boxed_as ix.mesh floor r ix.boxes x lx ∙ a,
          ap (refusal_of_grid grid.columns grid.rows) ls ∙ b,
          sym (ap (λ (o : Outcome). o.built.header) e),
          sym ex,
          record {
            few = ap (refusal_of_members (start_of on count (cells_in grid))) lm ∙ c;
            starts = sym es ∙ sym (starts_again on count (cells_in grid) s) ∙ ap (starts_of on count (cells_in grid)) es;
            members = sym em ∙ sym (members_again on count (cells_in grid) m) ∙ ap (members_table on count (cells_in grid)) em;
          },
        )

    apart : build_of ix.mesh floor r s m x ≡ own → Facts floor r
    unfolding build_of gridded filled_of
    apart e =
        let a = cut _ _ s m x _ ix.header ix.starts ix.members ix.boxes e in
        let b = cut _ _ s m x _ ix.header ix.starts ix.members ix.boxes a.1 in
        let c = cut _ _ s m x _ ix.header ix.starts ix.members ix.boxes b.1 in
        facts a.0 b.0 c.0 c.1

    -- floor and r are the header's
    its_own : Facts floor r → Facts ix.header.floor ix.header.r
    unfolding header_of
    its_own f =
        let p : floor ≡ ix.header.floor = sym (ap (λ (h : Header). h.floor) f.2) in
        let q : r ≡ ix.header.r = sym (ap (λ (h : Header). h.r) f.2) in
        subst (λ (v : Float). Facts ix.header.floor v) q (subst (λ (v : Float). Facts v r) p f)

  pub to_same : BuiltFrom ix
      → (refusal_of_mesh ix.mesh ix.header.floor ix.header.r ix.boxes ≡ 0) × SameIndex count (grid_of ix.mesh count ix.header.r) ix
  to_same b =
      let f = its_own b.floor b.r b.old_starts b.old_members b.old_boxes
      (apart b.floor b.r b.old_starts b.old_members b.old_boxes b.built) in
      (f.0, record { fits = f.1; header = f.2; boxes = f.3; tables = f.4 })

  -- ---- the promise
  module _ (k : ℕ) (q : k ≡ refusal_of_mesh ix.mesh ix.header.floor ix.header.r ix.boxes) where
    -- refused as the builder refuses
    pub promise_told : (t : ℕ) → t ≡ told_as k → (k ≡ 0 → ⊥) → CheckPromise ix t
    promise_told t e h =
        record {
          only = λ z. absurd (some (sym e ∙ z));
          always = λ b. absurd (h (q ∙ (to_same b).0));
          else = λ z. e ∙ ap told_as q ∙ told_is ix ix.header.floor ix.header.r;
        }
      where
        some : told_as k ≡ 0 → ⊥
        some z = never_none k z

    module _ (h : k ≡ 0) (b : Bool) (t : Tells b (BuiltFrom ix)) where
      pub promise_is : b ≡ true → CheckPromise ix 0
      promise_is e = record { only = λ z. t.0 e; always = λ z. refl; else = λ z. absurd (z refl) }

      pub promise_not : b ≡ false → CheckPromise ix 7
      promise_not e =
          record {
            only = λ z. absurd (omega arith);
            always = λ z. absurd (no (sym e ∙ t.1 z));
            else = λ z. seven ∙ told_is ix ix.header.floor ix.header.r;
          }
        where
          seven : 7 ≡ told_as (refusal_of_mesh ix.mesh ix.header.floor ix.header.r ix.boxes)
          seven = told_none ∙ ap told_as (sym h ∙ q)
