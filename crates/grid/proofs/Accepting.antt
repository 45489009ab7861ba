-- The refusals, rung by rung: what a call that passes them may rely on, and what the builder answers.
use mathlib.Core.Bool.{true}
use mathlib.Core.List.{List, [], ◌∷◌}
use mathlib.Core.Path.{◌≡◌, refl, ap, sym, ◌∙◌, subst}
use Prim.Native.Nat.{ℕ, ◌+◌, ◌*◌, ◌%◌, ◌≤◌, ◌<◌}
use native.Mathlib.Nat.{div-add-mod'}
use native.Mathlib.Omega.{arith}
use borrow.Author.Tests.{eq-eqb, ne_eqb, eqb-true, eqb-false, ltb-false}
use lib.Dec.{lit<}
use lib.Ieee.{Float}
use lib.ListN.{length}
use Rattle.rules.proofs.Branches.{taken, left, by_test}
use Rattle.plane.specs.Ranges.{is_coordinate, is_radius}
use Rattle.spans.specs.Mesh.{first_bad}
use Rattle.spans.specs.Inside.{AllGood}
use Rattle.std.specs.Prelude.{Option, None, Some, Result, Ok, Err}
use Rattle.std.proofs.Common.{Fits, w32}
use Rattle.refusals.specs.declared.Refusal.{Refusal}
use Rattle.refusals.specs.declared.Refusal.TheVariants.{Length, Number, Empty, Coordinate, Starts, Members, Index, Tool, Parameter, Depth, Levels, Fine, Runs, Head, Mark, Version, SixthByte, Count, Cut, NotFinite, Surplus, Bytes, Boxes, Shape, Sections, Heights, Id, Kind, State}
use Rattle.refusals.specs.Numbers.{number_of, told_of, code_of, told_in}
use Rattle.spans.proofs.Searching.{bad_from, bad_is, all_good}
use Rattle.cells.specs.Cover.{start_of, starts_of, members_table}
use Rattle.grid.specs.declared.Grid.{Grid}
use Rattle.grid.specs.declared.Header.{Header}
use Rattle.grid.specs.Grid.{triangles_in, grid_of, cells_in, cover_of, total_of}
use Rattle.grid.specs.Header.{header_of}
use Rattle.grid.specs.Boxes.{is_boxed, boxes_of}
use Rattle.grid.specs.Build.{is_nowhere, told_with, refusal_of_numbers, refusal_of_mesh, refusal_of_grid, refusal_of_members}
use Rattle.grid.specs.Build.{Built, told, Outcome, outcome, refused_by, accepted_with, unless, filled_of, gridded, build_of}
use Rattle.grid.specs.Inside.{Gridded}
use Rattle.rules.proofs.Ladder.{refused_not, demanded}
use Rattle.refusals.proofs.Named.{not_zero}
use Rattle.grid.proofs.Gridding.{counted}

-- ---- refusals 1, 23, 3, 2 and 4
pub record Accepted (mesh : List Float) (floor r : Float) (x : List Float) : Type 0 where
  pub nine : length mesh ≡ triangles_in mesh * 9
  pub few : triangles_in mesh ≤ 65536
  pub five : length x ≡ triangles_in mesh * 5
  pub some : 0 < triangles_in mesh
  pub bottom : is_coordinate floor ≡ true
  pub radius : is_radius r ≡ true
  pub numbers : AllGood mesh

-- a place that the search finds stands in the mesh
below : (k p : ℕ) (xs : List Float) → bad_from k xs ≡ Some p → p < k + length xs
unfolding bad_from
below k p [] e = let z : ◌≡◌ {A = ℕ} 0 1 = cc in absurd (omega arith)
below k p (x ∷ xs) e =
    by_test (is_coordinate x)
    (λ t. let i = below (k + 1) p xs (rw t at e) in omega arith)
    (λ t. let f : ◌≡◌ {A = Option ℕ} (Some k) (Some p) = rw t at e in let i : k ≡ p = cc in omega arith)

pub place_below : (mesh : List Float) (p : ℕ) → first_bad mesh ≡ Some p → p < length mesh
place_below mesh p e = omega (arith, below 0 p mesh (sym (bad_is mesh) ∙ e))

pub place_fits : (mesh : List Float) (p : ℕ) (o : Option ℕ) → o ≡ first_bad mesh → o ≡ Some p → length mesh ≤ 589824 → Fits w32 p
place_fits mesh p o e f h = record { fits = omega (arith, place_below mesh p (sym e ∙ f)) }

pub nowhere : (p : Option ℕ) → is_nowhere p ≡ true → p ≡ None
unfolding is_nowhere
nowhere None e = refl
nowhere (Some k) e = let z : ◌≡◌ {A = ℕ} 0 1 = cc in absurd (omega arith)

pub accepted : (mesh : List Float) (floor r : Float) (x : List Float) → refusal_of_mesh mesh floor r x ≡ 0 → Accepted mesh floor r x
unfolding refusal_of_mesh refusal_of_numbers is_boxed
accepted mesh floor r x e =
    let a = demanded _ 1 _ (lit< tt) e in
    let b = refused_not _ 1 _ (lit< tt) a.1 in
    let h = demanded _ 23 _ (lit< tt) b.1 in
    let c = refused_not _ 3 _ (lit< tt) h.1 in
    let d = demanded _ 2 _ (lit< tt) c.1 in
    let f = demanded _ 2 _ (lit< tt) d.1 in
    let g = demanded _ 4 _ (lit< tt) f.1 in
    let z : length mesh % 9 ≡ 0 = eqb-true (length mesh % 9) 0 a.0 in
    let n : triangles_in mesh ≡ 0 → ⊥ = eqb-false (triangles_in mesh) 0 c.0 in
    record {
      nine = omega (arith, div-add-mod' (length mesh) 9);
      few = ltb-false _ _ b.0;
      five = eqb-true (length x) (triangles_in mesh * 5) h.0;
      some = omega arith;
      bottom = d.0;
      radius = f.0;
      numbers = all_good mesh (nowhere _ g.0);
    }

-- ---- refusal 5
pub record Passed (columns rows lent : ℕ) : Type 0 where
  pub wide : columns ≤ 65536
  pub tall : rows ≤ 65536
  pub few : rows * columns ≤ 1048576
  pub room : rows * columns + 1 ≤ lent

pub passed : (columns rows lent : ℕ) → refusal_of_grid columns rows lent ≡ 0 → Passed columns rows lent
unfolding refusal_of_grid
passed columns rows lent e =
    let a = refused_not _ 5 _ (lit< tt) e in
    let b = refused_not _ 5 _ (lit< tt) a.1 in
    let c = refused_not _ 5 _ (lit< tt) b.1 in
    let d = refused_not _ 5 _ (lit< tt) c.1 in
    record { wide = ltb-false _ _ a.0; tall = ltb-false _ _ b.0; few = ltb-false _ _ c.0; room = ltb-false _ _ d.0 }

-- ---- refusal 6
pub members_fit : (k lent : ℕ) → refusal_of_members k lent ≡ 0 → (k ≤ 16777216) × (k ≤ lent)
unfolding refusal_of_members
members_fit k lent e =
    let a = refused_not _ 6 _ (lit< tt) e in
    let b = refused_not _ 6 _ (lit< tt) a.1 in
    (ltb-false _ _ a.0, ltb-false _ _ b.0)

-- ---- how a refusal is told
told_err : (e : Refusal) (k p : ℕ) → number_of e ≡ k → told_of e ≡ p → told (Err e) ≡ refused_by k p
unfolding told
told_err e k p a b = rw (a, b) refl

-- ---- refused, or what comes next
module _ (k p : ℕ) (s m : List ℕ) (x : List Float) (next : Outcome) where
  pub unless_refused_lem : (b : Built) → b ≡ refused_by k p → (k ≡ 0 → ⊥) → outcome b s m x ≡ unless k p s m x next
  unfolding unless
  unless_refused_lem b e h = ap (λ (a : Built). outcome a s m x) e ∙ left _ _ _ _ (ne_eqb k 0 h) refl

  pub unless_next : (o : Outcome) → k ≡ 0 → o ≡ next → o ≡ unless k p s m x next
  unfolding unless
  unless_next o h e = taken _ _ _ _ (eq-eqb k 0 h) e

-- ---- the tables, or refusal 6
module _ (mesh : List Float) (n : ℕ) (g : Grid) (floor r : Float) (s m : List ℕ) (x : List Float) (z : Gridded mesh n g) (t k : ℕ) (p : t ≡ total_of mesh g n)
    (q : k ≡ refusal_of_members t (length m)) where
  asked : k ≡ refusal_of_members (start_of (cover_of mesh g) n (cells_in g)) (length m)
  asked = q ∙ ap (λ (v : ℕ). refusal_of_members v (length m)) (p ∙ counted mesh g n z)

  filled_refused : (b : Built) → b ≡ refused_by k 0 → (k ≡ 0 → ⊥) → outcome b s m x ≡ filled_of mesh n g floor r s m x
  unfolding filled_of
  filled_refused b e h = unless_refused_lem _ 0 s m x _ b (e ∙ ap (λ (v : ℕ). refused_by v 0) asked) (λ z. h (asked ∙ z))

  pub filled_accepted : (h : Header) (s' m' : List ℕ) (x' : List Float) → k ≡ 0 → h ≡ header_of mesh n g floor r → s' ≡ starts_of (cover_of mesh g) n (cells_in g) s
      → m' ≡ members_table (cover_of mesh g) n (cells_in g) m → x' ≡ boxes_of mesh n
      → outcome (record { refusal = 0; triangle = 0; number = 0; header = h }) s' m' x' ≡ filled_of mesh n g floor r s m x
  unfolding filled_of accepted_with
  filled_accepted h s' m' x' e a b c d = unless_next _ 0 s m x _ _ (sym asked ∙ e) (rw (a, b, c, d) refl)

  -- the same, by the refusal's name
  pub filled_err : (e : Refusal) → number_of e ≡ k → told_of e ≡ 0 → (o : Result Header Refusal) → o ≡ Err e → outcome (told o) s m x ≡ filled_of mesh n g floor r s m x
  filled_err e a b o h = filled_refused (told o) (ap told h ∙ told_err e k 0 a b) (λ z. not_zero e (a ∙ z))

  pub filled_ok : (h : Header) (s' m' : List ℕ) (x' : List Float) → k ≡ 0 → h ≡ header_of mesh n g floor r → s' ≡ starts_of (cover_of mesh g) n (cells_in g) s
      → m' ≡ members_table (cover_of mesh g) n (cells_in g) m → x' ≡ boxes_of mesh n
      → outcome (told (Ok h)) s' m' x' ≡ filled_of mesh n g floor r s m x
  unfolding told accepted_with
  filled_ok h s' m' x' e a b c d = filled_accepted h s' m' x' e a b c d

-- ---- refusal 5, or what comes next; g is the grid as it was found
module _ (mesh : List Float) (n : ℕ) (G : Grid) (floor r : Float) (s m : List ℕ) (x : List Float) (g : Grid) (p : g ≡ G) (k : ℕ)
    (q : k ≡ refusal_of_grid g.columns g.rows (length s)) where
  pub gridded_refused : (b : Built) → b ≡ refused_by k 0 → (k ≡ 0 → ⊥) → outcome b s m x ≡ gridded mesh n G floor r s m x
  unfolding gridded
  gridded_refused b e h =
      unless_refused_lem _ 0 s m x _ b (e ∙ ap (λ (v : ℕ). refused_by v 0) q) (λ z. h (q ∙ z)) ∙ ap (λ (v : Grid). gridded mesh n v floor r s m x) p

  pub gridded_err : (e : Refusal) → number_of e ≡ k → told_of e ≡ 0 → (o : Result Header Refusal) → o ≡ Err e → outcome (told o) s m x ≡ gridded mesh n G floor r s m x
  gridded_err e a b o h = gridded_refused (told o) (ap told h ∙ told_err e k 0 a b) (λ z. not_zero e (a ∙ z))

  pub gridded_next : (o : Outcome) → k ≡ 0 → o ≡ filled_of mesh n g floor r s m x → o ≡ gridded mesh n G floor r s m x
  unfolding gridded
  gridded_next o h e = unless_next _ 0 s m x _ o (sym q ∙ h) e ∙ ap (λ (v : Grid). gridded mesh n v floor r s m x) p

  pub found_passed : k ≡ 0 → Passed G.columns G.rows (length s)
  found_passed h = subst (λ (v : Grid). Passed v.columns v.rows (length s)) p (passed _ _ _ (sym q ∙ h))

-- ---- refusals 1, 23, 3, 2 and 4, or what comes next
module _ (mesh : List Float) (floor r : Float) (s m : List ℕ) (x : List Float) (k : ℕ) (q : k ≡ refusal_of_mesh mesh floor r x) where
  pub built_refused : (p : ℕ) → p ≡ told_with k mesh → (b : Built) → b ≡ refused_by k p → (k ≡ 0 → ⊥) → outcome b s m x ≡ build_of mesh floor r s m x
  unfolding build_of
  built_refused p t b e h =
      unless_refused_lem _ _ s m x _ b (e ∙ ap (refused_by k) t ∙ ap (λ (v : ℕ). refused_by v (told_with v mesh)) q) (λ z. h (q ∙ z))

  pub built_err : (e : Refusal) → number_of e ≡ k → told_of e ≡ told_with k mesh → (o : Result Header Refusal) → o ≡ Err e
      → outcome (told o) s m x ≡ build_of mesh floor r s m x
  built_err e a b o h = built_refused (told_with k mesh) refl (told o) (ap told h ∙ told_err e k (told_with k mesh) a b) (λ z. not_zero e (a ∙ z))

  pub built_next : (o : Outcome) → k ≡ 0 → o ≡ gridded mesh (triangles_in mesh) (grid_of mesh (triangles_in mesh) r) floor r s m x → o ≡ build_of mesh floor r s m x
  unfolding build_of
  built_next o h e = unless_next _ _ s m x _ o (sym q ∙ h) e
