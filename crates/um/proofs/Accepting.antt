-- The refusals, rung by rung: what a call that passes them may rely on, and what the builder answers.
use mathlib.Core.Bool.{true, false, not}
use mathlib.Core.List.{List}
use mathlib.Core.Path.{◌≡◌, refl, ap, sym, ◌∙◌}
use Prim.Native.Nat.{ℕ, ◌*◌, ◌%◌, ◌^◌, ◌≤◌, ◌<◌}
use native.Mathlib.Nat.{div-add-mod', zero-add}
use native.Mathlib.Omega.{arith}
use borrow.Author.Tests.{eq-eqb, ne_eqb, eqb-true, eqb-false, ltb-false, not-false}
use lib.Dec.{eqb, lit<}
use lib.IntN.{ℤ}
use lib.ListN.{length}
use Rattle.rules.proofs.Branches.{taken, left}
use Rattle.fields.specs.Rows.{somewhere}
use Rattle.std.specs.Prelude.{Option, None, Some}
use Rattle.cells.specs.Cover.{start_of, starts_of, members_table}
use Rattle.grid.specs.Build.{refusal_of_members}
use Rattle.rules.proofs.Ladder.{refused_not, demanded, refuse_here, refuse_next}
use Rattle.grid.proofs.Accepting.{Passed, passed}
use Rattle.refusals.proofs.Named.{not_zero}
use Rattle.micro.specs.Micro.{is_coordinate, is_radius, number_at, first_where}
use Rattle.um.specs.declared.Extent.{Extent}
use Rattle.um.specs.declared.Grid.{Grid}
use Rattle.std.proofs.Common.{Fits, w32, Result, Ok, Err, is_ok}
use Rattle.refusals.specs.declared.Refusal.{Refusal}
use Rattle.refusals.specs.Numbers.{number_of, told_of, code_of}
use Rattle.um.specs.declared.Header.{Header}
use Rattle.um.specs.Grid.{triangles_in, extent_of, grid_of, fits, power_at, size_of, cells_in, cover_of, total_of}
use Rattle.um.specs.Build.{header_of, first_bad, told_with, refusal_of_numbers, refusal_of_mesh, refusal_of_size, Outcome}
use Rattle.um.specs.Build.{Built, told, outcome, refused_by, accepted_with, unless, filled_of, gridded, build_of}
use Rattle.um.specs.Inside.{Gridded}
use Rattle.um.proofs.Places.{found, none}
use Rattle.um.proofs.Gridding.{counted}

-- ---- refusals 1 to 4
pub record Accepted (mesh : List ℤ) (floor r : ℕ) : Type 0 where
  pub nine : length mesh ≡ triangles_in mesh * 9
  pub few : triangles_in mesh ≤ 65536
  pub some : 0 < triangles_in mesh
  pub bottom : is_coordinate floor ≡ true
  pub radius : is_radius r ≡ true
  pub numbers : (k : ℕ) → k < length mesh → is_coordinate (number_at mesh k) ≡ true

pub place_below : (mesh : List ℤ) (p : ℕ) → first_bad mesh ≡ Some p → p < length mesh
unfolding first_bad
place_below mesh p e = omega (arith, (found (λ k. not (is_coordinate (number_at mesh k))) 0 (length mesh) p e).past)

pub place_fits : (mesh : List ℤ) (p : ℕ) (o : Option ℕ) → o ≡ first_bad mesh → o ≡ Some p → length mesh ≤ 589824 → Fits w32 p
place_fits mesh p o e f h = record { fits = omega (arith, place_below mesh p (sym e ∙ f)) }

all_good : (mesh : List ℤ) → somewhere (first_bad mesh) ≡ false → (k : ℕ) → k < length mesh → is_coordinate (number_at mesh k) ≡ true
unfolding first_bad
all_good mesh e k h = not-false _ (rw zero-add at (none (λ k. not (is_coordinate (number_at mesh k))) 0 (length mesh) e k h))

pub accepted : (mesh : List ℤ) (floor r : ℕ) → refusal_of_mesh mesh floor r ≡ 0 → Accepted mesh floor r
unfolding refusal_of_mesh refusal_of_numbers
accepted mesh floor r e =
    let a = demanded _ 1 _ (lit< tt) e in
    let b = refused_not _ 1 _ (lit< tt) a.1 in
    let c = refused_not _ 3 _ (lit< tt) b.1 in
    let d = demanded _ 2 _ (lit< tt) c.1 in
    let f = demanded _ 2 _ (lit< tt) d.1 in
    let g = refused_not _ 4 _ (lit< tt) f.1 in
    let z : length mesh % 9 ≡ 0 = eqb-true (length mesh % 9) 0 a.0 in
    let n : triangles_in mesh ≡ 0 → ⊥ = eqb-false (triangles_in mesh) 0 c.0 in
    record {
      nine = omega (arith, div-add-mod' (length mesh) 9);
      few = ltb-false _ _ b.0;
      some = omega arith;
      bottom = d.0;
      radius = f.0;
      numbers = all_good mesh g.0;
    }

-- ---- refusal 5
pub record Sized (e : Extent) (lent cell : ℕ) : Type 0 where
  pub power : ℕ
  pub small : power < 32
  pub is : cell ≡ 2 ^ power
  pub passes : Passed (grid_of e cell).columns (grid_of e cell).rows lent

fit : (e : Extent) (lent cell : ℕ) → fits e lent cell ≡ true → Passed (grid_of e cell).columns (grid_of e cell).rows lent
unfolding fits grid_of
fit e lent cell t = passed _ _ lent (eqb-true _ 0 t)

sized_at : (e : Extent) (lent : ℕ) (p : Option ℕ) → first_where (λ k. fits e lent (2 ^ k)) 0 32 ≡ p → (power_at p ≡ 0 → ⊥) → Sized e lent (power_at p)
unfolding power_at
sized_at e lent None q h = absurd (h refl)
sized_at e lent (Some k) q h =
    let f = found (λ k. fits e lent (2 ^ k)) 0 32 k q in
    record { power = k; small = omega (arith, f.past); is = refl; passes = fit e lent (2 ^ k) f.passes }

pub sized : (e : Extent) (lent cell : ℕ) → cell ≡ size_of e lent → (cell ≡ 0 → ⊥) → Sized e lent cell
unfolding size_of
sized e lent cell q h = rw q (sized_at e lent _ refl (λ z. h (q ∙ z)))

pub size_passes : (cell : ℕ) → refusal_of_size cell ≡ 0 → (cell ≡ 0 → ⊥)
unfolding refusal_of_size
size_passes cell e = eqb-false cell 0 (refused_not _ 5 0 (lit< tt) e).0

-- whether a call was passed
pub passes_as : {A : Type 0} (q : Result A Refusal) (k : ℕ) → code_of q ≡ k → is_ok q ≡ eqb k 0
unfolding code_of
passes_as (Ok a) k e = sym (eq-eqb k 0 (sym e))
passes_as (Err r) k e = sym (ne_eqb k 0 (λ z. not_zero r (e ∙ z)))

-- ---- how a refusal is told
told_err : (e : Refusal) (k p : ℕ) → number_of e ≡ k → told_of e ≡ p → told (Err e) ≡ refused_by k p
unfolding told
told_err e k p a b = rw (a, b) refl

-- ---- refused, or what comes next
module _ (k p : ℕ) (s m : List ℕ) (next : Outcome) where
  unless_refused_lem : (b : Built) → b ≡ refused_by k p → (k ≡ 0 → ⊥) → outcome b s m ≡ unless k p s m next
  unfolding unless
  unless_refused_lem b e h = ap (λ (x : Built). outcome x s m) e ∙ left _ _ _ _ (ne_eqb k 0 h) refl

  unless_next : (o : Outcome) → k ≡ 0 → o ≡ next → o ≡ unless k p s m next
  unfolding unless
  unless_next o h e = taken _ _ _ _ (eq-eqb k 0 h) e

-- ---- the tables, or refusal 6
module _ (mesh : List ℤ) (n : ℕ) (g : Grid) (floor r : ℕ) (s m : List ℕ) (z : Gridded mesh n g) (t k : ℕ) (p : t ≡ total_of mesh g n)
    (q : k ≡ refusal_of_members t (length m)) where
  asked : k ≡ refusal_of_members (start_of (cover_of mesh g) n (cells_in g)) (length m)
  asked = q ∙ ap (λ (x : ℕ). refusal_of_members x (length m)) (p ∙ counted mesh g n z)

  pub filled_refused : (b : Built) → b ≡ refused_by k 0 → (k ≡ 0 → ⊥) → outcome b s m ≡ filled_of mesh n g floor r s m
  unfolding filled_of
  filled_refused b e h = unless_refused_lem _ 0 s m _ b (e ∙ ap (λ (x : ℕ). refused_by x 0) asked) (λ z. h (asked ∙ z))

  pub filled_accepted : (s' m' : List ℕ) → k ≡ 0 → s' ≡ starts_of (cover_of mesh g) n (cells_in g) s → m' ≡ members_table (cover_of mesh g) n (cells_in g) m
      → outcome (record {
        refusal = 0;
        triangle = 0;
        number = 0;
        header = record { n = n; x = g.x; y = g.y; floor = floor; r = r; columns = g.columns; rows = g.rows; cell = g.cell };
      }) s' m'
      ≡ filled_of mesh n g floor r s m
  unfolding filled_of accepted_with header_of
  filled_accepted s' m' e b c = unless_next _ 0 s m _ _ (sym asked ∙ e) (rw (b, c) refl)

  -- the same, by the refusal's name
  pub filled_err : (e : Refusal) → number_of e ≡ k → told_of e ≡ 0 → (o : Result Header Refusal) → o ≡ Err e → outcome (told o) s m ≡ filled_of mesh n g floor r s m
  filled_err e a b o h = filled_refused (told o) (ap told h ∙ told_err e k 0 a b) (λ z. not_zero e (a ∙ z))

  pub filled_ok : (s' m' : List ℕ) → k ≡ 0 → s' ≡ starts_of (cover_of mesh g) n (cells_in g) s → m' ≡ members_table (cover_of mesh g) n (cells_in g) m
      → outcome (told (Ok (record { n = n; x = g.x; y = g.y; floor = floor; r = r; columns = g.columns; rows = g.rows; cell = g.cell }))) s' m'
      ≡ filled_of mesh n g floor r s m
  unfolding told accepted_with
  filled_ok s' m' e b c = filled_accepted s' m' e b c

-- ---- refusal 5, or what comes next; e and cell are the extremes and the size as they were found
module _ (mesh : List ℤ) (n floor r : ℕ) (s m : List ℕ) (e : Extent) (cell : ℕ) (p : e ≡ extent_of mesh n) (q : cell ≡ size_of e (length s)) where
  size_is : cell ≡ size_of (extent_of mesh n) (length s)
  size_is = q ∙ ap (λ (x : Extent). size_of x (length s)) p

  pub gridded_refused : (b : Built) → b ≡ refused_by 5 0 → cell ≡ 0 → outcome b s m ≡ gridded mesh n floor r s m
  unfolding gridded refusal_of_size
  gridded_refused b f h =
      let k : 5 ≡ refusal_of_size (size_of (extent_of mesh n) (length s)) = unfold refusal_of_size in refuse_here _ 5 0 5 (eq-eqb _ 0 (sym size_is ∙ h)) refl in
      unless_refused_lem _ 0 s m _ b (f ∙ ap (λ (x : ℕ). refused_by x 0) k) (λ z. let w = k ∙ z in omega (arith, w))

  pub gridded_err : (f : Refusal) → number_of f ≡ 5 → told_of f ≡ 0 → cell ≡ 0 → outcome (told (Err f)) s m ≡ gridded mesh n floor r s m
  gridded_err f a b h = gridded_refused (told (Err f)) (told_err f 5 0 a b) h

  pub gridded_next : (o : Outcome) (g : Grid) → (cell ≡ 0 → ⊥) → g ≡ grid_of e cell → o ≡ filled_of mesh n g floor r s m → o ≡ gridded mesh n floor r s m
  unfolding gridded refusal_of_size
  gridded_next o g h f t =
      let k : 0 ≡ refusal_of_size (size_of (extent_of mesh n) (length s)) = unfold refusal_of_size in refuse_next _ 5 0 0 (ne_eqb _ 0 (λ z. h (size_is ∙ z))) refl in
      unless_next _ 0 s m _ o (sym k) (t ∙ (rw (f, size_is, p) refl))

-- ---- refusals 1 to 4, or what comes next
module _ (mesh : List ℤ) (floor r : ℕ) (s m : List ℕ) (k : ℕ) (q : k ≡ refusal_of_mesh mesh floor r) where
  pub built_refused : (p : ℕ) → p ≡ told_with k mesh → (b : Built) → b ≡ refused_by k p → (k ≡ 0 → ⊥) → outcome b s m ≡ build_of mesh floor r s m
  unfolding build_of
  built_refused p t b e h =
      unless_refused_lem _ _ s m _ b (e ∙ ap (refused_by k) t ∙ ap (λ (x : ℕ). refused_by x (told_with x mesh)) q) (λ z. h (q ∙ z))

  pub built_err : (e : Refusal) → number_of e ≡ k → told_of e ≡ told_with k mesh → (o : Result Header Refusal) → o ≡ Err e
      → outcome (told o) s m ≡ build_of mesh floor r s m
  built_err e a b o h = built_refused (told_with k mesh) refl (told o) (ap told h ∙ told_err e k (told_with k mesh) a b) (λ z. not_zero e (a ∙ z))

  pub built_next : (o : Outcome) → k ≡ 0 → o ≡ gridded mesh (triangles_in mesh) floor r s m → o ≡ build_of mesh floor r s m
  unfolding build_of
  built_next o h e = unless_next _ _ s m _ o (sym q ∙ h) e
