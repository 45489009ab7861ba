-- The triangles of a mesh one after the other: each is apart, and so is what stands past the table's end.
use mathlib.Core.Bool.{Bool, true, false}
use mathlib.Core.List.{List}
use mathlib.Core.Logic.{inl, inr}
use mathlib.Core.Path.{◌≡◌, refl, sym, ap, ◌∙◌}
use Prim.Native.Nat.{ℕ, ◌+◌, ◌*◌, ◌≤◌, ◌<◌}
use native.Mathlib.Omega.{arith}
use borrow.Author.Tests.{ltb-true, ltb-false, eqb-true, eqb-false}
use lib.Dec.{eqb, ltb}
use lib.Ieee.{Float, nan, lt, le, eq}
use lib.ListN.{length, get_or-eq_default}
use Rattle.numbers.specs.Reals.{◌⊖◌}
use Rattle.rules.proofs.Branches.{by_test}
use Rattle.plane.specs.declared.Bounds.{Bounds}
use Rattle.plane.specs.declared.Triangle.{Triangle}
use Rattle.plane.specs.Mesh.{triangle_of}
use Rattle.grid.specs.Boxes.{box_at}
use Rattle.tops.specs.Inside.{margin, lies_low}
use Rattle.start.specs.Inside.{Apart}

module _ (mesh boxes : List Float) (from : Float) where
  pub apart_high : (i : ℕ) (b : Bounds) → b ≡ box_at boxes i → le b.top from ≡ false → Apart mesh boxes from i
  apart_high i b e l = inl (ap (λ (v : Bounds). le v.top from) (sym e) ∙ l)

  pub apart_low : (i : ℕ) (low : Float) (t : Triangle) (r : Bool) → low ≡ from ⊖ margin → t ≡ triangle_of mesh i → r ≡ lies_low low t → r ≡ true
      → Apart mesh boxes from i
  apart_low i low t r d e f g = inr (ap (λ (v : Float). lies_low v (triangle_of mesh i)) (sym d) ∙ ap (lies_low low) (sym e) ∙ sym f ∙ g)

  -- the first k
  abbrev pub ApartTo : ℕ → Type 0
  ApartTo k = (i : ℕ) → i < k → Apart mesh boxes from i

  pub apart_none : ApartTo 0
  apart_none i h = absurd (omega arith)

  pub apart_more : (k : ℕ) → ApartTo k → Apart mesh boxes from k → ApartTo (k + 1)
  apart_more k a b i h =
      by_test (eqb i k)
      (λ e. rw (eqb-true i k e) b)
      (λ e. a i (let n = eqb-false i k e in omega arith))

  past : (i : ℕ) → length boxes ≤ 5 * i + 4 → Apart mesh boxes from i
  unfolding box_at
  past i h = inl (ap (λ (v : Float). le v from) (get_or-eq_default boxes nan h) ∙ unfold le lt eq in refl)

  pub apart_all : (n k : ℕ) → length boxes ≡ n * 5 → n ≤ k → ApartTo k → (i : ℕ) → Apart mesh boxes from i
  apart_all n k five h a i =
      by_test (ltb i k)
      (λ e. a i (ltb-true i k e))
      (λ e. past i (omega (arith, ltb-false i k e)))
