-- The order of triangles is strict and total: by z, and where two are as high by their numbers.
use mathlib.Core.Bool.{Bool, true, false, cond}
use mathlib.Core.List.{List}
use mathlib.Core.Logic.{◌⊎◌, inl, inr, ⊎_elim}
use mathlib.Core.Path.{◌≡◌, refl, sym, ◌∙◌}
use Prim.Native.Nat.{ℕ, ◌≤◌}
use native.Mathlib.Omega.{arith}
use borrow.Author.Tests.{le-ltb, ltb-false, leb-true, leb-false}
use lib.Dec.{T, leb}
use lib.Ieee.{Float, binary64, fits}
use Rattle.numbers.specs.Reals.{num}
use Rattle.numbers.specs.Order.{total_less, TotalOrder}
use Rattle.numbers.proofs.Places.{total_order}
use Rattle.sort.specs.Ranks.{z_of, before}
use Rattle.sort.proofs.Counts.{on_or_off}
use Rattle.sort.proofs.Heaps.{Strict}

clash : {A : Type 0} (b : Bool) → b ≡ true → b ≡ false → A
clash b p q = let z : ◌≡◌ {A = ℕ} (cond b 1 0) 0 = rw q in let o : ◌≡◌ {A = ℕ} (cond b 1 0) 1 = rw p in absurd (omega arith)

-- each number of the mesh is an f64
abbrev pub Held : List Float → Type 0
Held mesh = (k : ℕ) → T (fits binary64 (num mesh k))

module _ (mesh : List Float) (held : Held mesh) where
  order : (x y z : ℕ) → TotalOrder (z_of mesh x) (z_of mesh y) (z_of mesh z)
  order x y z = total_order _ _ _ (held _) (held _) (held _)

  itself : (x : ℕ) → total_less (z_of mesh x) (z_of mesh x) ≡ false
  itself x = ⊎_elim (λ e. (order x x x).antisymmetric e) (λ e. e) (on_or_off _)

  -- x does not come after y: it is higher, or as high and its number is not above
  abbrev Upto : ℕ → ℕ → Type 0
  Upto x y = (total_less (z_of mesh y) (z_of mesh x) ≡ true) ⊎ ((z_of mesh x ≡ z_of mesh y) × (x ≤ y))

  upto : (x y : ℕ) → before mesh y x ≡ false → Upto x y
  unfolding before
  upto x y h =
      ⊎_elim
      (λ (a : total_less (z_of mesh x) (z_of mesh y) ≡ true). clash true refl (rw a at h))
      (λ (a : total_less (z_of mesh x) (z_of mesh y) ≡ false).
      ⊎_elim
      (λ (b : total_less (z_of mesh y) (z_of mesh x) ≡ true). inl b)
      (λ (b : total_less (z_of mesh y) (z_of mesh x) ≡ false).
      ⊎_elim
      (λ e. inr (e, ltb-false y x (rw (a, b) at h)))
      (⊎_elim (λ e. clash _ e a) (λ e. clash _ e b))
      (order x y y).total)
      (on_or_off _))
      (on_or_off _)

  upto_is : (x y : ℕ) → Upto x y → before mesh y x ≡ false
  unfolding before
  upto_is x y (inl h) = rw ((order y x x).antisymmetric h, h)
  upto_is x y (inr h) = rw (h.0, itself y) (le-ltb y x h.1)

  through : (x y z : ℕ) → Upto x y → Upto y z → Upto x z
  through x y z (inl h) (inl k) = inl ((order z y x).transitive k h)
  through x y z (inl h) (inr k) = inl (rw k.0 at h)
  through x y z (inr h) (inl k) = inl (rw h.0 k)
  through x y z (inr h) (inr k) = inr (h.0 ∙ k.0, omega arith)

  one : (x y : ℕ) → Upto x y → Upto y x → x ≡ y
  one x y (inl h) (inl k) = clash _ k ((order y x x).antisymmetric h)
  one x y (inl h) (inr k) = clash _ (rw k.0 at h) (itself x)
  one x y (inr h) (inl k) = clash _ (rw h.0 at k) (itself y)
  one x y (inr h) (inr k) = omega arith

  either_way : (x y : ℕ) → Upto x y ⊎ Upto y x
  either_way x y =
      ⊎_elim
      (λ e.
      ⊎_elim
      (λ (l : leb x y ≡ true). inl (inr (e, leb-true x y l)))
      (λ (l : leb x y ≡ false). let m = leb-false x y l in inr (inr (sym e, omega arith)))
      (on_or_off (leb x y)))
      (⊎_elim (λ e. inr (inl e)) (λ e. inl (inl e)))
      (order x y y).total

  pub before_strict : Strict (before mesh)
  before_strict =
      record {
        never = λ x. upto_is x x (inr (refl, omega arith));
        one_way = λ x y h. ⊎_elim (λ (u : Upto x y). upto_is x y u) (λ (u : Upto y x). clash _ h (upto_is y x u)) (either_way x y);
        through = λ x y z h k. upto_is x z (through x y z (upto x y h) (upto y z k));
        one = λ x y h k. one x y (upto x y k) (upto y x h);
      }
