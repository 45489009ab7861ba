-- A search whose objective is above 0 at one end has a maximum above 0: its best value takes the ends first, and keeps what is above 0.
use mathlib.Core.Bool.{true, false, cond}
use mathlib.Core.Path.{◌≡◌, refl, sym}
use Prim.Native.Nat.{ℕ, zero, suc, ◌*◌, ◌<◌}
use native.Mathlib.Nat.{zero-mul}
use native.Mathlib.Omega.{arith}
use borrow.Author.Tests.{ltb-true, lt-ltb}
use lib.Ieee.{Float, nan, inf, fin, up, down, lt, is_nan, of_bits}
use Rattle.numbers.specs.Reals.{f0, max_of}
use Rattle.rules.proofs.Branches.{either, no}
use Rattle.golden.specs.Search.{rises, golden_at, best_of, golden_max}

factor : (a b B : ℕ) → b < a * B → 0 < a
factor zero b B h = absurd (omega (arith, zero-mul B))
factor (suc a) b B h = omega arith

-- what is larger than a number above 0 is above 0
risen : (x y : Float) → lt f0 x ≡ true → lt x y ≡ true → lt f0 y ≡ true
unfolding lt of_bits
risen nan y p q = absurd (no q)
risen (inf true) y p q = absurd (no p)
risen (inf false) nan p q = absurd (no q)
risen (inf false) (inf t) p q = absurd (no q)
risen (inf false) (fin t n d) p q = absurd (no q)
risen (fin true m e) y p q = absurd (no p)
risen (fin false m e) nan p q = absurd (no q)
risen (fin false m e) (inf true) p q = absurd (no q)
risen (fin false m e) (inf false) p q = refl
risen (fin false m e) (fin true n d) p q = absurd (no q)
risen (fin false m e) (fin false n d) p q =
    let h = factor (n * up d) (m * up e * down d) (down e) (ltb-true _ _ q) in lt-ltb (0 * down d) (n * up d * 1) (omega (arith, zero-mul (down d)))

never_nan : (x : Float) → lt f0 x ≡ true → is_nan x ≡ true → ⊥
unfolding lt of_bits is_nan
never_nan nan p q = no p
never_nan (inf s) p q = no q
never_nan (fin s m e) p q = no q

kept : (x y : Float) → lt f0 x ≡ true → lt f0 (max_of x y) ≡ true
unfolding max_of
kept x y h =
    either (λ z. lt f0 z ≡ true) (is_nan x) y (cond (lt x y) y x) (λ e. absurd (never_nan x h e))
    (λ e. either (λ z. lt f0 z ≡ true) (lt x y) y x (λ l. risen x y h l) (λ l. h))

module _ (f : Float → Float) (lo hi : Float) (n : ℕ) (low : Float) (p : low ≡ f lo) where
  pub low_risen : lt f0 low ≡ true → true ≡ lt f0 (golden_max f lo hi n)
  unfolding golden_max best_of
  low_risen h =
      let g = golden_at rises f lo hi n in
      let a = max_of (f lo) (f hi) in
      sym (kept (max_of a g.f1) g.f2 (kept a g.f1 (kept (f lo) (f hi) (rw p at h))))

  pub high_risen : (high m : Float) → high ≡ f hi → m ≡ max_of low high → lt f0 m ≡ true → true ≡ lt f0 (golden_max f lo hi n)
  unfolding golden_max best_of
  high_risen high m q e h =
      let g = golden_at rises f lo hi n in
      let a = max_of (f lo) (f hi) in
      sym (kept (max_of a g.f1) g.f2 (kept a g.f1 (rw (e, p, q) at h)))
