-- Laws of a ladder of refusals: which rung answers, and what a rung that was passed says.
use mathlib.Core.Bool.{Bool, true, false, not}
use mathlib.Core.Path.{◌≡◌, refl}
use Prim.Native.Nat.{ℕ, ◌<◌}
use native.Mathlib.Omega.{arith}
use borrow.Author.Tests.{lt-ltb, le-ltb, eq-eqb, ne_eqb, not-true, not-false}
use lib.Dec.{eqb}
use Rattle.rules.proofs.Branches.{taken, left, bool_called}
use Rattle.rules.specs.Ladder.{refuse, demand}

module _ (b : Bool) (k next : ℕ) where
  pub refuse_here : (r : ℕ) → b ≡ true → r ≡ k → r ≡ refuse b k next
  unfolding refuse
  refuse_here r e p = taken _ _ _ _ e p

  pub refuse_next : (r : ℕ) → b ≡ false → r ≡ next → r ≡ refuse b k next
  unfolding refuse
  refuse_next r e p = left _ _ _ _ e p

  pub demand_here : (r : ℕ) → b ≡ false → r ≡ k → r ≡ demand b k next
  unfolding demand
  demand_here r e p = left _ _ _ _ e p

  pub demand_next : (r : ℕ) → b ≡ true → r ≡ next → r ≡ demand b k next
  unfolding demand
  demand_next r e p = taken _ _ _ _ e p

-- a rung that gave another number than its own was passed
pub refused_other : (b : Bool) (k next r : ℕ) → (k ≡ r → ⊥) → refuse b k next ≡ r → (b ≡ false) × (next ≡ r)
unfolding refuse
refused_other true k next r p e = absurd (p e)
refused_other false k next r p e = (refl, e)

module _ (b : Bool) (k next : ℕ) where
  pub refused_not : 0 < k → refuse b k next ≡ 0 → (b ≡ false) × (next ≡ 0)
  refused_not p e = refused_other b k next 0 (λ (z : k ≡ 0). omega arith) e

  pub refused_later : (r : ℕ) → k < r → refuse b k next ≡ r → (b ≡ false) × (next ≡ r)
  refused_later r p e = refused_other b k next r (λ (z : k ≡ r). omega arith) e

pub demanded : (b : Bool) (k next : ℕ) → 0 < k → demand b k next ≡ 0 → (b ≡ true) × (next ≡ 0)
unfolding demand
demanded true k next p e = (refl, e)
demanded false k next p e = absurd (omega arith)

-- what stands below a rung matters only where it is passed
pub refuse_same : (b : Bool) (k x y : ℕ) → (b ≡ false → x ≡ y) → refuse b k x ≡ refuse b k y
unfolding refuse
refuse_same true k x y e = refl
refuse_same false k x y e = e refl

-- a test of what a call gave, from what the call ensures
module _ (x v y : ℕ) (p : x ≡ v) where
  pub differs : (x ≡ y → ⊥) → not (eqb v y) ≡ true
  differs h = rw (← p, ne_eqb x y h)

  pub agrees : x ≡ y → not (eqb v y) ≡ false
  agrees h = rw (← p, eq-eqb x y h)

pub ruleset ladder = (refuse_here, refuse_next, demand_here, demand_next, differs, agrees, bool_called, not-true, not-false, eq-eqb, ne_eqb, lt-ltb, le-ltb)
