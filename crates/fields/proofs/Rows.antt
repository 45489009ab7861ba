-- Laws of a row of numbers: a search that goes on, stops or ends, and a table filled one entry after the other.
use mathlib.Core.Bool.{Bool, true, false, cond}
use mathlib.Core.List.{List, ◌∷◌, ◌++◌}
use mathlib.Core.Path.{◌≡◌, refl, ap}
use Prim.Native.Nat.{ℕ, zero, suc, ◌+◌, ◌-◌, ◌≤◌, ◌<◌}
use native.Mathlib.Nat.{add-zero}
use native.Mathlib.Numerals.{add-one}
use native.Mathlib.Omega.{arith}
use lib.Ieee.{Float, nan}
use lib.ListN.{length, drop, set}
use lib.Seq.{drop-cons, set_at}
use Rattle.fields.specs.Rows.{finite, row, first_bad, somewhere}
use Rattle.std.specs.Prelude.{Option, None, Some}

module _ (f : ℕ → Float) where
  -- ---- the search for a number that is not finite, at number k of n
  module _ (n k : ℕ) (p : Option ℕ) where
    pub bad_stops : k < n → finite (f k) ≡ false → first_bad f k (n - k) ≡ p → Some k ≡ p
    unfolding first_bad
    bad_stops h e i =
        let s : n - k ≡ suc (n - (k + 1)) = omega arith in
        rw (s, e) at i

    pub bad_goes : k < n → finite (f k) ≡ true → first_bad f k (n - k) ≡ p → first_bad f (k + 1) (n - (k + 1)) ≡ p
    unfolding first_bad
    bad_goes h e i =
        let s : n - k ≡ suc (n - (k + 1)) = omega arith in
        rw (s, e) at i

    pub bad_ends : n ≤ k → first_bad f k (n - k) ≡ p → None ≡ p
    unfolding first_bad
    bad_ends h i =
        let s : n - k ≡ 0 = omega arith in
        rw s at i

  -- ---- what a search that found nothing passed
  found_is : (b : Bool) (k : ℕ) (p : Option ℕ) → somewhere (cond b p (Some k)) ≡ false → (b ≡ true) × (somewhere p ≡ false)
  unfolding somewhere
  found_is true k p e = (refl, e)
  found_is false k p e = let z : ◌≡◌ {A = ℕ} 0 1 = cc in absurd (omega arith)

  pub passed : (k c : ℕ) → somewhere (first_bad f k c) ≡ false → (i : ℕ) → i < c → finite (f (k + i)) ≡ true
  unfolding first_bad
  passed k zero e i h = elim h [ ]
  passed k (suc c) e zero h = rw add-zero (found_is _ k _ e).0
  passed k (suc c) e (suc i) h =
      let s : k + suc i ≡ k + 1 + i = omega arith in
      rw s (passed (k + 1) c (found_is (finite (f k)) k _ e).1 i (omega arith))

  pub passes : (k c : ℕ) → ((i : ℕ) → i < c → finite (f (k + i)) ≡ true) → somewhere (first_bad f k c) ≡ false
  unfolding first_bad somewhere
  passes k zero g = refl
  passes k (suc c) g =
      let e : finite (f k) ≡ true = rw add-zero at (g 0 (omega arith)) in
      rw e (passes (k + 1) c (λ i h. let s : k + suc i ≡ k + 1 + i = omega arith in rw s at (g (suc i) (omega arith))))

-- ---- a table that is filled, with numbers of any kind; z is any of them
module _ {A : Type 0} (f : ℕ → A) where
  pub row_length : (k c : ℕ) → length (row f k c) ≡ c
  unfolding row
  row_length k zero = refl
  row_length k (suc c) = ap suc (row_length (k + 1) c)

  row_more : (k c : ℕ) (xs : List A) → row f k (suc c) ++ xs ≡ row f k c ++ f (k + c) ∷ xs
  unfolding row
  row_more k zero xs = rw add-zero
  row_more k (suc c) xs =
      let s : k + suc c ≡ k + 1 + c = omega arith in
      rw s (ap (λ (l : List A). f k ∷ l) (row_more (k + 1) c xs))

  pub filled_next : (z : A) (k i : ℕ) (out : List A) → i < length out → set (row f k i ++ drop i out) i (f (k + i)) ≡ row f k (i + 1) ++ drop (i + 1) out
  filled_next z k i out h =
      rw (add-one i, drop-cons out i z h, row_more) (set_at (row f k i) _ _ _ i (row_length k i))

pub filled_more : (f : ℕ → Float) (k i : ℕ) (out : List Float) → i < length out
    → set (row f k i ++ drop i out) i (f (k + i)) ≡ row f k (i + 1) ++ drop (i + 1) out
filled_more f = filled_next f nan
