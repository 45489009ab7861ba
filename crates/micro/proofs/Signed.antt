-- An i32 as a whole number: counted from the least one, and back.
use mathlib.Core.Bool.{Bool, cond}
use mathlib.Core.Path.{◌≡◌, refl, sym, ap, ◌∙◌, subst}
use Prim.Native.Nat.{ℕ, zero, suc, ◌-◌, ◌^◌, ◌<◌}
use native.Mathlib.Nat.{lt_of_lt_of_le}
use native.Mathlib.Omega.{arith}
use borrow.Author.Tests.{le-ltb}
use lib.IntN.{ℤ, pos, negsuc, nat_abs, ◌+ℤ◌, ◌-ℤ◌}
use lib.Dec.{T, lit≤}
use lib.Signed.{mag, non_neg}
use mir.Syntax.{w32, w64}
use mir.Val.{Fits, SFits, to_z, of_z}
use mir.ValLaws.{to_z_pos, to_z-of_z}
use Rattle.numbers.proofs.Casts.{cast_fits, kept, pos_fits}
use Rattle.micro.specs.Micro.{counted}

-- ---- -1 - n
below : (n : ℕ) → negsuc 0 -ℤ pos n ≡ negsuc n
below zero = refl
below (suc n) = ap negsuc (omega arith)

module _ (n : ℕ) (h : n < 2147483648) where
  below_is : negsuc 0 -ℤ to_z w32 n ≡ negsuc n
  below_is = ap (λ (z : ℤ). negsuc 0 -ℤ z) (to_z_pos w32 n h) ∙ below n

  pub below_fits : SFits w32 (negsuc 0 -ℤ to_z w32 n)
  below_fits = subst (SFits w32) (sym below_is) (record { sfits = h })

  pub below_read : to_z w32 (of_z w32 (negsuc 0 -ℤ to_z w32 n)) ≡ negsuc n
  below_read = to_z-of_z w32 _ below_fits ∙ below_is

-- ---- an i32 that was written is read again
pub again : (z : ℤ) → mag z < 2147483648 → to_z w32 (of_z w32 z) ≡ z
again z h = to_z-of_z w32 z (record { sfits = h })

-- ---- counting
wide : (z : ℤ) → SFits w32 z → SFits w64 z
wide z f = record { sfits = lt_of_lt_of_le f.sfits (lit≤ tt) }

add_is : (z : ℤ) → mag z < 2147483648 → z +ℤ pos 2147483648 ≡ pos (counted z)
unfolding counted
add_is (pos a) h = refl
add_is (negsuc a) h =
    ap (λ (t : Bool). cond t (negsuc (suc a - suc 2147483648)) (pos (2147483648 - suc a))) (le-ltb 2147483648 (suc a) (omega arith)) ∙ ap pos (less a h)
  where
    less : (a : ℕ) → a < 2147483648 → 2147483648 - suc a ≡ 2147483647 - a
    less a h = omega arith

counted_lt : (z : ℤ) → mag z < 2147483648 → counted z < 4294967296
unfolding counted
counted_lt (pos a) h = omega arith
counted_lt (negsuc a) h = omega arith

module _ (z : ℤ) (f : SFits w32 z) where
  same : to_z w64 (of_z w64 (to_z w32 (of_z w32 z))) ≡ z
  same = ap (λ (y : ℤ). to_z w64 (of_z w64 y)) (to_z-of_z w32 z f) ∙ to_z-of_z w64 z (wide z f)

  sum : to_z w64 (of_z w64 (to_z w32 (of_z w32 z))) +ℤ pos 2147483648 ≡ pos (counted z)
  sum = ap (λ (y : ℤ). y +ℤ pos 2147483648) same ∙ add_is z f.sfits

  small : counted z < 2 ^ 63
  small = omega (arith, counted_lt z f.sfits)

  pub widened_fits : SFits w64 (to_z w32 (of_z w32 z))
  widened_fits = subst (SFits w64) (sym (to_z-of_z w32 z f)) (wide z f)

  pub sum_fits : SFits w64 (to_z w64 (of_z w64 (to_z w32 (of_z w32 z))) +ℤ pos 2147483648)
  sum_fits = pos_fits _ _ sum small

  sum_kept : to_z w64 (of_z w64 (to_z w64 (of_z w64 (to_z w32 (of_z w32 z))) +ℤ pos 2147483648)) ≡ pos (counted z)
  sum_kept = kept _ _ sum small

  pub count_fits : T (non_neg (to_z w64 (of_z w64 (to_z w64 (of_z w64 (to_z w32 (of_z w32 z))) +ℤ pos 2147483648))))
      × Fits w64 (nat_abs (to_z w64 (of_z w64 (to_z w64 (of_z w64 (to_z w32 (of_z w32 z))) +ℤ pos 2147483648))))
  count_fits = cast_fits _ _ sum_kept small

  pub count_is : (nat_abs (to_z w64 (of_z w64 (to_z w64 (of_z w64 (to_z w32 (of_z w32 z))) +ℤ pos 2147483648))) ≡ counted z)
      × (nat_abs (to_z w64 (of_z w64 (to_z w64 (of_z w64 (to_z w32 (of_z w32 z))) +ℤ pos 2147483648))) < 2 ^ 32)
  count_is = let e = ap nat_abs sum_kept in (e, rw e (counted_lt z f.sfits))
