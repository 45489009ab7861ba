-- Truncating what was rounded down is truncating: below zero both give 0, and the whole part of a number that is not too large is a float.
use Rattle.std.proofs.Common.{◌≡◌, ℕ, zero, suc, ◌+◌, ◌-◌, ◌*◌, ◌/◌, ◌^◌, ◌<◌, ◌≤◌, min, Bool, true, false, cond, ltb, sym, refl, ap, ◌∙◌, arith, le→leb}
use lib.Ieee.{Float, nan, inf, fin, binary64, prec, emax, low, up, down, odd, units, round, of_int, in_float, to_unsigned}
use lib.Ieee.Fits.{round_is}
use lib.Ieee.Back.{unsigned_back}
use Rattle.numbers.specs.Rounding.{round_down_of}

odd_below : (d q k l : ℕ) → to_unsigned 64 (odd d true q k l) ≡ 0
unfolding odd to_unsigned
odd_below d zero k l = refl
odd_below d (suc q) k l = refl

pick_below : (b : Bool) (d q k l : ℕ) → to_unsigned 64 (cond b (odd d true q k l) (inf true)) ≡ 0
unfolding to_unsigned
pick_below true d q k l = odd_below d q k l
pick_below false d q k l = refl

units_below : (q k : ℕ) → to_unsigned 64 (units binary64 true q k) ≡ 0
unfolding units
units_below q k = pick_below (ltb (q * 2 ^ k) (2 ^ (low binary64 + suc (emax binary64)))) (suc (prec binary64)) q k (low binary64)

round_below : (a c : ℕ) → to_unsigned 64 (round binary64 true a c) ≡ 0
round_below a c = ap (to_unsigned 64) (round_is binary64 true a c) ∙ units_below _ _

whole_part : (n : ℕ) → n < 2 ^ 53 → to_unsigned 64 (round binary64 false n 1) ≡ n
whole_part n h = unfold of_int in (unsigned_back binary64 64 n (unfold in_float in le→leb n (2 ^ 53) (omega arith)) (omega arith)).1

uncapped : (a b c : ℕ) → min a b < c → c ≤ b → min a b ≡ a
uncapped a b c h k = omega arith

pub round_down_cuts : (x : Float) → to_unsigned 64 x < 2 ^ 53 → to_unsigned 64 (round_down_of x) ≡ to_unsigned 64 x
unfolding round_down_of to_unsigned
round_down_cuts nan h = refl
round_down_cuts (inf s) h = refl
round_down_cuts (fin true m e) h = round_below _ _
round_down_cuts (fin false m e) h =
    let n = m * up e / down e in
    let u : min n (2 ^ 64 - 1) ≡ n = uncapped n (2 ^ 64 - 1) (2 ^ 53) h (omega arith) in
    whole_part n (rw u at h) ∙ sym u
