-- `guessed` meets its contract: only the candidate's range is told.
use Rattle.std.proofs.Common.{◌≡◌, ℕ, ◌+◌, ◌-◌, ◌*◌, ◌/◌, ◌%◌, ◌^◌, ◌<◌, ◌≤◌, false, not, T, sym, subst, arith}
use lib.Bits.{bit_and, mask_lt}
use lib.Ieee.{Float, binary64, nan_bits, to_bits}
use lib.Ieee.Bits.{to_bits-lt}
use Rattle.numbers.proofs.Patterns.{made_no_nan}
use Rattle.roots.proofs.hypots.guessed.Statement.{statement}
use Rattle.roots.proofs.hypots.guessed.Tie as tie

low : (z : Float) → bit_and (to_bits binary64 z) (2 ^ 53 - 1) < 2 ^ 53
low z = mask_lt (to_bits binary64 z) 53

-- fields of 1022 or 1023
no_nan : (w : ℕ) → w < 2 ^ 53 → T (not (nan_bits binary64 (w + 4602678819172646912)))
no_nan w h = subst (λ (b : ℕ). T (not (nan_bits binary64 b))) (same w) (made_no_nan false (1022 + w / 2 ^ 52) (w % 2 ^ 52) (few w h) (rest w))
  where
    same : (w : ℕ) → 0 + ((1022 + w / 2 ^ 52) * 2 ^ 52 + w % 2 ^ 52) ≡ w + 4602678819172646912
    same w = omega arith

    few : (w : ℕ) → w < 2 ^ 53 → 1022 + w / 2 ^ 52 < 2 ^ 11 - 1
    few w h = omega arith

    rest : (w : ℕ) → w % 2 ^ 52 < 2 ^ 52
    rest w = omega arith

wide : (c : tie.Start) → to_bits binary64 c.args.z < 2 ^ 64
wide c = to_bits-lt binary64 c.args.z (subst T (sym c.well_formed.0.1) tt)

most : (w : ℕ) → bit_and w 1 ≤ 1
most w = let h = mask_lt w 1 in omega arith

pub guessed_spec : {M : Type 1} → statement M
guessed_spec =
    tie.close
    (tie.spec
    (λ c. c.requires)
    (λ c. omega (arith, low c.args.z))
    (λ c. no_nan _ (low c.args.z))
    (λ c κs. tt)
    (λ c κs. tt)
    (λ c. omega (arith, wide c.before.before))
    (λ c κs. tt)
    (λ c κs. tt)
    (λ c. (most c.before.wrapping_sub_u64.result, c.digits_of.ensures.0, c.digits_of.ensures.1)))
