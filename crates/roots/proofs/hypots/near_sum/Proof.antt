-- `near_sum` gives from_bits no NaN's bits: the exponents' fields lie below 1023.
use Rattle.std.proofs.Common.{◌≡◌, ℕ, ◌+◌, ◌-◌, ◌*◌, ◌%◌, ◌^◌, ◌<◌, ◌≤◌, false, not, T, subst, arith, lit<, rules}
use lib.Ieee.{binary64, nan_bits, of_bits, is_nan}
use Rattle.numbers.proofs.Patterns.{made_no_nan, no_nan}
use Rattle.roots.proofs.hypots.near_sum.Statement.{statement}
use Rattle.roots.proofs.hypots.near_sum.Tie as tie

first : (m : ℕ) → 0 + (1022 * 2 ^ 52 + m) ≡ 4602678819172646912 + m
first m = omega arith

second : (k n : ℕ) → k ≤ 26 → 0 + ((1022 - k) * 2 ^ 52 + n) ≡ (1022 - k) * 2 ^ 52 % 2 ^ 64 + n
second k n h = omega arith

low : (k : ℕ) → 1022 - k < 2 ^ 11 - 1
low k = omega arith

pub near_sum_spec : {M : Type 1} → statement M
near_sum_spec =
    tie.close
    (tie.spec
    (λ c. search rules)
    (λ c. subst (λ (b : ℕ). T (not (nan_bits binary64 b))) (first c.args.m) (made_no_nan false 1022 c.args.m (lit< tt) c.requires.0))
    (λ c. search rules)
    (λ c. search rules)
    (λ c. subst (λ (b : ℕ). T (not (nan_bits binary64 b))) (second c.args.k c.args.n c.requires.2)
    (made_no_nan false (1022 - c.args.k) c.args.n (low c.args.k) c.requires.1))
    (λ c. unfold of_bits is_nan in tt)
    (λ c. no_nan _ c.if-z.false))
