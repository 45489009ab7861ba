-- `roots::candidate` meets its contract: whatever the guess is, its digits with a leading one are 53.
use Rattle.std.proofs.Common.{◌≡◌, ℕ, ◌+◌, ◌-◌, ◌*◌, ◌%◌, ◌^◌, ◌<◌, not, T, sym, subst, arith, rules}
use lib.Ieee.{binary64, nan_bits}
use Rattle.numbers.proofs.Significands.{plain_no_nan}
use Rattle.roots.proofs.candidate.Statement.{statement}
use Rattle.roots.proofs.candidate.Tie as tie

-- the bits of z are those of a number of 53 digits
float_from_bits-z : tie.Need-float_from_bits-z
float_from_bits-z c =
    subst (λ (b : ℕ). T (not (nan_bits binary64 (b + c.args.m)))) (sym (exact c.args.odd c.requires.2))
    (plain_no_nan c.args.m (1022 - c.args.odd) c.requires.0 c.requires.1 (small c.args.odd))
  where
    exact : (o : ℕ) → o < 2 → (1022 - o) * 2 ^ 52 % 2 ^ 64 ≡ (1022 - o) * 2 ^ 52
    exact o h = omega arith

    small : (o : ℕ) → 1022 - o < 2 ^ 11 - 2
    small o = omega arith

pub candidate_spec : {M : Type 1} → statement M
candidate_spec =
    tie.close
    (tie.spec
    (λ c. search rules)
    (λ c. search rules)
    float_from_bits-z
    (λ c κs. tt)
    (λ c κs. tt)
    (λ c κs. tt)
    (λ c. c.digits_of.ensures))
