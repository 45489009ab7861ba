-- `numbers::round_down` meets its contract: from 2^52 on x is whole;
-- below 1 another function answers; between, the law of masks is `cut_any` (`Rounding.antt`).
use Rattle.std.proofs.Common.{◌≡◌, ℕ, ◌+◌, ◌-◌, ◌^◌, ◌<◌, ◌≤◌, T, leb, sym, refl, ap, ◌∙◌, subst, arith, rules}
use lib.Bits.{and_le_l}
use lib.Ieee.{Float, nan, binary64, fits, to_bits}
use lib.Ieee.Bits.{of_bits-to_bits, to_bits-lt}
use lib.Ieee.Compare.{differs_from_itself}
use Rattle.numbers.specs.Rounding.{round_down_of}
use Rattle.numbers.proofs.Patterns.{no_nan, apart, exponent_of, fraction_of, exponent_lt, fraction_lt}
use Rattle.numbers.proofs.Rounding.{Stepped, behind_is, cut_any, down_whole}
use Rattle.numbers.proofs.round_down.Statement.{statement}
use Rattle.numbers.proofs.round_down.Tie as tie

-- what owning an f64 tells: the format holds it
held : (c : tie.Start) → T (fits binary64 c.args.x)
held c = subst T (sym c.well_formed.0.1) tt

abbrev bits : tie.Start → ℕ
bits c = to_bits binary64 c.args.x

down_nan : (x : Float) → x ≡ nan → x ≡ round_down_of x
unfolding round_down_of
down_nan x e = e ∙ ap round_down_of (sym e)

returns : tie.Need-returns-then-x
returns c = down_nan c.before.args.x (differs_from_itself c.before.args.x (subst T (sym c.if-x.true) tt))

returns-2 : tie.Need-returns-then-exponent-ge1075
returns-2 c =
    let a = c.before.before in
    let s = leb (2 ^ 63) (bits a) in
    let e = apart a.args.x s (held a) refl in
    e ∙ down_whole s (exponent_of (bits a)) (fraction_of (bits a)) c.if-exponent-ge1075.true (exponent_lt (bits a)) (fraction_lt (bits a)) ∙ ap round_down_of (sym e)

round_down_small-requires : tie.Need-round_down_small-requires
round_down_small-requires c κs = let a = c.before.before.before in (sym (of_bits-to_bits binary64 a.args.x (held a)), c.if-exponent-lt1023.true)

-- ---- past the tests: from 1 to 52 digits stand behind the point
abbrev low : tie.Start → ℕ
low c = 1075 - exponent_of (bits c)

few : (c : tie.Else-exponent-lt1023) → low c.before.before.before ≤ 52
few c = go (exponent_of (bits c.before.before.before)) c.if-exponent-lt1023.false
  where
    go : (e : ℕ) → 1023 ≤ e → 1075 - e ≤ 52
    go e h = omega arith

cut : (c : tie.Else-exponent-lt1023) → Stepped (bits c.before.before.before) (low c.before.before.before)
cut c =
    let a = c.before.before.before in
    let e = exponent_of (bits a) in
    cut_any (bits a) (low a) (to_bits-lt binary64 a.args.x (held a)) (sum e c.before.if-exponent-ge1075.false) (some e c.before.if-exponent-ge1075.false) (few c)
  where
    sum : (e : ℕ) → e < 1075 → 1075 - e + e ≡ 1075
    sum e h = omega arith

    some : (e : ℕ) → e < 1075 → 1 ≤ 1075 - e
    some e h = omega arith

returns-4 : tie.Need-returns
returns-4 c = let a = c.before.before.before in (cut c).1.is ∙ ap round_down_of (of_bits-to_bits binary64 a.args.x (held a))

pub round_down_spec : {M : Type 1} → statement M
round_down_spec =
    tie.close
    (tie.spec
    returns
    (λ c. no_nan c.before.args.x c.if-x.false)
    returns-2
    round_down_small-requires
    (λ c. search rules)
    (λ c. search rules)
    (λ c. search rules)
    (λ c. (behind_is _ (few c)).0)
    (λ c. record { fits = product (bits c.before.before.before) _ (cut c).0 })
    (λ c. record { fits = (cut c).0 })
    (λ c. and_le_l _ _)
    (λ c. (cut c).1.no_nan)
    returns-4)
  where
    product : (b p : ℕ) → b + p < 2 ^ 64 → p < 2 ^ 64
    product b p h = omega arith
