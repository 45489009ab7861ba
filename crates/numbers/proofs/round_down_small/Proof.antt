-- `numbers::round_down_small` meets its contract: zeros stay, and by its sign any other x goes to -1 or 0 (`Rounding.antt`).
use Rattle.std.proofs.Common.{◌≡◌, ℕ, ◌^◌, Bool, true, false, leb, sym, refl, ap, ◌∙◌}
use lib.Ieee.{binary64, of_fields, of_bits, round}
use Rattle.numbers.specs.Rounding.{round_down_of}
use Rattle.numbers.proofs.Patterns.{apart_bits, exponent_of, fraction_of, fraction_lt, sign_clear, sign_set, magnitude_zero, magnitude_some}
use Rattle.numbers.proofs.Rounding.{down_zero, down_small}
use Rattle.numbers.proofs.round_down_small.Statement.{statement}
use Rattle.numbers.proofs.round_down_small.Tie as tie

by_fields : (c : tie.Start) (s : Bool) → leb (2 ^ 63) c.args.bits ≡ s
    → c.args.x ≡ of_fields binary64 s (exponent_of c.args.bits) (fraction_of c.args.bits)
by_fields c s e = c.requires.0 ∙ apart_bits c.args.bits s e

minus_one : of_bits binary64 13830554455654793216 ≡ round binary64 true 1 1
unfolding of_bits round
minus_one = refl

plus_zero : of_bits binary64 0 ≡ round binary64 false 0 1
unfolding of_bits round
plus_zero = refl

returns : tie.Need-returns-then-bits-eq0
returns c =
    let b = c.before.args.bits in
    let s = leb (2 ^ 63) b in
    let z = magnitude_zero b c.if-bits-eq0.true in
    let e = by_fields c.before s refl ∙ ap (λ (n : ℕ). of_fields binary64 s n (fraction_of b)) z.0 ∙ ap (λ (n : ℕ). of_fields binary64 s 0 n) z.1 in
    e ∙ down_zero s ∙ ap round_down_of (sym e)

returns-2 : tie.Need-returns-then-bits-ne0
returns-2 c =
    let a = c.before.before in
    let b = a.args.bits in
    minus_one
    ∙ down_small true (exponent_of b) (fraction_of b) a.requires.1 (fraction_lt b) (magnitude_some b c.before.if-bits-eq0.false)
    ∙ ap round_down_of (sym (by_fields a true (sign_set b c.if-bits-ne0.true)))

returns-3 : tie.Need-returns
returns-3 c =
    let a = c.before.before in
    let b = a.args.bits in
    plus_zero
    ∙ down_small false (exponent_of b) (fraction_of b) a.requires.1 (fraction_lt b) (magnitude_some b c.before.if-bits-eq0.false)
    ∙ ap round_down_of (sym (by_fields a false (sign_clear b c.if-bits-ne0.false)))

pub round_down_small_spec : {M : Type 1} → statement M
round_down_small_spec = tie.close (tie.spec returns returns-2 returns-3)
