-- `roots::root_below_normal` meets its contract: a NaN and a zero stay, what is negative has no root, and what is left is a subnormal (`LeastNormal.antt`).
use Rattle.std.proofs.Common.{◌≡◌, ℕ, ◌^◌, ◌<◌, true, false, T, leb, sym, refl, ap, ◌∙◌, subst, arith}
use lib.Ieee.{binary64, fits, to_bits, of_fields}
use lib.Ieee.Compare.{differs_from_itself}
use Rattle.roots.specs.Root.{root_of}
use Rattle.numbers.proofs.Patterns.{no_nan, apart, exponent_of, fraction_of, exponent_lt, fraction_lt, sign_clear, sign_set, magnitude_zero, magnitude_some}
use Rattle.roots.proofs.Fields.{root_nan, root_zero, root_minus_any, root_low, not_a_number}
use Rattle.roots.proofs.LeastNormal.{low_bits}
use Rattle.roots.proofs.root_below_normal.Statement.{statement}
use Rattle.roots.proofs.root_below_normal.Tie as tie

-- what owning an f64 tells: the format holds it
held : (c : tie.Start) → T (fits binary64 c.args.x)
held c = subst T (sym c.well_formed.0.1) tt

abbrev bits : tie.Start → ℕ
bits c = to_bits binary64 c.args.x

returns : tie.Need-returns-then-x
returns c = root_nan c.before.args.x (differs_from_itself c.before.args.x (subst T (sym c.if-x.true) tt))

returns-2 : tie.Need-returns-then-bits-eq0
returns-2 c =
    let s = c.before.before in
    let b = leb (2 ^ 63) (bits s) in
    let z = magnitude_zero (bits s) c.if-bits-eq0.true in
    let e = apart s.args.x b (held s) refl ∙ ap (λ (n : ℕ). of_fields binary64 b n (fraction_of (bits s))) z.0
    ∙ ap (λ (n : ℕ). of_fields binary64 b 0 n) z.1 in
    e ∙ root_zero b ∙ ap root_of (sym e)

returns-3 : tie.Need-returns-then-bits-ne0
returns-3 c =
    let s = c.before.before.before in
    let e = apart s.args.x true (held s) (sign_set (bits s) c.if-bits-ne0.true) in
    not_a_number ∙ sym (ap root_of e
    ∙ root_minus_any (exponent_of (bits s)) (fraction_of (bits s)) (exponent_lt (bits s)) (magnitude_some (bits s) c.before.if-bits-eq0.false))

-- past the tests: no sign, so the exponent's field is 0 and the fraction is not
low : (c : tie.Else-bits-ne0) → exponent_of (bits c.before.before.before) ≡ 0
low c =
    let s = c.before.before.before in
    low_bits s.args.x (held s) (no_nan s.args.x c.before.before.if-x.false) s.requires (sign_clear (bits s) c.if-bits-ne0.false)

some : (c : tie.Else-bits-ne0) → 0 < fraction_of (bits c.before.before.before)
some c = go (fraction_of (bits c.before.before.before)) (magnitude_some (bits c.before.before.before) c.before.if-bits-eq0.false (low c))
  where
    go : (n : ℕ) → (n ≡ 0 → ⊥) → 0 < n
    go n h = omega arith

returns-4 : tie.Need-returns
returns-4 c =
    let d = c.before in
    let s = d.before.before.before in
    let f = fraction_of (bits s) in
    c.root_of_subnormal.ensures
    ∙ root_low f (some d)
    ∙ ap root_of (sym (apart s.args.x false (held s) (sign_clear (bits s) d.if-bits-ne0.false) ∙ ap (λ (n : ℕ). of_fields binary64 false n f) (low d)))

pub root_below_normal_spec : {M : Type 1} → statement M
root_below_normal_spec =
    tie.close
    (tie.spec
    returns
    (λ c. no_nan c.before.args.x c.if-x.false)
    returns-2
    returns-3
    (λ c κs. (some c, fraction_lt (bits c.before.before.before)))
    returns-4)
