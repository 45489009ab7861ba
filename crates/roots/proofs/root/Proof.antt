-- `roots::root` meets its contract: what is not below the least normal number has no sign and a leading digit (`LeastNormal.antt`), so it is m * 2 ^ e with an
-- m of 53 digits (`Fields.antt`), or an infinity.
use Rattle.std.proofs.Common.{◌≡◌, ℕ, ◌+◌, ◌^◌, ◌<◌, false, T, ℤ, sym, ap, ◌∙◌, subst, arith, lit<, w64, to_z, of_z}
use lib.Ieee.{fin, minus, binary64, fits, to_bits, of_fields}
use Rattle.roots.specs.Root.{root_of}
use Rattle.roots.specs.Inside.{Exponent, least_normal}
use Rattle.roots.proofs.Exponents.{returned}
use Rattle.numbers.proofs.Patterns.{ordered, apart, exponent_of, fraction_of, exponent_lt, fraction_lt, leading}
use Rattle.roots.proofs.Fields.{root_infinite, root_normal, exponent_minus}
use Rattle.roots.proofs.LeastNormal.{NormalBits, normal_bits}
use Rattle.roots.proofs.root.Statement.{statement}
use Rattle.roots.proofs.root.Tie as tie

-- what owning an f64 tells: the format holds it
held : (c : tie.Start) → T (fits binary64 c.args.x)
held c = subst T (sym c.well_formed.0.1) tt

abbrev bits : tie.Start → ℕ
bits c = to_bits binary64 c.args.x

normal : (c : tie.Then-x) → NormalBits (bits c.before)
normal c = normal_bits c.before.args.x (held c.before) c.if-x.true

-- x by its fields
fields : (c : tie.Then-x) → c.before.args.x ≡ of_fields binary64 false (exponent_of (bits c.before)) (fraction_of (bits c.before))
fields c = apart c.before.args.x false (held c.before) (normal c).plus

returns : tie.Need-returns-then-exponent-eq2047
returns c =
    let a = c.before in
    let e = fields a ∙ ap (λ (n : ℕ). of_fields binary64 false n (fraction_of (bits a.before))) (sym (normal a).whole ∙ c.if-exponent-eq2047.true) in
    e ∙ root_infinite (fraction_of (bits a.before)) ∙ ap root_of (sym e)

exponent : (c : tie.After-difference) → to_z w64 (of_z w64 c.difference.result) ≡ minus (exponent_of (bits c.before.before.before)) 1075
exponent c =
    let a = c.before.before in
    let n = normal a in
    returned c.difference.result _ 1075 c.difference.ensures (wide _ (exponent_lt (bits a.before)) n.whole) (lit< tt)
    ∙ ap (λ (k : ℕ). minus k 1075) n.whole
  where
    wide : (n : ℕ) {e : ℕ} → e < 2 ^ 11 → n ≡ e → n < 2 ^ 32
    wide n h p = omega arith

root_of-requires : tie.Need-root_of-requires
root_of-requires c κs =
    let a = c.before.before in
    let b = bits a.before in
    let l = leading (fraction_of b) (fraction_lt b) in
    (l.0, l.1, subst Exponent (sym (exponent c)) (in-range (exponent_of b) (exponent_lt b) (λ e. c.before.if-exponent-eq2047.false ((normal a).whole ∙ e))))
  where
    in-range : (e : ℕ) → e < 2 ^ 11 → (e ≡ 2047 → ⊥) → Exponent (minus e 1075)
    in-range e h n = exponent_minus e 1075 (omega arith) (omega arith)

returns-2 : tie.Need-returns-then-x
returns-2 c =
    let d = c.before in
    let a = d.before.before in
    let b = bits a.before in
    let e = exponent_of b in
    let f = fraction_of b in
    c.root_of.ensures
    ∙ ap (λ (m : ℕ). root_of (fin false m (to_z w64 (of_z w64 d.difference.result)))) (leading f (fraction_lt b)).2
    ∙ ap (λ (z : ℤ). root_of (fin false (2 ^ 52 + f) z)) (exponent d)
    ∙ root_normal e f (normal a).some (λ q. d.before.if-exponent-eq2047.false ((normal a).whole ∙ q)) (exponent_lt b)
    ∙ ap root_of (sym (fields a))

pub root_spec : {M : Type 1} → statement M
root_spec =
    tie.close
    (tie.spec
    (λ c. ordered least_normal c.before.args.x c.if-x.true)
    returns
    (λ c. omega (arith, exponent_lt (bits c.before.before), (normal c.before).whole))
    (λ c κs. tt)
    root_of-requires
    returns-2
    (λ c κs. c.if-x.false)
    (λ c. c.root_below_normal.ensures))
