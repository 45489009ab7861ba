-- `roots::root_of_subnormal` meets its contract: shifting f up and lowering the exponent by as much changes no value (`Fields.antt`).
use Rattle.std.proofs.Common.{◌≡◌, ℕ, ◌+◌, ◌-◌, ◌*◌, ◌^◌, ◌<◌, ◌≤◌, false, ℤ, sym, ap, ◌∙◌, subst, arith, lit<, w64, to_z, of_z}
use lib.Count.{count_leading_zeros}
use lib.Ieee.{fin, minus}
use Rattle.roots.specs.Root.{root_of}
use Rattle.roots.specs.Inside.{Exponent}
use Rattle.roots.proofs.Exponents.{returned}
use Rattle.roots.proofs.Fields.{Shifted, shifted_up, exponent_minus, root_shifted}
use Rattle.roots.proofs.root_of_subnormal.Statement.{statement}
use Rattle.roots.proofs.root_of_subnormal.Tie as tie

up : (c : tie.Start) → Shifted c.args.f (count_leading_zeros 64 c.args.f)
up c = shifted_up c.args.f c.requires.0 c.requires.1

exponent : (c : tie.After-difference) → to_z w64 (of_z w64 c.difference.result) ≡ minus 0 (1074 + (count_leading_zeros 64 c.before.args.f - 11))
exponent c = returned c.difference.result 0 _ c.difference.ensures (lit< tt) (small _ (up c.before).few)
  where
    small : (z : ℕ) → z ≤ 63 → 1074 + (z - 11) < 2 ^ 32
    small z h = omega arith

root_of-requires : tie.Need-root_of-requires
root_of-requires c κs =
    let s = up c.before in
    (s.low, s.high, subst Exponent (sym (exponent c)) (in-range (count_leading_zeros 64 c.before.args.f) s.few))
  where
    in-range : (z : ℕ) → z ≤ 63 → Exponent (minus 0 (1074 + (z - 11)))
    in-range z h = exponent_minus 0 (1074 + (z - 11)) (omega arith) (omega arith)

returns : tie.Need-returns
returns c =
    let f = c.before.before.args.f in
    let z = count_leading_zeros 64 f - 11 in
    c.root_of.ensures
    ∙ ap (λ (m : ℕ). root_of (fin false m (to_z w64 (of_z w64 c.before.difference.result)))) (up c.before.before).whole
    ∙ ap (λ (e : ℤ). root_of (fin false (f * 2 ^ z) e)) (exponent c.before)
    ∙ root_shifted f z c.before.before.requires.0

pub root_of_subnormal_spec : {M : Type 1} → statement M
root_of_subnormal_spec =
    tie.close
    (tie.spec
    (λ c. (up c).enough)
    (λ c. omega (arith, (up c).few))
    (λ c. omega (arith, (up c).few))
    (λ c. omega (arith, (up c).few))
    (λ c κs. tt)
    root_of-requires
    returns)
