use native.Mathlib.Omega.{arith}
use borrow.Author.Rules.{rules}
use Rattle.lines.specs.Lines.{decimal}
use Rattle.lines.proofs.Texts.{◌then◌, reach}
use Rattle.lines.proofs.put_decimal.Statement.{statement}
use Rattle.lines.proofs.put_decimal.Tie as tie

put-requires : tie.Need-put-requires
unfolding decimal
put-requires c κs = omega (arith, reach 10 1 20 _ c.before.before.before.spell-p.ensures)

returns : tie.Need-returns
unfolding decimal
returns c =
    let v = c.before.before.put.ensures in
    let w = c.before.before.before.before.before.before.spell-p.ensures in
    (w then v, omega (arith, v.ends, reach 10 1 20 _ w))

pub put_decimal_spec : {M : Type 1} → statement M
put_decimal_spec = tie.close (tie.spec (λ c κs. search rules) put-requires (λ c. search rules) returns)
