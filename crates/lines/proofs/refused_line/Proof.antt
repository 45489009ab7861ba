use native.Mathlib.Omega.{arith}
use borrow.Author.Rules.{rules}
use Rattle.lines.specs.Lines.{refused_line}
use Rattle.lines.proofs.Texts.{◌then◌}
use Rattle.lines.proofs.refused_line.Statement.{statement}
use Rattle.lines.proofs.refused_line.Tie as tie

returns : tie.Need-returns
unfolding refused_line
returns c =
    let a = c.before.before.before.before.before.before.put_word-a.ensures in
    let b = c.before.before.put_decimal.ensures in
    (a then b.0, omega (arith, a.ends, b.1))

pub refused_line_spec : {M : Type 1} → statement M
refused_line_spec = tie.close (tie.spec (λ c κs. search rules) (λ c κs. search rules) (λ c. search rules) returns)
