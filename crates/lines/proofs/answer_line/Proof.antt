use native.Mathlib.Omega.{arith}
use borrow.Author.Rules.{rules}
use Rattle.lines.specs.Lines.{answer_line}
use Rattle.lines.proofs.Texts.{◌then◌}
use Rattle.lines.proofs.answer_line.Statement.{statement}
use Rattle.lines.proofs.answer_line.Tie as tie

returns : tie.Need-returns
unfolding answer_line
returns c =
    let a = c.before.before.before.before.before.before.before.before.before.before.before.before.before.before.put_decimal-a.ensures in
    let b = c.before.before.before.before.before.before.before.before.before.before.put_decimal-b.ensures in
    let d = c.before.before.before.before.before.before.put_bits-c.ensures in
    let e = c.before.before.put_decimal.ensures in
    (a.0 then b.0 then d.0 then e.0, omega (arith, a.1, b.1, d.1, e.1))

pub answer_line_spec : {M : Type 1} → statement M
answer_line_spec = tie.close (tie.spec (λ c κs. search rules) (λ c κs. search rules) (λ c κs. search rules) (λ c κs. search rules) (λ c. search rules) returns)
