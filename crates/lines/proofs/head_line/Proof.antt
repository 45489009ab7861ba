use native.Mathlib.Omega.{arith}
use borrow.Author.Rules.{rules}
use Rattle.lines.specs.Lines.{head_line}
use Rattle.lines.proofs.Texts.{◌then◌}
use Rattle.lines.proofs.head_line.Statement.{statement}
use Rattle.lines.proofs.head_line.Tie as tie

returns : tie.Need-returns
unfolding head_line
returns c =
    let a = c.before.before.before.before.before.before.before.before.before.before.before.before.before.before.before.before.before.before.put_word-a.ensures in
    let b = c.before.before.before.before.before.before.before.before.before.before.before.before.before.before.put_decimal-b.ensures in
    let d = c.before.before.before.before.before.before.before.before.before.before.put_decimal-c.ensures in
    let e = c.before.before.before.before.before.before.put_decimal-d.ensures in
    let f = c.before.before.put_decimal.ensures in
    (a then b.0 then d.0 then e.0 then f.0, omega (arith, a.ends, b.1, d.1, e.1, f.1))

pub head_line_spec : {M : Type 1} → statement M
head_line_spec = tie.close (tie.spec (λ c κs. search rules) (λ c κs. search rules) (λ c κs. search rules) (λ c κs. search rules)
    (λ c κs. search rules) (λ c. search rules) returns)
