use borrow.Author.Rules.{rules}
use Rattle.rules.proofs.Branches.{no}
use Rattle.start.proofs.may_begin.Statement.{statement}
use Rattle.start.proofs.may_begin.Tie as tie

returns : tie.Need-returns-then-begins
returns c e = (c.before.before.begins.ensures c.before.if-begins.true, c.are_apart.ensures e)

pub may_begin_spec : {M : Type 1} → statement M
may_begin_spec = tie.close (tie.spec (λ c κs. tt) (λ c κs. search rules) returns (λ c e. absurd (no e)))
