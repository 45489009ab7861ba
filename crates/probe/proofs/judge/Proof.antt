use borrow.Author.Rules.{rules}
use Rattle.probe.proofs.Deciding.{decided_run}
use Rattle.probe.proofs.judge.Statement.{statement}
use Rattle.probe.proofs.judge.Tie as tie

returns : tie.Need-returns
returns c =
    let t = c.before.before.before.before in
    (decided_run _ _ _ _ t.ask-t.ensures.0, c.splits.ensures, t.ask-t.ensures.1)

pub judge_spec : {M : Type 1} → statement M
judge_spec = tie.close (tie.spec (λ c κs. c.before.before.before.before.before.before.before.before.before.requires) (λ c κs. tt)
    (λ c. search rules) returns)
