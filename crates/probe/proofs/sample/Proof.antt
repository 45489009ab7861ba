use borrow.Author.Rules.{rules}
use Rattle.probe.proofs.Deciding.{decided_sample}
use Rattle.probe.proofs.sample.Statement.{statement}
use Rattle.probe.proofs.sample.Tie as tie

returns : tie.Need-returns
returns c =
    let t = c.before.before.before.before.before.before in (
      decided_sample _ _ _ _ _ _ _ _ t.before.run_between.ensures t.before.before.before.limit_over-limit.ensures t.ask-t.ensures.0
          c.before.abs.ensures,
      t.ask-t.ensures.1,
    )

pub sample_spec : {M : Type 1} → statement M
sample_spec = tie.close (tie.spec (λ c κs. tt) (λ c κs. tt) (λ c κs. c.before.before.before.before.before.before.before.before.before.requires)
    (λ c κs. tt) (λ c. search rules) returns)
