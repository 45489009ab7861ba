use borrow.Author.Tests.{ne_eqb}
use Rattle.rules.proofs.Branches.{no}
use Rattle.capsule.specs.Region.{contact_of}
use Rattle.capsule.proofs.Gathering.{le_called}
use Rattle.capsule.proofs.Leaving.{edge_under}
use Rattle.capsule.proofs.under.Statement.{statement}
use Rattle.capsule.proofs.under.Tie as tie

returns-2 : tie.Need-returns-then-max-z
unfolding contact_of
returns-2 c e =
    let d = c.before in
    let b = d.before.before in
    rw (ne_eqb _ _ b.if-best-eq0.false) (edge_under _ _ b.before.before.before.before.before.before.args.e (c.are_ordinary.ensures e)
    (le_called _ _ _ _ d.before.max.ensures d.if-max-z.true))

pub under_spec : {M : Type 1} → statement M
under_spec = tie.close (tie.spec (λ c e. absurd (no e)) (λ c κs. tt) (λ c κs. tt) returns-2 (λ c e. absurd (no e)))
