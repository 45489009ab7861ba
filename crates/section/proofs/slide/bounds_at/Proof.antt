use Rattle.section.proofs.Slides.{held, held_none}
use Rattle.section.proofs.slide.bounds_at.Statement.{statement}
use Rattle.section.proofs.slide.bounds_at.Tie as tie

returns : tie.Need-returns-then-lies
returns c =
    let a = c.before.before.before.before.before.before.before.before.before.before.before.before.before.before.before.before.before.before in
    held _ a.args.low _ _ _ _ a.requires c.before.before.before.before.if-low.true _ _ _ _
    (c.before.before.before.lies.ensures c.before.before.if-lies.true) c.before.over.ensures c.over-then-lies.ensures

returns-2 : tie.Need-returns
returns-2 c = held_none _

pub bounds_at_spec : {M : Type 1} → statement M
bounds_at_spec = tie.close (tie.spec (λ c κs. tt) (λ c κs. tt) (λ c κs. tt) (λ c κs. tt) returns returns-2)
