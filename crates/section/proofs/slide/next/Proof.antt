use Rattle.section.proofs.Slides.{goes_right, goes_left}
use Rattle.section.proofs.slide.next.Statement.{statement}
use Rattle.section.proofs.slide.next.Tie as tie

returns : tie.Need-returns-then-left
returns c =
    let a = c.before.before.before.before.before.before in
    goes_right _ _ _ _ _ _ _ a.requires.1 c.before.before.before.probe-p.ensures c.before.before.narrowed-g.ensures
    c.before.bounds_at-v.ensures c.if-left.true

returns-2 : tie.Need-returns
returns-2 c =
    let a = c.before.before.before.before.before.before in
    goes_left _ _ _ _ _ _ _ a.requires.1 c.before.before.before.probe-p.ensures c.before.before.narrowed-g.ensures
    c.before.bounds_at-v.ensures c.if-left.false

pub next_spec : {M : Type 1} → statement M
next_spec = tie.close (tie.spec (λ c κs. tt) (λ c κs. tt) (λ c κs. c.before.before.before.before.requires.0) returns returns-2)
