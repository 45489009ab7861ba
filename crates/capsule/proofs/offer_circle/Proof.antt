use mathlib.Core.Path.{refl}
use Rattle.capsule.specs.Candidates.{circled, squared}
use Rattle.capsule.proofs.Gathering.{on, off, solving}
use Rattle.capsule.proofs.offer_circle.Statement.{statement}
use Rattle.capsule.proofs.offer_circle.Tie as tie

returns : tie.Need-returns-then-disc
unfolding circled squared
returns c =
    let m = c.before in
    on _ _ _ _ _
    m.before.before.if-disc.true
    (solving _ _ _ _ _ _ _ _ m.before.root-s.ensures m.offer_at-b.ensures c.offer_at.ensures)

returns-2 : tie.Need-returns
unfolding circled squared
returns-2 c = off _ _ _ _ _ c.if-disc.false refl

pub offer_circle_spec : {M : Type 1} → statement M
offer_circle_spec = tie.close (tie.spec (λ c κs. tt) (λ c κs. tt) (λ c κs. tt) returns returns-2)
