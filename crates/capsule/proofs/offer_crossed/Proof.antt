use mathlib.Core.Path.{refl}
use Rattle.capsule.specs.Candidates.{crossed, squared}
use Rattle.capsule.proofs.Gathering.{on, off, crossing}
use Rattle.capsule.proofs.offer_crossed.Statement.{statement}
use Rattle.capsule.proofs.offer_crossed.Tie as tie

returns : tie.Need-returns-then-k
unfolding squared
returns c =
    let m = c.before.before.before in
    crossing _ _ _ _ _ m.before.if-e.true m.offer_circles-b.ensures (on _ _ _ _ _ c.before.if-k.true c.offer_sides.ensures)

returns-2 : tie.Need-returns-then-e
unfolding squared
returns-2 c =
    let m = c.before.before in
    crossing _ _ _ _ _ m.before.if-e.true m.offer_circles-b.ensures (off _ _ _ _ _ c.if-k.false refl)

returns-3 : tie.Need-returns
unfolding crossed squared
returns-3 c = off _ _ _ _ _ c.if-e.false refl

pub offer_crossed_spec : {M : Type 1} → statement M
offer_crossed_spec = tie.close (tie.spec (λ c κs. tt) (λ c κs. tt) returns returns-2 returns-3)
