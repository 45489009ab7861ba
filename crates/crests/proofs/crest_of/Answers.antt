use native.Mathlib.Omega.{arith}
use Rattle.crests.proofs.Capping.{capped_none, capped_more}
use Rattle.crests.proofs.crest_of.Goals as goal

pub loop-i-init : goal.loop-i-init
loop-i-init c = capped_none _ _ _

pub loop-i-preserved : goal.loop-i-preserved
loop-i-preserved c = capped_more _ _ _ c.loop-i.i-index _ _ _ c.loop-i.invariant c.box_at-b.ensures c.higher-highest.ensures

pub returns : goal.returns
returns c = let l = c.loop-i in (l.invariant.first, (λ k h. l.invariant.each k (omega (arith, c.loop-i-test.false))))
