-- The search goes through the mesh, raising each number as it comes.
use Rattle.std.proofs.Common.{◌≡◌, sym, ap, ◌∙◌, arith}
use Rattle.plane.specs.Ranges.{is_coordinate}
use Rattle.raise.proofs.Lifting.{high_begins, high_finds, high_goes, high_ends}
use Rattle.raise.proofs.first_high.Goals as goal

pub loop-k-init : goal.loop-k-init
loop-k-init c = high_begins _ _

pub returns-then-not-is_coordinate : goal.returns-then-not-is_coordinate
returns-then-not-is_coordinate c =
    high_finds _ _ _ c.loop-k.invariant c.loop-k-test.true
    (sym (c.is_coordinate.ensures ∙ ap is_coordinate c.lifted_at.ensures) ∙ c.if-not-is_coordinate.true)

pub loop-k-preserved : goal.loop-k-preserved
loop-k-preserved c =
    high_goes _ _ _ c.loop-k.invariant c.loop-k-test.true
    (sym (c.is_coordinate.ensures ∙ ap is_coordinate c.lifted_at.ensures) ∙ c.if-not-is_coordinate.false)

pub returns : goal.returns
returns c = high_ends _ _ c.loop-k.k c.loop-k.invariant (omega (arith, c.loop-k-test.false, c.loop-k.auto))
