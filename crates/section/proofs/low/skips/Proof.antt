use mathlib.Core.Path.{refl}
use Rattle.rules.proofs.Branches.{taken, left, bool_called}
use Rattle.section.specs.Inside.{low_edge}
use Rattle.section.proofs.low.skips.Statement.{statement}
use Rattle.section.proofs.low.skips.Tie as tie

returns : tie.Need-returns-then-tame_rise
unfolding low_edge
returns c =
    taken _ _ _ _ (bool_called _ _ _ c.before.before.before.tame_rise.ensures c.before.before.if-tame_rise.true)
    (rw (c.high_on.ensures, c.before.root_most.ensures, c.before.before.before.before.abs-steep.ensures))

returns-2 : tie.Need-returns
unfolding low_edge
returns-2 c = left _ _ _ _ (bool_called _ _ _ c.before.tame_rise.ensures c.if-tame_rise.false) refl

pub skips_spec : {M : Type 1} → statement M
skips_spec = tie.close (tie.spec (λ c κs. tt) (λ c κs. tt) (λ c κs. tt) (λ c κs. tt) returns returns-2)
