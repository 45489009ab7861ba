use Rattle.numbers.specs.Reals.{clamp_unit}
use Rattle.rules.proofs.Branches.{branches}
use Rattle.numbers.proofs.clamp_unit.Statement.{statement}
use Rattle.numbers.proofs.clamp_unit.Tie as tie

returns : tie.Need-returns-then-t
unfolding clamp_unit
returns c = search branches

returns-2 : tie.Need-returns-then-t-2
unfolding clamp_unit
returns-2 c = search branches

returns-3 : tie.Need-returns-else-t-2
unfolding clamp_unit
returns-3 c = search branches

pub clamp_unit_spec : {M : Type 1} → statement M
clamp_unit_spec = tie.close (tie.spec returns returns-2 returns-3)
