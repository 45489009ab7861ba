use mathlib.Core.Path.{refl}
use Rattle.levels.specs.Levels.{opened_by}
use Rattle.levels.proofs.opened_by.Statement.{statement}
use Rattle.levels.proofs.opened_by.Tie as tie

returns : tie.Need-returns
unfolding opened_by
returns c = refl

pub opened_by_spec : {M : Type 1} → statement M
opened_by_spec = tie.close (tie.spec returns)
