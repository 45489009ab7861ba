use mathlib.Core.Path.{refl}
use Rattle.sheet.specs.Sheet.{drill_of}
use Rattle.sheet.proofs.drill.Statement.{statement}
use Rattle.sheet.proofs.drill.Tie as tie

returns : tie.Need-returns
unfolding drill_of
returns c = refl

pub drill_spec : {M : Type 1} → statement M
drill_spec = tie.close (tie.spec returns)
