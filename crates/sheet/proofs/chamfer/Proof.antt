use mathlib.Core.Path.{refl}
use Rattle.sheet.specs.Sheet.{chamfer_of}
use Rattle.sheet.proofs.chamfer.Statement.{statement}
use Rattle.sheet.proofs.chamfer.Tie as tie

returns : tie.Need-returns
unfolding chamfer_of
returns c = refl

pub chamfer_spec : {M : Type 1} → statement M
chamfer_spec = tie.close (tie.spec returns)
