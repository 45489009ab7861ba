use mathlib.Core.Path.{refl}
use Rattle.rules.proofs.Branches.{and_on, and_off, bool_called}
use Rattle.bull_pass.proofs.tip_back.Statement.{statement}
use Rattle.bull_pass.proofs.tip_back.Tie as tie

returns : tie.Need-returns-then-is_coordinate
returns c = and_on _ _ _ (bool_called _ _ _ c.before.is_coordinate.ensures c.if-is_coordinate.true) refl

returns-2 : tie.Need-returns-else-is_coordinate
returns-2 c = search (and_on, and_off, bool_called)

pub tip_back_spec : {M : Type 1} → statement M
tip_back_spec = tie.close (tie.spec (λ c κs. tt) returns returns-2)
