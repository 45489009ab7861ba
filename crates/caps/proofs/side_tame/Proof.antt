use Rattle.rules.proofs.Branches.{and_on, and_off, bool_called}
use Rattle.caps.specs.Inside.{side_tame}
use Rattle.caps.proofs.side_tame.Statement.{statement}
use Rattle.caps.proofs.side_tame.Tie as tie

returns : tie.Need-returns-then-is_coordinate
unfolding side_tame
returns c = and_on _ _ _ (bool_called _ _ _ c.before.before.is_coordinate.ensures c.before.if-is_coordinate.true) c.is_coordinate-then-is_coordinate.ensures

returns-2 : tie.Need-returns-else-is_coordinate
unfolding side_tame
returns-2 c = and_off _ _ _ (bool_called _ _ _ c.before.is_coordinate.ensures c.if-is_coordinate.false) c.if-is_coordinate.false

pub side_tame_spec : {M : Type 1} → statement M
side_tame_spec = tie.close (tie.spec (λ c κs. tt) (λ c κs. tt) returns returns-2)
