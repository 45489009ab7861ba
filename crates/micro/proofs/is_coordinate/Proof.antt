use Rattle.rules.proofs.Branches.{branches}
use Rattle.rules.specs.Every.{is_from}
use Rattle.micro.specs.Micro.{is_coordinate}
use Rattle.micro.proofs.is_coordinate.Statement.{statement}
use Rattle.micro.proofs.is_coordinate.Tie as tie

returns : tie.Need-returns-then-k-ge1147483648
unfolding is_coordinate is_from
returns c = search branches

returns-2 : tie.Need-returns-else-k-ge1147483648
unfolding is_coordinate is_from
returns-2 c = search branches

pub is_coordinate_spec : {M : Type 1} → statement M
is_coordinate_spec = tie.close (tie.spec returns returns-2)
