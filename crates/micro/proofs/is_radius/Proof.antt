use Rattle.rules.proofs.Branches.{branches}
use Rattle.rules.specs.Every.{is_from}
use Rattle.micro.specs.Micro.{is_radius}
use Rattle.micro.proofs.is_radius.Statement.{statement}
use Rattle.micro.proofs.is_radius.Tie as tie

returns : tie.Need-returns-then-k-ge2147483648
unfolding is_radius is_from
returns c = search branches

returns-2 : tie.Need-returns-else-k-ge2147483648
unfolding is_radius is_from
returns-2 c = search branches

pub is_radius_spec : {M : Type 1} → statement M
is_radius_spec = tie.close (tie.spec returns returns-2)
