use Rattle.rules.proofs.Branches.{branches}
use Rattle.look_over.proofs.depth.Statement.{statement}
use Rattle.look_over.proofs.depth.Tie as tie

returns : tie.Need-returns-then-height-most
returns c = search branches

returns-2 : tie.Need-returns
returns-2 c = search branches

pub depth_spec : {M : Type 1} → statement M
depth_spec = tie.close (tie.spec returns returns-2)
