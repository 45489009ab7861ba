use mathlib.Core.Path.{refl}
use native.Mathlib.Omega.{arith}
use Rattle.crests.specs.Inside.{place_of}
use Rattle.crests.proofs.place_of.Statement.{statement}
use Rattle.crests.proofs.place_of.Tie as tie

returns : tie.Need-returns
unfolding place_of
returns c = (refl, omega arith)

pub place_of_spec : {M : Type 1} → statement M
place_of_spec = tie.close (tie.spec returns)
