use mathlib.Core.Path.{ap}
use Rattle.plane.specs.declared.Best.{Best}
use Rattle.tips.proofs.begun.Statement.{statement}
use Rattle.tips.proofs.begun.Tie as tie

returns : tie.Need-returns
returns c = ap (λ (b : Best). record { count = 0; best = b }) c.at.ensures

pub begun_spec : {M : Type 1} → statement M
begun_spec = tie.close (tie.spec (λ c κs. tt) returns)
