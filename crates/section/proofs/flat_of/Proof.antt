use Rattle.section.proofs.flat_of.Statement.{statement}
use Rattle.section.proofs.flat_of.Tie as tie

returns : tie.Need-returns
returns c = record { near = λ x y h. c.within.ensures.near x y h }

pub flat_of_spec : {M : Type 1} → statement M
flat_of_spec = tie.close (tie.spec (λ c κs. tt) returns)
