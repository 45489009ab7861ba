use mathlib.Core.Path.{refl}
use Rattle.section.specs.Inside.{loose_of}
use Rattle.section.proofs.slide.first.Statement.{statement}
use Rattle.section.proofs.slide.first.Tie as tie

returns : tie.Need-returns
unfolding loose_of
returns c = refl

pub first_spec : {M : Type 1} → statement M
first_spec = tie.close (tie.spec returns)
