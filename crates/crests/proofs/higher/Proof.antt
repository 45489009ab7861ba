use lib.Ieee.{div, of_bits}
use Rattle.crests.proofs.Capping.{caps_under, caps_over, caps_nan}
use Rattle.crests.proofs.higher.Statement.{statement}
use Rattle.crests.proofs.higher.Tie as tie

returns-3 : tie.Need-returns
unfolding div of_bits
returns-3 c = (caps_nan _, caps_nan _)

pub higher_spec : {M : Type 1} → statement M
higher_spec = tie.close (tie.spec (λ c. ((λ v h. h), caps_under _ _ c.if-top-crest.true)) (λ c. (caps_over _ _ c.if-crest-top.true, (λ v h. h))) returns-3)
