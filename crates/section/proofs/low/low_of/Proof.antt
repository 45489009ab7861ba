use mathlib.Core.Bool.{Bool}
use mathlib.Core.Path.{subst}
use Rattle.section.specs.Inside.{KeptIf}
use Rattle.section.proofs.low.low_of.Statement.{statement}
use Rattle.section.proofs.low.low_of.Tie as tie

returns : tie.Need-returns
returns c = subst (λ (b : Bool). KeptIf b c.before.before.args.s.z0 c.kept_if.result) c.before.valid.ensures c.kept_if.ensures

pub low_of_spec : {M : Type 1} → statement M
low_of_spec = tie.close (tie.spec (λ c κs. tt) (λ c κs. tt) returns)
