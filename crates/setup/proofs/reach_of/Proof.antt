use mathlib.Core.Path.{subst⁻¹}
use native.Mathlib.Omega.{arith}
use Rattle.setup.specs.Inside.{Small}
use Rattle.setup.proofs.Reaching.{asked, small_reach, reach_is}
use Rattle.setup.proofs.reach_of.Statement.{statement}
use Rattle.setup.proofs.reach_of.Tie as tie

sub_by : tie.Need-overflow_sub-result
sub_by c = omega (arith, (asked _ c.before.before.before.before.before.requires).r)

returns : tie.Need-returns
returns c =
    let d = c.before.before.before in
    let e = reach_is _ _ _ _ _ d.before.lower.ensures d.higher.ensures c.before.before.lower-2.ensures c.before.higher-2.ensures in
    (e, subst⁻¹ Small e (small_reach _ d.before.before.requires))

pub reach_of_spec : {M : Type 1} → statement M
reach_of_spec =
    tie.close
    (tie.spec (λ c κs. tt) (λ c κs. tt) (λ c κs. tt) (λ c κs. tt) sub_by returns)
