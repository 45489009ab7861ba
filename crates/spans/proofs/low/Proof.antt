-- `spans::low` meets its contract.
use Rattle.std.proofs.Common.{◌≡◌, false}
use mathlib.Core.Path.{subst⁻¹}
use lib.Ieee.{Float, is_nan}
use Rattle.plane.specs.Mesh.{lowest}
use Rattle.spans.proofs.Plain.{good_not_nan}
use Rattle.order.proofs.Extremes.{min_not_nan}
use Rattle.spans.proofs.low.Statement.{statement}
use Rattle.spans.proofs.low.Tie as tie

lower-requires-2 : tie.Need-lower-requires-2
lower-requires-2 c κs =
    let s = c.before in
    subst⁻¹ (λ (v : Float). is_nan v ≡ false) c.lower.ensures (min_not_nan _ _ (good_not_nan _ s.requires.0) (good_not_nan _ s.requires.1))

returns : tie.Need-returns
unfolding lowest
returns c = rw (c.lower-2.ensures, c.before.lower.ensures)

pub low_spec : {M : Type 1} → statement M
low_spec = tie.close (tie.spec (λ c κs. good_not_nan _ c.requires.0) lower-requires-2 returns)
