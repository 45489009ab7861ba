-- `spans::high` meets its contract.
use Rattle.std.proofs.Common.{◌≡◌, false}
use mathlib.Core.Path.{subst⁻¹}
use lib.Ieee.{Float, is_nan}
use Rattle.plane.specs.Mesh.{highest}
use Rattle.spans.proofs.Plain.{good_not_nan}
use Rattle.order.proofs.Extremes.{max_not_nan}
use Rattle.spans.proofs.high.Statement.{statement}
use Rattle.spans.proofs.high.Tie as tie

higher-requires-2 : tie.Need-higher-requires-2
higher-requires-2 c κs =
    let s = c.before in
    subst⁻¹ (λ (v : Float). is_nan v ≡ false) c.higher.ensures (max_not_nan _ _ (good_not_nan _ s.requires.0) (good_not_nan _ s.requires.1))

returns : tie.Need-returns
unfolding highest
returns c = rw (c.higher-2.ensures, c.before.higher.ensures)

pub high_spec : {M : Type 1} → statement M
high_spec = tie.close (tie.spec (λ c κs. good_not_nan _ c.requires.0) higher-requires-2 returns)
