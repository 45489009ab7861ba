-- `spans::farthest` meets its contract.
use Rattle.std.proofs.Common.{◌≡◌, true}
use mathlib.Core.Path.{subst⁻¹}
use lib.Ieee.{Float}
use Rattle.spans.specs.Mesh.{farthest_of}
use Rattle.spans.specs.Inside.{not_negative}
use Rattle.spans.proofs.Plain.{not_negative_zero, not_negative_farther}
use Rattle.spans.proofs.farthest.Statement.{statement}
use Rattle.spans.proofs.farthest.Tie as tie

far-requires : tie.Need-far-a-requires
far-requires c κs = let g = c.requires in (not_negative_zero, g.ax, g.ay, g.az)

far-requires-2 : tie.Need-far-b-requires
far-requires-2 c κs =
    let g = c.before.requires in (
      subst⁻¹ (λ (v : Float). not_negative v ≡ true) c.far-a.ensures
          (not_negative_farther _ _ _ _ not_negative_zero g.ax g.ay g.az),
      g.bx,
      g.by,
      g.bz,
    )

far-requires-3 : tie.Need-far-requires
far-requires-3 c κs =
    let g = c.before.before.requires in
    let u = (far-requires-2 c.before c.far-b.lifetimes).0 in
    (subst⁻¹ (λ (v : Float). not_negative v ≡ true) c.far-b.ensures (not_negative_farther _ _ _ _ u g.bx g.by g.bz), g.cx, g.cy, g.cz)

returns : tie.Need-returns
unfolding farthest_of
returns c = rw (c.far.ensures, c.before.far-b.ensures, c.before.before.far-a.ensures)

pub farthest_spec : {M : Type 1} → statement M
farthest_spec = tie.close (tie.spec far-requires far-requires-2 far-requires-3 returns)
