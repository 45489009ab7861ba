-- `spans::box_of` meets its contract.
use Rattle.std.proofs.Common.{ap, ◌∙◌, rules}
use mathlib.Core.Path.{subst⁻¹}
use Rattle.plane.specs.declared.Triangle.{Triangle}
use Rattle.plane.specs.Mesh.{bounds_of}
use Rattle.spans.specs.Mesh.{box_of}
use Rattle.spans.specs.Inside.{Corners}
use Rattle.spans.proofs.Plain.{corners}
use Rattle.spans.proofs.box_of.Statement.{statement}
use Rattle.spans.proofs.box_of.Tie as tie

bounds-requires : tie.Need-bounds-requires
bounds-requires c κs =
    let s = c.before.before in
    subst⁻¹ (λ (t : Triangle). Corners t) c.triangle_at.ensures (corners _ s.requires.1 _ s.requires.0)

returns : tie.Need-returns
unfolding box_of
returns c = c.bounds.ensures ∙ ap bounds_of c.before.triangle_at.ensures

pub box_of_spec : {M : Type 1} → statement M
box_of_spec = tie.close (tie.spec (λ c κs. search rules) bounds-requires returns)
