-- `spans::scale` meets its contract. At triangle i it is the scale of the triangles before it. What is left of them falls.
use Rattle.std.proofs.Common.{◌≡◌, ◌-◌, ◌≤◌, ap, ◌∙◌, arith}
use mathlib.Core.Path.{subst⁻¹}
use Rattle.spans.specs.Mesh.{scale_of}
use Rattle.plane.specs.declared.Triangle.{Triangle}
use Rattle.spans.specs.Inside.{Corners}
use Rattle.spans.proofs.Plain.{corners}
use Rattle.spans.proofs.Folding.{scale_none, scale_more}
use Rattle.spans.proofs.scale.Statement.{statement}
use Rattle.spans.proofs.scale.Tie as tie

abbrev invariant-loop : tie.invariant-loop-i
invariant-loop mesh n s₀ i₀ s i = (s ≡ scale_of mesh i) × (i ≤ n)

abbrev decreases-loop : tie.decreases-loop-i
decreases-loop mesh n s₀ i₀ s i = n - i

farthest-requires : tie.Need-farthest-requires invariant-loop decreases-loop
farthest-requires c κs =
    let l = c.before.before.loop-i in
    let s = c.before.before.before.before in
    subst⁻¹ (λ (t : Triangle). Corners t) c.triangle_at.ensures (corners _ s.requires.1 l.i (omega arith))

loop-again : tie.Need-loop-i-preserved invariant-loop decreases-loop
loop-again c =
    let l = c.before.before.before.before.loop-i in
    (scale_more _ _ _ _ _ _ l.invariant.0 c.before.before.triangle_at.ensures c.before.farthest.ensures c.max-s.ensures, omega arith)

returns : tie.Need-returns invariant-loop decreases-loop
returns c = let l = c.before.loop-i in let a = c.before.before.before.args in l.invariant.0 ∙ ap (scale_of a.mesh.now) (omega arith)

pub scale_spec : {M : Type 1} → statement M
scale_spec =
    tie.close
    (tie.spec invariant-loop decreases-loop (λ c. (scale_none _, omega arith)) (λ c κs. omega arith) farthest-requires (λ c κs. tt) (λ c. omega arith)
    (λ c. omega arith) loop-again returns)
