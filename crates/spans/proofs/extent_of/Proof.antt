-- `spans::extent_of` meets its contract. At triangle i the extremes are those of the triangles before it. What is left of them falls.
use Rattle.std.proofs.Common.{◌≡◌, ◌-◌, ◌≤◌, ap, ◌∙◌, arith}
use mathlib.Core.Path.{subst⁻¹}
use Rattle.spans.specs.Mesh.{extent_of}
use Rattle.spans.specs.Inside.{Ends}
use Rattle.spans.specs.declared.Extent.{Extent}
use Rattle.spans.proofs.Plain.{ends}
use Rattle.spans.proofs.Folding.{extent_none, extent_more}
use Rattle.spans.proofs.extent_of.Statement.{statement}
use Rattle.spans.proofs.extent_of.Tie as tie

abbrev invariant-loop : tie.invariant-loop-i
invariant-loop mesh n e₀ i₀ e i = (e ≡ extent_of mesh i) × (i ≤ n)

abbrev decreases-loop : tie.decreases-loop-i
decreases-loop mesh n e₀ i₀ e i = n - i

box_of-requires : tie.Need-box_of-requires invariant-loop decreases-loop
box_of-requires c κs = (omega arith, c.before.before.before.requires.1)

widen-requires : tie.Need-widen-e-requires invariant-loop decreases-loop
widen-requires c κs =
    let l = c.before.before.loop-i in
    let s = c.before.before.before.before in
    subst⁻¹ (λ (e : Extent). Ends e) l.invariant.0 (ends _ s.requires.1 l.i (omega arith))

loop-again : tie.Need-loop-i-preserved invariant-loop decreases-loop
loop-again c =
    let l = c.before.before.before.loop-i in
    (extent_more _ _ _ _ _ l.invariant.0 c.before.box_of.ensures c.widen-e.ensures, omega arith)

returns : tie.Need-returns invariant-loop decreases-loop
returns c = let l = c.before.loop-i in let a = c.before.before.before.args in l.invariant.0 ∙ ap (extent_of a.mesh.now) (omega arith)

pub extent_of_spec : {M : Type 1} → statement M
extent_of_spec =
    tie.close
    (tie.spec invariant-loop decreases-loop (λ c. (extent_none _, omega arith)) box_of-requires widen-requires (λ c. omega arith) (λ c. omega arith) loop-again returns)
