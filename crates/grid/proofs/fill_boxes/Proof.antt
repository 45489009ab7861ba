-- `grid::fill_boxes` meets its contract. At triangle i the table holds the boxes of those before it. What is left of the triangles falls.
use Prim.Native.Nat.{ℕ, ◌-◌, ◌≤◌}
use mathlib.Core.Path.{◌≡◌, subst, subst⁻¹}
use native.Mathlib.Omega.{arith}
use Rattle.grid.proofs.Boxing.{Boxed, boxed_none, boxed_more, boxed_all}
use Rattle.grid.proofs.fill_boxes.Statement.{statement}
use Rattle.grid.proofs.fill_boxes.Tie as tie

abbrev invariant-loop : tie.invariant-loop-i
invariant-loop mesh n boxes₀ i₀ boxes i = Boxed mesh i boxes₀ boxes × (i ≤ n)

abbrev decreases-loop : tie.decreases-loop-i
decreases-loop mesh n boxes₀ i₀ boxes i = n - i

box_of-requires : tie.Need-box_of-b-requires invariant-loop decreases-loop
box_of-requires c κs = let s = c.before.before.before.before in (omega (arith, s.requires), s.requires.2)

loop-again : tie.Need-loop-i-preserved invariant-loop decreases-loop
loop-again c =
    let d = c.before.before.before.before in
    let l = d.before.before.loop-i in
    let s = d.before.before.before.before.before in
    (subst⁻¹ (Boxed _ _ _) c.before.before.put.ensures (boxed_more _ _ _ _ _ l.invariant.0 (omega (arith, s.requires)) d.box_of-b.ensures), omega arith)

returns : tie.Need-returns invariant-loop decreases-loop
returns c =
    let l = c.before.loop-i in
    let s = c.before.before.before.before in
    let e : l.i ≡ s.args.n = omega arith in
    boxed_all _ _ _ _ s.requires.1 (subst (λ (k : ℕ). Boxed s.args.mesh.now k s.args.boxes.now l.boxes) e l.invariant.0)

pub fill_boxes_spec : {M : Type 1} → statement M
fill_boxes_spec =
    tie.close
    (tie.spec invariant-loop decreases-loop (λ c. (boxed_none _ _, omega arith)) box_of-requires (λ c κs. tt) (λ c. omega arith) (λ c. omega arith)
    loop-again (λ c. c.before.loop-i.invariant.0.size) returns)
