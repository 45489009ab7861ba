-- `raise::top_all` meets its contract. At triangle i the table holds the new boxes of those before it. What is left of the triangles falls.
use Prim.Native.Nat.{ℕ, ◌+◌, ◌-◌, ◌≤◌}
use mathlib.Core.Path.{◌≡◌, ap, ap₂, subst, subst⁻¹, ◌∙◌}
use native.Mathlib.Omega.{arith}
use lib.Ieee.{Float}
use Rattle.plane.specs.declared.Bounds.{Bounds}
use Rattle.plane.specs.Mesh.{top_of}
use Rattle.fives.specs.Tables.{put_at}
use Rattle.grid.specs.Boxes.{five_of}
use Rattle.raise.specs.Raise.{topped}
use Rattle.raise.proofs.Topping.{Topping, topping_none, topping_reads, topping_goes, topping_ends}
use Rattle.raise.proofs.top_all.Statement.{statement}
use Rattle.raise.proofs.top_all.Tie as tie

abbrev invariant-loop : tie.invariant-loop-i
invariant-loop mesh n boxes₀ i₀ boxes i = Topping mesh i boxes₀ boxes × (i ≤ n)

abbrev decreases-loop : tie.decreases-loop-i
decreases-loop mesh n boxes₀ i₀ boxes i = n - i

loop-again : tie.Need-loop-i-preserved invariant-loop decreases-loop
loop-again c =
    let l = c.before.before.before.before.before.before.before.before.loop-i in
    let s = c.before.before.before.before.before.before.before.before.before.before.before in
    let b = c.before.before.before.before.before.before.box_at-b.ensures ∙ topping_reads _ _ _ _ l.invariant.0 in
    let z = c.before.before.before.before.top-z.ensures ∙ ap top_of c.before.before.before.before.before.triangle_at.ensures in
    let p = c.before.before.put.ensures ∙ ap₂ (λ (x : Bounds) (y : Float). put_at l.boxes l.i (five_of (topped x y))) b z in (
      subst⁻¹ (λ (t : _). Topping s.args.mesh.now (l.i + 1) s.args.boxes.now t) p
          (topping_goes _ _ _ _ l.invariant.0 (omega (arith, s.requires))),
      omega arith,
    )

returns : tie.Need-returns invariant-loop decreases-loop
returns c =
    let l = c.before.loop-i in
    let s = c.before.before.before.before in
    let e : l.i ≡ s.args.n = omega arith in
    topping_ends _ _ _ _ s.requires.1 (subst (λ (k : ℕ). Topping s.args.mesh.now k s.args.boxes.now l.boxes) e l.invariant.0)

pub top_all_spec : {M : Type 1} → statement M
top_all_spec =
    tie.close
    (tie.spec invariant-loop decreases-loop (λ c. (topping_none _ _, omega arith))
    (λ c κs. omega (arith, c.before.loop-i.invariant.0.size, c.before.before.before.before.requires))
    (λ c κs. omega (arith, c.before.before.before.before.before.requires)) (λ c κs. tt) (λ c κs. tt) (λ c. omega arith) (λ c. omega arith)
    loop-again (λ c. c.before.loop-i.invariant.0.size) returns)
