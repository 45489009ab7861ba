-- `um::total` meets its contract. At triangle i the areas of those before it are added up. What is left of the triangles falls.
use Prim.Native.Nat.{◌-◌, ◌*◌, ◌≤◌, ◌<◌}
use mathlib.Core.Path.{◌≡◌, ◌∙◌, ap, subst⁻¹}
use native.Mathlib.Omega.{arith}
use Rattle.cells.specs.declared.Cells.{Cells}
use Rattle.cells.specs.Cover.{area_of}
use Rattle.um.specs.Grid.{cells_of, total_of}
use Rattle.um.proofs.Gridding.{asked, fitting, total_more, total_none}
use Rattle.um.proofs.total.Statement.{statement}
use Rattle.um.proofs.total.Tie as tie

abbrev invariant-loop : tie.invariant-loop-i
invariant-loop mesh n g t₀ i₀ t i = (t ≡ total_of mesh g i) × (t ≤ i * 4294967296) × (i ≤ n)

abbrev decreases-loop : tie.decreases-loop-i
decreases-loop mesh n g t₀ i₀ t i = n - i

cells_of-requires : tie.Need-cells_of-requires invariant-loop decreases-loop
cells_of-requires c κs = asked _ _ _ c.before.before.requires _ (omega arith)

area-requires : tie.Need-area-t-requires invariant-loop decreases-loop
area-requires c κs =
    let s = c.before.before.before in
    let f = fitting _ s.args.g _ s.requires c.before.before.loop-i.i in
    subst⁻¹ (λ (b : Cells). (b.right < 65536) × (b.top < 65536)) c.cells_of.ensures (omega (arith, f))

add-t : tie.Need-overflow_add-t invariant-loop decreases-loop
add-t c = omega (arith, c.before.before.before.before.requires.few)

loop-again : tie.Need-loop-i-preserved invariant-loop decreases-loop
loop-again c =
    let l = c.before.before.before.loop-i in
    let a : c.area-t.result ≡ area_of (cells_of c.before.before.before.before.args.mesh.now c.before.before.before.before.args.g l.i) =
    c.area-t.ensures.0 ∙ ap area_of c.before.cells_of.ensures in
    omega (arith, a, total_more c.before.before.before.before.args.mesh.now c.before.before.before.before.args.g l.i)

returns : tie.Need-returns invariant-loop decreases-loop
returns c = let l = c.before.loop-i in l.invariant.0 ∙ ap (total_of c.before.before.args.mesh.now c.before.before.args.g) (omega arith)

pub total_spec : {M : Type 1} → statement M
total_spec =
    tie.close
    (tie.spec invariant-loop decreases-loop (λ c. (total_none _ _, omega arith, omega arith)) cells_of-requires area-requires add-t (λ c. omega arith)
    (λ c. omega arith) loop-again returns)
