-- `checked::is_index` meets its contract.
use mathlib.Core.Path.{◌≡◌, subst, subst⁻¹}
use native.Mathlib.Omega.{arith}
use lib.ListN.{length}
use Rattle.grid.specs.declared.Grid.{Grid}
use Rattle.grid.specs.Grid.{triangles_in}
use Rattle.grid.specs.Build.{refusal_of_grid}
use Rattle.grid.specs.Index.{index_of}
use Rattle.grid.specs.Inside.{Gridded}
use Rattle.grid.proofs.Accepting.{accepted, passed}
use Rattle.grid.proofs.Indexing.{grid_fits, grid_gridded}
use Rattle.checked.specs.Inside.{Tells, SameIndex}
use Rattle.checked.proofs.Comparing.{tells_as}
use Rattle.checked.proofs.Rebuilding.{from_same, to_same}
use Rattle.checked.proofs.is_index.Statement.{statement}
use Rattle.checked.proofs.is_index.Tie as tie

grid_of-requires : tie.Need-grid_of-g-requires
grid_of-requires c κs = let a = accepted _ _ _ _ c.before.before.before.before.requires in (omega (arith, a.nine), (a.numbers, grid_fits _ _ _ _ a))

is_index_under-requires : tie.Need-is_index_under-requires
is_index_under-requires c κs =
    let s = c.before.before.before.before.before in
    let a = accepted _ _ _ _ s.requires in (
      (omega (arith, a.nine), a.five, a.numbers),
      subst⁻¹ (λ (g : Grid). refusal_of_grid g.columns g.rows (length s.args.starts.now) ≡ 0
          → Gridded s.args.mesh.now (triangles_in s.args.mesh.now) g) c.grid_of-g.ensures
          (λ e. grid_gridded _ _ _ _ a _ (passed _ _ _ e)),
    )

returns : tie.Need-returns
returns c =
    let s = c.before.before.before.before.before.before in
    let ix = index_of s.args.mesh.now s.args.h s.args.starts.now s.args.members.now s.args.boxes.now in
    tells_as _ (from_same ix s.requires) (λ f. (to_same ix f).1)
    (subst (λ (g : Grid). Tells c.is_index_under.result (SameIndex (triangles_in s.args.mesh.now) g ix)) c.before.grid_of-g.ensures
    c.is_index_under.ensures)

pub is_index_spec : {M : Type 1} → statement M
is_index_spec = tie.close (tie.spec grid_of-requires is_index_under-requires returns)
