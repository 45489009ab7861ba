-- `grid::cells_of` meets its contract.
use mathlib.Core.Path.{subst⁻¹}
use borrow.Author.Rules.{rules}
use Rattle.plane.specs.declared.Bounds.{Bounds}
use Rattle.grid.specs.Inside.{NearBox}
use Rattle.grid.proofs.Gridding.{cells_are}
use Rattle.grid.proofs.cells_of.Statement.{statement}
use Rattle.grid.proofs.cells_of.Tie as tie

stretch_of-requires : tie.Need-stretch_of-x-requires
stretch_of-requires c κs =
    let s = c.before.before in
    let b = subst⁻¹ (λ (v : Bounds). NearBox s.args.g v) c.box_of-b.ensures s.requires.1.1 in
    (s.requires.0.1, b.left, b.right)

stretch_of-requires-2 : tie.Need-stretch_of-y-requires
stretch_of-requires-2 c κs =
    let s = c.before.before.before in
    let b = subst⁻¹ (λ (v : Bounds). NearBox s.args.g v) c.before.box_of-b.ensures s.requires.1.1 in
    (s.requires.0.2, b.bottom, b.top)

returns : tie.Need-returns
returns c = cells_are _ _ _ _ _ _ c.before.before.box_of-b.ensures c.before.stretch_of-x.ensures c.stretch_of-y.ensures

pub cells_of_spec : {M : Type 1} → statement M
cells_of_spec =
    tie.close
    (tie.spec (λ c κs. search rules) stretch_of-requires stretch_of-requires-2 returns)
