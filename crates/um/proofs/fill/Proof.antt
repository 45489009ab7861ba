-- `um::fill` meets its contract. Before triangle i - 1 the triangles from i on have been placed. i falls.
use Prim.Native.Nat.{◌-◌, ◌≤◌, ◌<◌}
use mathlib.Core.Path.{subst⁻¹}
use native.Mathlib.Omega.{arith}
use Rattle.cells.specs.declared.Cells.{Cells}
use Rattle.cells.specs.Cover.{covers}
use Rattle.cells.specs.Inside.{Fitting, Open, Filled}
use Rattle.um.specs.Grid.{cover_of}
use Rattle.um.proofs.Gridding.{asked, fitting}
use Rattle.cells.proofs.Filling.{filled_none, filled_open, filled_more, filled_as}
use Rattle.um.proofs.fill.Statement.{statement}
use Rattle.um.proofs.fill.Tie as tie

abbrev invariant-loop : tie.invariant-loop-i
invariant-loop mesh n g cells starts₀ members₀ columns i₀ starts members i =
    Filled (cover_of mesh g) n cells i starts₀ members₀ starts members × (i ≤ n)

abbrev decreases-loop : tie.decreases-loop-i
decreases-loop mesh n g cells starts₀ members₀ columns i₀ starts members i = i

loop-holds : tie.Need-loop-i-init invariant-loop decreases-loop
loop-holds c = (filled_none _ _ _ _ _ c.before.before.requires.1, omega arith)

cells_of-requires : tie.Need-cells_of-requires invariant-loop decreases-loop
cells_of-requires c κs = asked _ _ _ c.before.before.before.before.before.before.requires.0 _ (omega arith)

cast-place_cells : tie.Need-overflow_cast-i invariant-loop decreases-loop
cast-place_cells c = let s = c.before.before.before.before.before.before.before in omega (arith, s.requires.0.few)

place_cells-requires : tie.Need-place_cells-requires invariant-loop decreases-loop
place_cells-requires c κs =
    let s = c.before.before.before.before.before.before.before in
    let l = c.before.before.before.before.loop-i in
    let h : l.i - 1 < s.args.n = omega arith in
    subst⁻¹ (λ (b : Cells). Fitting s.args.g.columns b × Open (covers s.args.g.columns b) l.starts l.members) c.cells_of.ensures
    (fitting _ _ _ s.requires.0 (l.i - 1), filled_open _ _ _ _ _ s.requires.1 _ _ _ h (filled_as _ _ _ _ _ _ _ _ _ (omega arith) l.invariant.0))

loop-again : tie.Need-loop-i-preserved invariant-loop decreases-loop
loop-again c =
    let f = c.before.before.before.before in
    let d = f.before in
    let s = d.before.before.before.before.before.before.before in
    let l = d.before.before.before.before.loop-i in
    let h : l.i - 1 < s.args.n = omega arith in (
      filled_more _ _ _ _ _ s.requires.1 _ _ _ _ _ h (filled_as _ _ _ _ _ _ _ _ _ (omega arith) l.invariant.0)
          (rw d.cells_of.ensures at f.place_cells.ensures),
      omega arith,
    )

returns : tie.Need-returns invariant-loop decreases-loop
returns c = filled_as _ _ _ _ _ _ _ _ _ (omega arith) c.before.loop-i.invariant.0

pub fill_spec : {M : Type 1} → statement M
fill_spec =
    tie.close
    (tie.spec invariant-loop decreases-loop loop-holds (λ c. omega arith) cells_of-requires cast-place_cells place_cells-requires (λ c. omega arith) loop-again
    (λ c. c.before.loop-i.invariant.0.cells') (λ c. c.before.loop-i.invariant.0.size) returns)
