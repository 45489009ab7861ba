-- `grid::count_all` meets its contract. At triangle i the members of each cell among those before it are counted. What is left of the triangles falls.
use Prim.Native.Nat.{◌-◌, ◌≤◌, ◌<◌}
use mathlib.Core.Path.{subst⁻¹}
use native.Mathlib.Omega.{arith}
use Rattle.cells.specs.declared.Cells.{Cells}
use Rattle.cells.specs.Cover.{covers}
use Rattle.cells.specs.Inside.{CountedAll, Fitting, Countable}
use Rattle.grid.specs.Grid.{cover_of}
use Rattle.grid.proofs.Gridding.{fitting}
use Rattle.cells.proofs.Members.{members_le}
use Rattle.cells.proofs.Entries.{counted_all_none, counted_all_more, counted_all_as}
use Rattle.grid.proofs.count_all.Statement.{statement}
use Rattle.grid.proofs.count_all.Tie as tie

abbrev invariant-loop : tie.invariant-loop-i
invariant-loop mesh n g starts₀ columns i₀ starts i = CountedAll (cover_of mesh g) i starts₀ starts × (i ≤ n)

abbrev decreases-loop : tie.decreases-loop-i
decreases-loop mesh n g starts₀ columns i₀ starts i = n - i

cells_of-requires : tie.Need-cells_of-requires invariant-loop decreases-loop
cells_of-requires c κs = let s = c.before.before.before.before.before in (omega (arith, s.requires.0), (s.requires.0.numbers, s.requires.0.near _ (omega arith)))

count_cells-requires : tie.Need-count_cells-requires invariant-loop decreases-loop
count_cells-requires c κs =
    let s = c.before.before.before.before.before.before in
    let l = c.before.before.before.loop-i in
    let lt : l.i < s.args.n = omega arith in
    subst⁻¹ (λ (b : Cells). Fitting s.args.g.columns b × Countable (covers s.args.g.columns b) l.starts) c.cells_of.ensures (
      fitting _ _ _ s.requires.0 l.i,
      λ k e. omega (
        arith,
        s.requires.0.few,
        s.requires.1.inside l.i k lt e,
        s.requires.1.small l.i k lt e,
        l.invariant.0.size,
        l.invariant.0.each k,
        members_le (cover_of s.args.mesh.now s.args.g) l.i k,
      ),
    )

loop-again : tie.Need-loop-i-preserved invariant-loop decreases-loop
loop-again c =
    let d = c.before.before.before in
    let l = d.before.before.before.loop-i in
    (counted_all_more _ _ _ _ _ l.invariant.0 (rw d.cells_of.ensures at c.before.before.count_cells.ensures), omega arith)

returns : tie.Need-returns invariant-loop decreases-loop
returns c = counted_all_as _ _ _ _ _ (omega arith) c.before.loop-i.invariant.0

pub count_all_spec : {M : Type 1} → statement M
count_all_spec =
    tie.close
    (tie.spec invariant-loop decreases-loop (λ c. (counted_all_none _ _, omega arith)) cells_of-requires count_cells-requires (λ c. omega arith) (λ c. omega arith) loop-again
    (λ c. c.before.loop-i.invariant.0.size) returns)
