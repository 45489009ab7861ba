-- `cells::count_cells` meets its contract. At row y the cells of the rows before it have one more. What is left of the rows falls.
use Prim.Native.Nat.{◌+◌, ◌-◌, ◌*◌, ◌≤◌, max}
use mathlib.Core.Path.{◌≡◌}
use native.Mathlib.Omega.{arith}
use Rattle.cells.specs.Inside.{Counted}
use Rattle.cells.proofs.Sets.{rows_under, rows_none, rows_end, row_more, row_fits, row_covered, row_new, none_covered}
use Rattle.cells.proofs.Entries.{counted_none, counted_join, counted_as}
use Rattle.cells.proofs.count_cells.Statement.{statement}
use Rattle.cells.proofs.count_cells.Tie as tie

abbrev invariant-loop : tie.invariant-loop-y
invariant-loop starts₀ columns x0 x1 y0 y1 y₀ y-end starts y =
    Counted (rows_under columns (record { left = x0; right = x1; bottom = y0; top = y1 }) y) starts₀ starts × (y-end ≡ y1 + 1) × (y0 ≤ y) × (y ≤ max y0 y-end)

abbrev decreases-loop : tie.decreases-loop-y
decreases-loop starts₀ columns x0 x1 y0 y1 y₀ y-end starts y = y-end - y

returns : tie.Need-returns-then-x1-x0 invariant-loop decreases-loop
returns c = counted_none _ _ (λ k. none_covered _ _ k c.if-x1-x0.true)

loop-holds : tie.Need-loop-y-init invariant-loop decreases-loop
loop-holds c = (counted_none _ _ (λ k. rows_none _ _ _ k (omega arith)), omega arith, omega arith, omega arith)

-- the row's cell numbers fit
fits : (c : tie.After-count_row-arg-1 invariant-loop decreases-loop) → c.before.before.loop-y.y * c.before.before.before.before.before.args.columns ≤ 65536 * 65536
fits c = let s = c.before.before.before.before.before in row_fits _ _ s.requires.0.wide (omega (arith, s.requires.0.tall, c.before.before.loop-y.invariant))

mul-count_row : tie.Need-overflow_mul-y invariant-loop decreases-loop
mul-count_row c = omega (arith, fits c)

add-count_row : tie.Need-overflow_add-y invariant-loop decreases-loop
add-count_row c = let s = c.before.before.before.before.before in omega (arith, fits c, s.requires.0, c.before.before.before.if-x1-x0.false)

add-count_row-2 : tie.Need-overflow_add-y-in-loop-y invariant-loop decreases-loop
add-count_row-2 c = let s = c.before.before.before.before.before in omega (arith, fits c, s.requires.0)

add-count_row-3 : tie.Need-overflow_add-y-in-loop-y-2 invariant-loop decreases-loop
add-count_row-3 c = let s = c.before.before.before.before.before in omega (arith, fits c, s.requires.0)

count_row-requires : tie.Need-count_row-requires invariant-loop decreases-loop
count_row-requires c κs =
    let s = c.before.before.before.before.before in
    let l = c.before.before.loop-y in
    let b = s.args.b in
    λ k e.
    omega (
      arith,
      s.requires.1 k (row_covered _ b _ k s.requires.0.right l.invariant.2 (omega (arith, l.invariant)) e),
      l.invariant.0.size,
      l.invariant.0.each k,
      row_new _ b _ k s.requires.0.right l.invariant.2 (omega (arith, l.invariant)) e,
    )

loop-again : tie.Need-loop-y-preserved invariant-loop decreases-loop
loop-again c =
    let d = c.before.before.before in
    let s = d.before.before.before.before.before in
    let l = d.before.before.loop-y in (
      counted_join _ _ _ _ _ _ (row_more _ s.args.b _ s.requires.0.right l.invariant.2 (omega (arith, l.invariant))) l.invariant.0
          c.before.before.count_row.ensures,
      omega arith,
      omega arith,
      omega arith,
    )

same_length : tie.Need-shape_of-starts invariant-loop decreases-loop
same_length c = c.before.loop-y.invariant.0.size

returns-2 : tie.Need-returns invariant-loop decreases-loop
returns-2 c =
    let s = c.before.before.before.before in
    let l = c.before.loop-y in
    counted_as _ _ _ _ (λ k. rows_end _ s.args.b _ k (omega arith) (omega arith)) l.invariant.0

pub count_cells_spec : {M : Type 1} → statement M
count_cells_spec =
    tie.close
    (tie.spec invariant-loop decreases-loop returns (λ c. omega arith) loop-holds mul-count_row add-count_row mul-count_row add-count_row-2 add-count_row-3
    count_row-requires (λ c. omega arith) (λ c. omega arith) loop-again same_length returns-2)
