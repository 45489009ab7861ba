-- `cells::place_cells` meets its contract. At row y the cells of the rows before it have one more. What is left of the rows falls.
use Prim.Native.Nat.{◌+◌, ◌-◌, ◌*◌, ◌≤◌, max}
use mathlib.Core.Path.{◌≡◌}
use native.Mathlib.Omega.{arith}
use Rattle.cells.specs.Inside.{Placed}
use Rattle.cells.proofs.Sets.{rows_under, rows_none, rows_end, row_more, row_fits, row_covered, row_new, none_covered}
use Rattle.cells.proofs.Entries.{placed_none, placed_join, placed_as, open_part}
use Rattle.cells.proofs.place_cells.Statement.{statement}
use Rattle.cells.proofs.place_cells.Tie as tie

abbrev invariant-loop : tie.invariant-loop-y
invariant-loop starts₀ members₀ columns i x0 x1 y0 y1 y₀ y-end starts members y =
    Placed (rows_under columns (record { left = x0; right = x1; bottom = y0; top = y1 }) y) i starts₀ members₀ starts members × (y-end ≡ y1 + 1)
    × (y0 ≤ y) × (y ≤ max y0 y-end)

abbrev decreases-loop : tie.decreases-loop-y
decreases-loop starts₀ members₀ columns i x0 x1 y0 y1 y₀ y-end starts members y = y-end - y

returns : tie.Need-returns-then-x1-x0 invariant-loop decreases-loop
returns c = placed_none _ _ _ _ (λ k. none_covered _ _ k c.if-x1-x0.true)

loop-holds : tie.Need-loop-y-init invariant-loop decreases-loop
loop-holds c = (placed_none _ _ _ _ (λ k. rows_none _ _ _ k (omega arith)), omega arith, omega arith, omega arith)

-- the row's cell numbers fit
fits : (c : tie.After-place_row-arg-1 invariant-loop decreases-loop)
    → c.before.before.loop-y.y * c.before.before.before.before.before.before.args.columns ≤ 65536 * 65536
fits c = let s = c.before.before.before.before.before.before in
    row_fits _ _ s.requires.0.wide (omega (arith, s.requires.0.tall, c.before.before.loop-y.invariant))

mul-place_row : tie.Need-overflow_mul-y invariant-loop decreases-loop
mul-place_row c = omega (arith, fits c.before)

add-place_row : tie.Need-overflow_add-y invariant-loop decreases-loop
add-place_row c = let s = c.before.before.before.before.before.before.before in
    omega (arith, fits c.before, s.requires.0, c.before.before.before.before.if-x1-x0.false)

add-place_row-2 : tie.Need-overflow_add-y-in-loop-y invariant-loop decreases-loop
add-place_row-2 c = let s = c.before.before.before.before.before.before.before in omega (arith, fits c.before, s.requires.0)

add-place_row-3 : tie.Need-overflow_add-y-in-loop-y-2 invariant-loop decreases-loop
add-place_row-3 c = let s = c.before.before.before.before.before.before.before in omega (arith, fits c.before, s.requires.0)

place_row-requires : tie.Need-place_row-requires invariant-loop decreases-loop
place_row-requires c κs =
    let s = c.before.before.before.before.before.before.before in
    let l = c.before.before.before.loop-y in
    let b = s.args.b in
    let h : l.y ≤ b.top = omega (arith, l.invariant) in
    open_part _ _ _ _ _ _ _ _
    (λ k e. (row_covered _ b _ k s.requires.0.right l.invariant.2 h e, row_new _ b _ k s.requires.0.right l.invariant.2 h e)) s.requires.1 l.invariant.0

loop-again : tie.Need-loop-y-preserved invariant-loop decreases-loop
loop-again c =
    let f = c.before.before.before.before in
    let d = f.before in
    let s = d.before.before.before.before.before.before.before in
    let l = d.before.before.before.loop-y in (
      placed_join _ _ _ _ _ _ _ _ _ _ (row_more _ s.args.b _ s.requires.0.right l.invariant.2 (omega (arith, l.invariant))) l.invariant.0 f.place_row.ensures,
      omega arith,
      omega arith,
      omega arith,
    )

returns-2 : tie.Need-returns invariant-loop decreases-loop
returns-2 c =
    let s = c.before.before.before.before.before in
    let l = c.before.loop-y in
    placed_as _ _ _ _ _ _ _ (λ k. rows_end _ s.args.b _ k (omega arith) (omega arith)) l.invariant.0

pub place_cells_spec : {M : Type 1} → statement M
place_cells_spec =
    tie.close
    (tie.spec invariant-loop decreases-loop returns (λ c. omega arith) loop-holds mul-place_row add-place_row mul-place_row add-place_row-2 add-place_row-3
    place_row-requires (λ c. omega arith) (λ c. omega arith) loop-again (λ c. c.before.loop-y.invariant.0.cells) (λ c. c.before.loop-y.invariant.0.size) returns-2)
