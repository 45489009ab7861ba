-- `cells::place_row` meets its contract. At cell c the triangle stands in those from a up to c. What is left of a..e falls.
use Prim.Native.Nat.{◌-◌, ◌≤◌, ◌<◌, max}
use native.Mathlib.Omega.{arith}
use lib.ListN.{length, get_or}
use Rattle.cells.specs.Inside.{between, Placed}
use Rattle.cells.proofs.Sets.{between_more, between_none, between_on, between_ends, over_between}
use Rattle.cells.proofs.Entries.{placed_one, placed_none, placed_join, placed_as}
use Rattle.cells.proofs.place_row.Statement.{statement}
use Rattle.cells.proofs.place_row.Tie as tie

abbrev invariant-loop : tie.invariant-loop-c
invariant-loop starts₀ members₀ a e i c₀ starts members c = Placed (between a c) i starts₀ members₀ starts members × (a ≤ c) × (c ≤ max a e)

abbrev decreases-loop : tie.decreases-loop-c
decreases-loop starts₀ members₀ a e i c₀ starts members c = e - c

-- the next cell is as open as at the begin
here : (c : tie.In-loop-c invariant-loop decreases-loop) → (c.before.loop-c.c < length c.before.loop-c.starts) × (0 < get_or c.before.loop-c.starts c.before.loop-c.c 0)
    × (get_or c.before.loop-c.starts c.before.loop-c.c 0 ≤ length c.before.loop-c.members)
here c =
    let s = c.before.before in
    let l = c.before.loop-c in
    let b = between_on s.args.a s.args.e l.c (omega arith) (omega arith) in
    let p = l.invariant.0 in
    omega (
      arith,
      s.requires.inside l.c b,
      s.requires.some l.c b,
      s.requires.room l.c b,
      p.cells,
      p.size,
      p.each l.c,
      over_between s.args.a l.c l.c (omega arith),
    )

loop-again : tie.Need-loop-c-preserved invariant-loop decreases-loop
loop-again c =
    let l = c.before.before.loop-c in
    let h = here c.before in (
      placed_join _ _ _ _ _ _ _ _ _ _ (between_more _ _ (omega arith)) l.invariant.0 (placed_one _ l.starts l.members l.c h.0 h.1 h.2),
      omega arith,
      omega arith,
    )

returns : tie.Need-returns invariant-loop decreases-loop
returns c =
    let s = c.before.before in
    let l = c.before.loop-c in
    placed_as _ _ _ _ _ _ _ (between_ends s.args.a s.args.e l.c (omega arith) (omega arith)) l.invariant.0

pub place_row_spec : {M : Type 1} → statement M
place_row_spec =
    tie.close
    (tie.spec invariant-loop decreases-loop
    (λ c. (placed_none _ _ _ _ (λ k. between_none _ _ k (omega arith)), omega arith, omega arith))
    (λ c. omega (arith, c.before.loop-c.invariant.0.cells, here c))
    (λ c. (here c.before).0)
    (λ c. (here c.before).1)
    (λ c. omega (arith, c.before.before.loop-c.invariant.0.cells, here c.before))
    (λ c. (here c.before).0)
    (λ c. omega (arith, c.before.before.loop-c.invariant.0.size, here c.before))
    (λ c. omega (arith, c.before.before.loop-c.invariant.0.size, here c.before))
    (λ c. omega (arith, here c.before))
    (λ c. omega arith)
    (λ c. omega arith)
    loop-again
    (λ c. c.before.loop-c.invariant.0.cells)
    (λ c. c.before.loop-c.invariant.0.size)
    returns)
