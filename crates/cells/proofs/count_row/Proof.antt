-- `cells::count_row` meets its contract. At entry c those from a up to c have one more. What is left of a..e falls.
use Prim.Native.Nat.{◌+◌, ◌-◌, ◌^◌, ◌≤◌, ◌<◌, max}
use native.Mathlib.Omega.{arith}
use lib.ListN.{length, get_or}
use Rattle.cells.specs.Inside.{between, Counted}
use Rattle.cells.proofs.Sets.{between_more, between_none, between_on, between_ends, over_between}
use Rattle.cells.proofs.Entries.{counted_one, counted_none, counted_join, counted_as}
use Rattle.cells.proofs.count_row.Statement.{statement}
use Rattle.cells.proofs.count_row.Tie as tie

abbrev invariant-loop : tie.invariant-loop-c
invariant-loop starts₀ a e c₀ starts c = Counted (between a c) starts₀ starts × (a ≤ c) × (c ≤ max a e)

abbrev decreases-loop : tie.decreases-loop-c
decreases-loop starts₀ a e c₀ starts c = e - c

loop-holds : tie.Need-loop-c-init invariant-loop decreases-loop
loop-holds c = (counted_none _ _ (λ k. between_none _ _ k (omega arith)), omega arith, omega arith)

-- the next entry has room
here : (c : tie.In-loop-c invariant-loop decreases-loop) → (c.before.loop-c.c < length c.before.before.args.starts.now)
    × (get_or c.before.before.args.starts.now c.before.loop-c.c 0 + 1 < 2 ^ 32)
here c = c.before.before.requires c.before.loop-c.c (between_on _ _ _ (omega arith) (omega arith))

within : (c : tie.In-loop-c invariant-loop decreases-loop) → c.before.loop-c.c < length c.before.loop-c.starts
within c = omega (arith, (here c).0, c.before.loop-c.invariant.0.size)

mul-starts : tie.Need-offset_bounds-starts-c invariant-loop decreases-loop
mul-starts c = omega (arith, (here c).0)

add-starts : tie.Need-overflow_add-starts invariant-loop decreases-loop
add-starts c =
    let d = c.before in
    let l = d.before.loop-c in
    record { fits = omega (arith, (here d).1, l.invariant.0.each l.c, over_between d.before.before.args.a l.c l.c (omega arith)) }

add-c : tie.Need-overflow_step-c invariant-loop decreases-loop
add-c c = omega (arith, (here c.before).0)

loop-again : tie.Need-loop-c-preserved invariant-loop decreases-loop
loop-again c =
    let l = c.before.before.loop-c in
    (counted_join _ _ _ _ _ _ (between_more _ _ (omega arith)) l.invariant.0 (counted_one l.starts l.c (within c.before)), omega arith, omega arith)

same_length : tie.Need-shape_of-starts invariant-loop decreases-loop
same_length c = c.before.loop-c.invariant.0.size

returns : tie.Need-returns invariant-loop decreases-loop
returns c =
    let l = c.before.loop-c in
    let s = c.before.before in
    counted_as _ _ _ _ (between_ends s.args.a s.args.e l.c (omega arith) (omega arith)) l.invariant.0

pub count_row_spec : {M : Type 1} → statement M
count_row_spec =
    tie.close
    (tie.spec invariant-loop decreases-loop loop-holds mul-starts (λ c. within c.before) add-starts (λ c. within c.before) add-c
    (λ c. omega arith) loop-again same_length returns)
