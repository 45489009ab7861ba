-- `cells::sum_up` meets its contract. At entry c those before it are running sums, the others as they were. What is left of 1..k falls.
use Prim.Native.Nat.{◌+◌, ◌-◌, ◌≤◌, ◌<◌}
use native.Mathlib.Omega.{arith}
use lib.ListN.{length}
use Rattle.cells.specs.Inside.{Summed, entry}
use Rattle.cells.proofs.Entries.{summed_none, summed_more, summed_here, summed_as, sums_mono}
use Rattle.cells.proofs.sum_up.Statement.{statement}
use Rattle.cells.proofs.sum_up.Tie as tie

abbrev invariant-loop : tie.invariant-loop-c
invariant-loop starts₀ k c₀ starts c = Summed c starts₀ starts × (0 < c) × (c ≤ k)

abbrev decreases-loop : tie.decreases-loop-c
decreases-loop starts₀ k c₀ starts c = k - c

within : (c : tie.In-loop-c invariant-loop decreases-loop) → c.before.loop-c.c < length c.before.loop-c.starts
within c = omega (arith, c.before.loop-c.invariant.0.size)

add-starts : tie.Need-overflow_add-starts invariant-loop decreases-loop
add-starts c =
    let s = c.before.before.before.before in
    let l = c.before.before.before.loop-c in
    omega (
      arith,
      summed_here s.args.starts.now l.starts l.c (omega arith) l.invariant.0,
      sums_mono (entry s.args.starts.now) (l.c + 1) s.args.k (omega arith),
      s.requires,
    )

loop-again : tie.Need-loop-c-preserved invariant-loop decreases-loop
loop-again c = let l = c.before.before.before.loop-c in (summed_more _ _ _ (omega arith) (omega arith) l.invariant.0, omega arith, omega arith)

returns : tie.Need-returns invariant-loop decreases-loop
returns c = summed_as _ _ _ _ (omega arith) c.before.loop-c.invariant.0

pub sum_up_spec : {M : Type 1} → statement M
sum_up_spec =
    tie.close
    (tie.spec invariant-loop decreases-loop (λ c. (summed_none _, omega arith, omega arith)) (λ c. omega arith) (λ c. omega arith) (λ c. omega (arith, within c.before))
    (λ c. omega arith) (λ c. within c.before.before) add-starts (λ c. within c.before.before) (λ c. omega arith) (λ c. omega arith) loop-again
    (λ c. c.before.loop-c.invariant.0.size) returns)
