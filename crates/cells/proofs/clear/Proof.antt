-- `cells::clear` meets its contract. At entry c those before it are 0, the others as they were. What is left of 0..k falls.
use Prim.Native.Nat.{◌-◌, ◌≤◌}
use native.Mathlib.Omega.{arith}
use Rattle.cells.specs.Inside.{Cleared}
use Rattle.cells.proofs.Entries.{cleared_none, cleared_more, cleared_as}
use Rattle.cells.proofs.clear.Statement.{statement}
use Rattle.cells.proofs.clear.Tie as tie

abbrev invariant-loop : tie.invariant-loop-c
invariant-loop starts₀ k c₀ starts c = Cleared c starts₀ starts × (c ≤ k)

abbrev decreases-loop : tie.decreases-loop-c
decreases-loop starts₀ k c₀ starts c = k - c

loop-again : tie.Need-loop-c-preserved invariant-loop decreases-loop
loop-again c = let l = c.before.loop-c in (cleared_more _ _ _ (omega arith) l.invariant.0, omega arith)

returns : tie.Need-returns invariant-loop decreases-loop
returns c = let l = c.before.loop-c in cleared_as _ _ _ _ (omega arith) l.invariant.0

pub clear_spec : {M : Type 1} → statement M
clear_spec =
    tie.close
    (tie.spec invariant-loop decreases-loop (λ c. (cleared_none _, omega arith)) (λ c. omega arith) (λ c. omega (arith, c.before.loop-c.invariant.0.size)) (λ c. omega arith)
    (λ c. omega arith) loop-again (λ c. c.before.loop-c.invariant.0.size) returns)
