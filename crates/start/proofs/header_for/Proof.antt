-- `start::header_for` meets its contract: a start that is tried is taken only where the walks may begin there. The tries left fall.
use Prim.Native.Nat.{◌-◌, ◌≤◌}
use native.Mathlib.Omega.{arith}
use borrow.Author.Rules.{rules}
use Rattle.start.proofs.Serving.{handed_raised, handed_same}
use Rattle.start.proofs.header_for.Statement.{statement}
use Rattle.start.proofs.header_for.Tie as tie

abbrev invariant-loop : tie.invariant-loop-k
invariant-loop mesh h boxes a z rows samples below gap₀ k₀ gap k = k ≤ 8

abbrev decreases-loop : tie.decreases-loop-k
decreases-loop mesh h boxes a z rows samples below gap₀ k₀ gap k = 8 - k

returns-3 : tie.Need-returns-then-may_begin invariant-loop decreases-loop
returns-3 c = handed_raised _ _ _ _ _ _ _ c.with_floor.ensures (c.before.before.may_begin.ensures c.before.if-may_begin.true)

pub header_for_spec : {M : Type 1} → statement M
header_for_spec =
    tie.close
    (tie.spec invariant-loop decreases-loop (λ c. handed_same _ _ _ _ _) (λ c. search rules) (λ c. handed_same _ _ _ _ _) (λ c. omega arith)
    (λ c κs. search rules) (λ c κs. tt) returns-3
    (λ c. record { fits = omega (arith, c.before.before.loop-k-test.true) }) (λ c. omega (arith, c.before.before.loop-k-test.true))
    (λ c. omega (arith, c.before.before.loop-k-test.true)) (λ c. handed_same _ _ _ _ _))
