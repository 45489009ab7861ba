use Prim.Native.Nat.{◌≤◌, ◌-◌}
use mathlib.Core.Path.{◌≡◌}
use borrow.Author.Rules.{rules}
use native.Mathlib.Omega.{arith}
use Rattle.numbers.specs.Reals.{f0, f1}
use Rattle.golden.specs.Search.{falls, golden_at}
use Rattle.golden.proofs.Turns.{search_laws}
use Rattle.reach.specs.Reach.{apart_at, near_of}
use Rattle.reach.specs.Inside.{rooted}
use Rattle.reach.proofs.nearest.Statement.{statement}
use Rattle.reach.proofs.nearest.Tie as tie

abbrev invariant-loop : tie.invariant-loop-n
invariant-loop t m steps g₀ n₀ g n = (rooted g ≡ golden_at falls (apart_at t m) f0 f1 n) × (n ≤ steps)

abbrev decreases-loop : tie.decreases-loop-n
decreases-loop t m steps g₀ n₀ g n = steps - n

loop-holds : tie.Need-loop-n-init invariant-loop decreases-loop
loop-holds c = (search search_laws, search rules)

loop-again : tie.Need-loop-n-preserved invariant-loop decreases-loop
loop-again c = (search search_laws, search rules)

returns : tie.Need-returns invariant-loop decreases-loop
unfolding near_of rooted
returns c = search search_laws

pub nearest_spec : {M : Type 1} → statement M
nearest_spec =
    tie.close
    (tie.spec invariant-loop decreases-loop (λ c κs. tt) loop-holds (λ c κs. tt) (λ c. omega arith) (λ c. omega arith) loop-again returns)
