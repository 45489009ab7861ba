-- The invariant: after n steps the bracket is that of the search.
-- Where it is given up, nothing in the bracket exceeds the larger end's height or the limit, so no later value does.
use Prim.Native.Nat.{◌≤◌, ◌-◌}
use mathlib.Core.Path.{◌≡◌}
use borrow.Author.Rules.{rules}
use native.Mathlib.Omega.{arith}
use Rattle.golden.specs.Search.{rises, golden_at}
use Rattle.golden.proofs.Turns.{search_laws}
use Rattle.bull.specs.Inside.{way_at}
use Rattle.bull.proofs.Giving.{gives_up, finds}
use Rattle.bull.proofs.search_on.Statement.{statement}
use Rattle.bull.proofs.search_on.Tie as tie

abbrev invariant-loop : tie.invariant-loop-n
invariant-loop k base e w flat lo hi m limit bar g₀ n₀ g n = (g ≡ golden_at rises (way_at k w) lo hi n) × (n ≤ 40)

abbrev decreases-loop : tie.decreases-loop-n
decreases-loop k base e w flat lo hi m limit bar g₀ n₀ g n = 40 - n

loop-holds : tie.Need-loop-n-init invariant-loop decreases-loop
loop-holds c = (search search_laws, search rules)

returns : tie.Need-returns-then-settled invariant-loop decreases-loop
returns c =
    let x = c.before.before.before.before.before in
    let s = x.before in
    let l = c.before.before.before.loop-n in
    gives_up _ _ _ _ _ _ _ _ _ s.requires l.n l.g l.invariant.1 l.invariant.0 _ x.max-bar.ensures (c.before.settled.ensures c.if-settled.true)

loop-again : tie.Need-loop-n-preserved invariant-loop decreases-loop
loop-again c = (search search_laws, search rules)

returns-2 : tie.Need-returns invariant-loop decreases-loop
returns-2 c =
    let s = c.before.before.before.before.before.before in
    let l = c.before.before.before.loop-n in
    finds _ _ _ _ _ _ _ _ _ s.requires l.n l.g l.invariant.1 l.invariant.0 (omega arith) _ _ c.before.max.ensures c.max-2.ensures

pub search_on_spec : {M : Type 1} → statement M
search_on_spec =
    tie.close
    (tie.spec invariant-loop decreases-loop (λ c κs. tt) (λ c κs. c.before.requires.flat_to) loop-holds (λ c κs. tt) returns
    (λ c κs. c.before.before.before.before.before.before.requires.flat_to) (λ c. omega arith) (λ c. omega arith) loop-again
    (λ c κs. tt) (λ c κs. tt) returns-2)
