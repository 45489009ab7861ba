-- The invariant: after n steps the bracket is that of the search. Where it is given up, nothing in the bracket exceeds the larger end's height, or, with `more`
-- added, the limit.
use Prim.Native.Nat.{◌≤◌, ◌-◌}
use mathlib.Core.Path.{◌≡◌}
use borrow.Author.Rules.{rules}
use native.Mathlib.Omega.{arith}
use Rattle.golden.specs.Search.{rises, golden_at}
use Rattle.golden.proofs.Turns.{search_laws}
use Rattle.section.specs.Section.{section_at}
use Rattle.section.proofs.Giving.{gives_up, finds}
use Rattle.section.proofs.search_last.Statement.{statement}
use Rattle.section.proofs.search_last.Tie as tie

abbrev invariant-loop : tie.invariant-loop-n
invariant-loop s low x y e flat lo hi m more limit g₀ n₀ g n = (g ≡ golden_at rises (section_at s x y e) lo hi n) × (n ≤ 60)

abbrev decreases-loop : tie.decreases-loop-n
decreases-loop s low x y e flat lo hi m more limit g₀ n₀ g n = 60 - n

loop-holds : tie.Need-loop-n-init invariant-loop decreases-loop
loop-holds c = (c.before.requires.1, c.before.requires.2)

returns : tie.Need-returns-then-settled invariant-loop decreases-loop
returns c =
    let s = c.before.before.before.before.before in
    let l = c.before.before.before.loop-n in
    gives_up _ _ _ _ _ _ _ _ _ _ _ s.requires.0 l.n l.g l.invariant.1 l.invariant.0 (c.before.settled.ensures c.if-settled.true)

loop-again : tie.Need-loop-n-preserved invariant-loop decreases-loop
loop-again c = (search search_laws, search rules)

returns-2 : tie.Need-returns invariant-loop decreases-loop
returns-2 c =
    let s = c.before.before.before.before.before in
    let l = c.before.before.before.loop-n in
    finds _ _ _ _ _ _ _ _ _ _ _ s.requires.0 l.n l.g l.invariant.1 l.invariant.0 (omega arith) _ _ c.before.max.ensures c.max-2.ensures

pub search_last_spec : {M : Type 1} → statement M
search_last_spec =
    tie.close
    (tie.spec invariant-loop decreases-loop loop-holds (λ c κs. tt) returns (λ c κs. c.before.before.before.before.before.requires.0.flat_to)
    (λ c. omega arith) (λ c. omega arith) loop-again (λ c κs. tt) (λ c κs. tt) returns-2)
