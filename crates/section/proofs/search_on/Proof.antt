-- The invariant: after n steps the bracket is that of the search.
use Prim.Native.Nat.{◌≤◌, ◌-◌}
use mathlib.Core.Path.{◌≡◌, ap, ◌∙◌}
use borrow.Author.Rules.{rules}
use native.Mathlib.Omega.{arith}
use Rattle.golden.specs.Search.{rises, golden_at}
use Rattle.golden.proofs.Turns.{search_laws}
use Rattle.section.specs.Section.{section_at}
use Rattle.section.proofs.Giving.{gives_up}
use Rattle.section.proofs.search_on.Statement.{statement}
use Rattle.section.proofs.search_on.Tie as tie

abbrev invariant-loop : tie.invariant-loop-n
invariant-loop s low x y e flat lo hi m more limit g₀ n₀ g n = (g ≡ golden_at rises (section_at s x y e) lo hi n) × (n ≤ 5)

abbrev decreases-loop : tie.decreases-loop-n
decreases-loop s low x y e flat lo hi m more limit g₀ n₀ g n = 5 - n

loop-holds : tie.Need-loop-n-init invariant-loop decreases-loop
loop-holds c = (search search_laws, search rules)

returns : tie.Need-returns-then-settled invariant-loop decreases-loop
returns c =
    let s = c.before.before.before.before.before in
    let l = c.before.before.before.loop-n in
    gives_up _ _ _ _ _ _ _ _ _ _ _ s.requires l.n l.g (omega arith) l.invariant.0 (c.before.settled.ensures c.if-settled.true)

loop-again : tie.Need-loop-n-preserved invariant-loop decreases-loop
loop-again c = (search search_laws, search rules)

slid-requires : tie.Need-slid-some-requires invariant-loop decreases-loop
slid-requires c κs =
    let s = c.before.before.before in
    let l = c.before.loop-n in
    let e : l.n ≡ 5 = omega arith in
    (s.requires.firm, s.requires.flat_to, l.invariant.0 ∙ ap (golden_at rises _ _ _) e, omega arith)

more-requires : tie.Need-more-from-requires invariant-loop decreases-loop
more-requires c κs =
    let s = c.before.before.before.before in
    (s.requires.firm, s.requires.flat_to, c.slid-some.ensures.0, c.slid-some.ensures.1)

search_last-requires : tie.Need-search_last-requires invariant-loop decreases-loop
search_last-requires c κs = (c.before.before.before.before.before.requires, c.more-from.ensures.0, c.more-from.ensures.1)

returns-2 : tie.Need-returns invariant-loop decreases-loop
returns-2 c = c.search_last.ensures

pub search_on_spec : {M : Type 1} → statement M
search_on_spec =
    tie.close
    (tie.spec invariant-loop decreases-loop (λ c κs. c.requires.flat_to) loop-holds (λ c κs. tt) returns
    (λ c κs. c.before.before.before.before.before.requires.flat_to) (λ c. omega arith) (λ c. omega arith) loop-again
    slid-requires more-requires search_last-requires returns-2)
