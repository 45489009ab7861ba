-- The invariant: after n steps the bracket is that of the search.
use Prim.Native.Nat.{◌≤◌, ◌-◌}
use mathlib.Core.Path.{◌≡◌}
use borrow.Author.Rules.{rules}
use native.Mathlib.Omega.{arith}
use Rattle.golden.specs.Search.{rises, golden_at}
use Rattle.golden.proofs.Turns.{search_laws}
use Rattle.section.specs.Section.{section_at}
use Rattle.section.proofs.Slides.{stands}
use Rattle.section.proofs.slide.more.Statement.{statement}
use Rattle.section.proofs.slide.more.Tie as tie

abbrev invariant-loop : tie.invariant-loop-n
invariant-loop s low x y e flat lo hi end g₀ n₀ g n = (g ≡ golden_at rises (section_at s x y e) lo hi n) × (n ≤ end)

abbrev decreases-loop : tie.decreases-loop-n
decreases-loop s low x y e flat lo hi end g₀ n₀ g n = end - n

returns : tie.Need-returns-then-from-ge40 invariant-loop decreases-loop
returns c = (c.before.before.requires.2, c.before.before.requires.3)

loop-holds : tie.Need-loop-n-init invariant-loop decreases-loop
loop-holds c = (c.before.before.before.before.requires.2, omega arith)

step-requires : tie.Need-step-g-requires invariant-loop decreases-loop
step-requires c κs = c.before.before.before.before.before.before.requires.1

loop-again : tie.Need-loop-n-preserved invariant-loop decreases-loop
loop-again c = (search search_laws, search rules)

slid-requires : tie.Need-slid-requires invariant-loop decreases-loop
slid-requires c κs =
    let s = c.before.before.before.before.before.before in
    let l = c.before.loop-n in
    (s.requires.0, s.requires.1, stands _ _ _ _ _ _ l.invariant.1 (omega arith) l.invariant.0, omega arith)

returns-2 : tie.Need-returns invariant-loop decreases-loop
returns-2 c = c.slid.ensures

pub more_spec : {M : Type 1} → statement M
more_spec =
    tie.close
    (tie.spec invariant-loop decreases-loop returns (λ c. omega arith) loop-holds step-requires (λ c. omega arith) (λ c. omega arith) loop-again slid-requires returns-2)
