use native.Mathlib.Omega.{arith}
use borrow.Author.Tests.{ltb-true}
use Rattle.rules.proofs.Branches.{flags}
use Rattle.sort.specs.Inside.{later_of}
use borrow.Author.Rules.{rules}
use Rattle.sort.proofs.later.Statement.{statement}
use Rattle.sort.proofs.later.Tie as tie
use Rattle.sort.proofs.later.Reads as reads
use Rattle.sort.proofs.later.Lts as lts
use Rattle.sort.proofs.stands_before.Reads as stands-before-reads

add-if1 : tie.Need-overflow_add-c
add-if1 c = search rules

returns : tie.Need-returns-then-e-c
unfolding later_of
returns c = search flags

add-stands_before : tie.Need-overflow_add-c-2
add-stands_before c = search rules

stands_before-requires : tie.Need-stands_before-requires
stands_before-requires c κs = let s = c.before.before.before in
    (s.requires.0, ((omega arith, omega arith), (ltb-true _ _ (s.requires.1.0.numbers _ (omega arith)), ltb-true _ _ (s.requires.1.0.numbers _ (omega arith)))))

add-result : tie.Need-overflow_add-result
add-result c = search rules

returns-2 : tie.Need-returns-then-stands_before
unfolding later_of
returns-2 c = search flags

returns-3 : tie.Need-returns
unfolding later_of
returns-3 c = search flags

pub later_spec : {M : Type 1} → statement M
later_spec =
    tie.close
    (tie.spec
    add-if1
    returns
    add-stands_before
    stands_before-requires
    add-result
    returns-2
    returns-3)
