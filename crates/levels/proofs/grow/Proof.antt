use borrow.Author.Rules.{rules}
use native.Mathlib.Omega.{arith}
use Rattle.rules.proofs.Branches.{taken, left}
use Rattle.levels.specs.Levels.{joins_level}
use Rattle.levels.specs.Inside.{grown_by}
use Rattle.levels.proofs.grow.Statement.{statement}
use Rattle.levels.proofs.grow.Tie as tie
use Rattle.levels.proofs.grow.Reads as reads
use Rattle.levels.proofs.grow.Lts as lts

returns : tie.Need-returns-then-level-t
unfolding grown_by joins_level
returns c = taken _ _ _ _ c.before.if-level-t.true (rw c.widened_by.ensures)

returns-2 : tie.Need-returns
unfolding grown_by joins_level
returns-2 c = left _ _ _ _ c.before.before.before.before.before.if-level-t.false (rw (c.opened_by.ensures, c.before.before.before.close.ensures.0))

pub grow_spec : {M : Type 1} → statement M
grow_spec =
    tie.close (tie.spec (λ c κs. tt) returns (λ c κs. search rules) (λ c κs. tt) (λ c. omega arith) (λ c. search rules) returns-2)
