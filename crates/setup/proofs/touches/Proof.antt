use borrow.Author.Rules.{rules}
use Rattle.rules.proofs.Branches.{branches}
use Rattle.setup.specs.Question.{touches}
use Rattle.setup.proofs.touches.Statement.{statement}
use Rattle.setup.proofs.touches.Tie as tie

returns : tie.Need-returns-then-a-high
unfolding touches
returns c = search (branches)

returns-2 : tie.Need-returns-else-a-high
unfolding touches
returns-2 c = search (branches)

pub touches_spec : {M : Type 1} → statement M
touches_spec =
    tie.close
    (tie.spec (λ c. search rules) (λ c. search rules) returns returns-2)
