use borrow.Author.Rules.{rules}
use Rattle.rules.proofs.Branches.{branches}
use Rattle.setup.specs.Answer.{is_marked}
use Rattle.setup.proofs.usable.is_marked.Statement.{statement}
use Rattle.setup.proofs.usable.is_marked.Tie as tie

returns : tie.Need-returns-then-n-le-MOST
unfolding is_marked
returns c = search (branches)

returns-2 : tie.Need-returns-else-n-le-MOST
unfolding is_marked
returns-2 c = search (branches)

pub is_marked_spec : {M : Type 1} → statement M
is_marked_spec =
    tie.close
    (tie.spec (λ c. search rules) returns returns-2)
