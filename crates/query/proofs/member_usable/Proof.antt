-- `query::member_usable` meets its contract: a test for each conjunct.
use borrow.Author.Rules.{rules}
use Rattle.rules.proofs.Branches.{bool_called, branches}
use Rattle.query.specs.Usable.{member_usable}
use Rattle.query.proofs.member_usable.Statement.{statement}
use Rattle.query.proofs.member_usable.Tie as tie

returns : tie.Need-returns-then-triangle_usable
unfolding member_usable
returns c = search (branches, bool_called)

returns-2 : tie.Need-returns-else-triangle_usable
unfolding member_usable
returns-2 c = search (branches, bool_called)

returns-3 : tie.Need-returns-else-i-n
unfolding member_usable
returns-3 c = search branches

pub member_usable_spec : {M : Type 1} → statement M
member_usable_spec =
    tie.close (tie.spec (λ c κs. search rules) (λ c. search rules) (λ c. search rules) returns returns-2 returns-3)
