use native.Mathlib.Omega.{arith}
use Rattle.rules.proofs.Branches.{branches}
use Rattle.query.specs.Asked.{is_marked}
use Rattle.query.proofs.is_marked.Statement.{statement}
use Rattle.query.proofs.is_marked.Tie as tie

returns : tie.Need-returns-then-n-le-MOST
unfolding is_marked
returns c = search branches

returns-2 : tie.Need-returns-else-n-le-MOST
unfolding is_marked
returns-2 c = search branches

pub is_marked_spec : {M : Type 1} → statement M
is_marked_spec = tie.close (tie.spec (λ c. omega arith) returns returns-2)
