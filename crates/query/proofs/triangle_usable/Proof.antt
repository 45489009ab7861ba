-- `query::triangle_usable` meets its contract: a small sum of squares settles all fourteen numbers (`Nearby.antt`).
use native.Mathlib.Omega.{arith}
use borrow.Author.Rules.{rules}
use Rattle.query.proofs.Nearby.{near_usable}
use Rattle.query.proofs.triangle_usable.Statement.{statement}
use Rattle.query.proofs.triangle_usable.Tie as tie

returns : tie.Need-returns-then-evens-odds
returns c =
    let b = c.before in
    let a = b.before.before.before.before.before.before.before.before in
    near_usable _ _ _ _ _ a.seven_squares-evens.ensures b.seven_squares-odds.ensures c.if-evens-odds.true

pub triangle_usable_spec : {M : Type 1} → statement M
triangle_usable_spec =
    tie.close
    (tie.spec (λ c. omega arith) (λ c. omega arith)
    (λ c. omega arith) (λ c. omega arith) (λ c. omega arith) (λ c. omega arith) (λ c. omega arith) (λ c. omega arith) (λ c. omega arith) (λ c. omega arith)
    (λ c. omega arith) (λ c. omega arith) (λ c. omega arith) (λ c. omega arith) (λ c. omega arith) (λ c. omega arith) (λ c. omega arith)
    (λ c. omega arith) (λ c. omega arith) (λ c. omega arith) (λ c. omega arith)
    (λ c κs. tt)
    (λ c. omega arith) (λ c. omega arith) (λ c. omega arith) (λ c. omega arith) (λ c. omega arith) (λ c. omega arith) (λ c. omega arith) (λ c. omega arith)
    (λ c. omega arith) (λ c. omega arith) (λ c. omega arith) (λ c. omega arith) (λ c. omega arith) (λ c. omega arith) (λ c. omega arith)
    (λ c. omega arith) (λ c. omega arith) (λ c. omega arith) (λ c. omega arith) (λ c. omega arith) (λ c. omega arith)
    (λ c κs. tt) returns (λ c κs. search rules) (λ c. search rules))
