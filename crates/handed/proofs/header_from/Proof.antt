use borrow.Author.Rules.{rules}
use Rattle.handed.specs.Handed.{header_from}
use Rattle.handed.proofs.header_from.Statement.{statement}
use Rattle.handed.proofs.header_from.Tie as tie

returns : tie.Need-returns
unfolding header_from
returns c = cc

pub header_from_spec : {M : Type 1} → statement M
header_from_spec =
    tie.close
    (tie.spec
    (λ c. search rules)
    (λ c κs. tt)
    (λ c. search rules)
    (λ c. search rules)
    (λ c. search rules)
    (λ c. search rules)
    (λ c κs. tt)
    (λ c. search rules)
    (λ c κs. tt)
    (λ c. search rules)
    (λ c. search rules)
    (λ c. search rules)
    returns)
