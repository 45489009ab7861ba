use borrow.Author.Rules.{rules}
use Rattle.sheet.specs.Sheet.{holder_at}
use Rattle.sheet.proofs.holder_at.Statement.{statement}
use Rattle.sheet.proofs.holder_at.Tie as tie

returns : tie.Need-returns
unfolding holder_at
returns c = c.holder.ensures

pub holder_at_spec : {M : Type 1} → statement M
holder_at_spec = tie.close (tie.spec (λ c. search rules) (λ c. search rules) (λ c. search rules) (λ c. search rules) (λ c. search rules) (λ c. search rules)
    (λ c. search rules) (λ c. search rules) (λ c. search rules) (λ c. search rules) (λ c. search rules) (λ c. search rules) (λ c κs. tt) returns)
