use borrow.Author.Rules.{rules}
use mathlib.Core.Path.{refl}
use Rattle.grid.specs.Boxes.{box_at}
use Rattle.grid.proofs.box_at.Statement.{statement}
use Rattle.grid.proofs.box_at.Tie as tie

returns : tie.Need-returns
unfolding box_at
returns c = refl

pub box_at_spec : {M : Type 1} → statement M
box_at_spec =
    tie.close
    (tie.spec (λ c. search rules) (λ c. search rules) (λ c. search rules) (λ c. search rules) (λ c. search rules) (λ c. search rules)
    (λ c. search rules) (λ c. search rules) (λ c. search rules) (λ c. search rules) (λ c. search rules) (λ c. search rules)
    (λ c. search rules) (λ c. search rules) (λ c. search rules) returns)
