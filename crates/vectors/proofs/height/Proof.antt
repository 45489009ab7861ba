use borrow.Author.Rules.{rules}
use Rattle.vectors.specs.Lines.{heights_in}
use Rattle.vectors.proofs.height.Statement.{statement}
use Rattle.vectors.proofs.height.Tie as tie

returns : tie.Need-returns-in-None
unfolding heights_in
returns c = search rules

returns-2 : tie.Need-returns-in-Some
unfolding heights_in
returns-2 c = search rules

pub height_spec : {M : Type 1} → statement M
height_spec = tie.close (tie.spec (λ c. search rules) (λ c. search rules) returns returns-2)
