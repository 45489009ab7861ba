use mathlib.Core.Path.{◌∙◌, ap}
use borrow.Author.Rules.{rules}
use mir.Syntax.{w32}
use mir.ValLaws.{to_z-of_z}
use Rattle.micro.specs.Micro.{counted, number_at}
use Rattle.micro.proofs.number_at.Statement.{statement}
use Rattle.micro.proofs.number_at.Tie as tie

returns : tie.Need-returns
unfolding number_at
returns c =
    let e = to_z-of_z w32 _ (record { sfits = c.before.z-1.given }) in
    (c.count.ensures.0 ∙ ap counted e, c.count.ensures.1)

pub number_at_spec : {M : Type 1} → statement M
number_at_spec = tie.close (tie.spec (λ c. search rules) (λ c. search rules) (λ c κs. search rules) returns)
