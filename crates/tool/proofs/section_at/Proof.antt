use borrow.Author.Rules.{rules}
use mathlib.Core.Path.{refl}
use Rattle.tool.specs.Tool.{section_of}
use Rattle.tool.proofs.section_at.Statement.{statement}
use Rattle.tool.proofs.section_at.Tie as tie

returns : tie.Need-returns
unfolding section_of
returns c = refl

pub section_at_spec : {M : Type 1} → statement M
section_at_spec = tie.close (tie.spec (λ c. search rules) (λ c. search rules) (λ c. search rules) (λ c. search rules) (λ c. search rules) (λ c. search rules)
    (λ c. search rules) (λ c. search rules) (λ c. search rules) (λ c. search rules) (λ c. search rules) (λ c. search rules) returns)
