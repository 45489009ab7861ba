use borrow.Author.Rules.{rules}
use mathlib.Core.Path.{ap, ◌∙◌}
use lib.Ieee.{binary64, of_bits}
use Rattle.vectors.specs.Lines.{asked_of}
use Rattle.vectors.proofs.asked.Statement.{statement}
use Rattle.vectors.proofs.asked.Tie as tie

returns : tie.Need-returns
unfolding asked_of
returns c = c.float.ensures ∙ ap (of_bits binary64) c.before.number.ensures

pub asked_spec : {M : Type 1} → statement M
asked_spec = tie.close (tie.spec (λ c. search rules) (λ c. search rules) (λ c κs. search rules) (λ c κs. search rules) returns)
