use borrow.Author.Rules.{rules}
use Rattle.section.proofs.Giving.{stretch_none, stretch_some}
use Rattle.section.proofs.stretch_of.Statement.{statement}
use Rattle.section.proofs.stretch_of.Tie as tie

returns : tie.Need-returns-in-None
returns c = stretch_none _ _ _ _ _ _ c.in-None.is

returns-2 : tie.Need-returns-in-Some
returns-2 c = let p = c.before.in-Some.on in stretch_some _ _ _ _ _ _ p.from p.to _ c.before.in-Some.is c.bounded.ensures

pub stretch_of_spec : {M : Type 1} → statement M
stretch_of_spec = tie.close (tie.spec (λ c. search rules) (λ c. search rules) (λ c κs. c.before.requires) returns returns-2)
