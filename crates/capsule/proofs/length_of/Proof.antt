use borrow.Author.Rules.{rules}
use Rattle.capsule.proofs.Leaving.{no_length}
use Rattle.capsule.proofs.length_of.Statement.{statement}
use Rattle.capsule.proofs.length_of.Tie as tie

returns-3 : tie.Need-returns
returns-3 c = no_length _ _ c.before.if-dx.false c.if-dy.false

pub length_of_spec : {M : Type 1} → statement M
length_of_spec = tie.close (tie.spec (λ c κs. tt) (λ c. search rules) (λ c κs. tt) (λ c. search rules) returns-3)
