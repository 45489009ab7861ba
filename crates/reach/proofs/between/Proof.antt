use borrow.Author.Rules.{rules}
use Rattle.reach.proofs.between.Statement.{statement}
use Rattle.reach.proofs.between.Tie as tie

returns : tie.Need-returns
returns c = rw (c.rim-high.ensures, c.before.rim-low.ensures)

pub between_spec : {M : Type 1} → statement M
between_spec = tie.close (tie.spec (λ c κs. search rules) (λ c κs. search rules) returns)
