use borrow.Author.Rules.{rules}
use Rattle.raise.specs.Raise.{raised_header}
use Rattle.raise.proofs.header_of.Statement.{statement}
use Rattle.raise.proofs.header_of.Tie as tie

returns : tie.Need-returns
unfolding raised_header
returns c = rw c.eps-eps.ensures

pub header_of_spec : {M : Type 1} → statement M
header_of_spec = tie.close (tie.spec (λ c κs. search rules) returns)
