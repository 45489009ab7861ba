-- `grid::header_of` meets its contract.
use borrow.Author.Rules.{rules}
use Rattle.grid.specs.Header.{header_of}
use Rattle.grid.proofs.header_of.Statement.{statement}
use Rattle.grid.proofs.header_of.Tie as tie

returns : tie.Need-returns
unfolding header_of
returns c = rw c.eps-eps.ensures

pub header_of_spec : {M : Type 1} → statement M
header_of_spec =
    tie.close
    (tie.spec (λ c κs. search rules) returns)
