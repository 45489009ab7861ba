use Rattle.sheet.specs.Sheet.{body_of}
use Rattle.sheet.proofs.body_of.Statement.{statement}
use Rattle.sheet.proofs.body_of.Tie as tie

returns : tie.Need-returns
unfolding body_of
returns c = rw (c.before.before.end_of-end.ensures, c.before.below-cut.ensures, c.neck_of-neck.ensures)

pub body_of_spec : {M : Type 1} → statement M
body_of_spec = tie.close (tie.spec (λ c κs. tt) (λ c κs. tt) (λ c κs. tt) returns)
