use borrow.Author.Tests.{eq-eqb, ne_eqb}
use Rattle.moves.specs.Phases.{line_of}
use Rattle.moves.proofs.lift.Statement.{statement}
use Rattle.moves.proofs.lift.Tie as tie

returns : tie.Need-returns-then-runs-eq0
unfolding line_of
returns c = rw (eq-eqb _ _ c.before.if-runs-eq0.true) c.line.ensures

returns-2 : tie.Need-returns
unfolding line_of
returns-2 c = rw (ne_eqb _ _ c.before.if-runs-eq0.false) c.line-2.ensures

pub lift_spec : {M : Type 1} → statement M
lift_spec = tie.close (tie.spec (λ c κs. tt) returns (λ c κs. tt) returns-2)
