use Prim.Native.Nat.{◌+◌}
use native.Mathlib.Omega.{arith}
use mathlib.Core.Path.{◌∙◌, ap}
use borrow.Author.Tests.{eq-eqb, ne_eqb}
use lib.Ieee.{Float}
use Rattle.moves.specs.declared.Kind.TheVariants as kind
use Rattle.moves.specs.declared.Phase.TheVariants as phase
use Rattle.moves.specs.Phases.{point, leg, line_of}
use Rattle.moves.proofs.rise.Statement.{statement}
use Rattle.moves.proofs.rise.Tie as tie

returns : tie.Need-returns-then-m-runs
unfolding line_of
returns c = rw (eq-eqb _ _ c.before.before.if-m-runs.true) (c.line.ensures ∙ ap (λ (z : Float). leg (point c.before.before.before.before.args.p.x
    c.before.before.before.before.args.p.y z) kind.Rapid phase.Ended (c.before.before.before.before.args.m + 1)) c.before.max-z.ensures)

returns-2 : tie.Need-returns
unfolding line_of
returns-2 c = rw (ne_eqb _ _ c.before.before.if-m-runs.false) (c.line-2.ensures ∙ ap (λ (z : Float). leg (point c.before.before.before.before.args.p.x
    c.before.before.before.before.args.p.y z) kind.Rapid phase.Approach (c.before.before.before.before.args.m + 1)) c.before.max-z-2.ensures)

pub rise_spec : {M : Type 1} → statement M
rise_spec = tie.close (tie.spec (λ c. omega arith) (λ c κs. tt) (λ c. omega arith) (λ c κs. tt) returns (λ c κs. tt) (λ c. omega arith) (λ c κs. tt) returns-2)
