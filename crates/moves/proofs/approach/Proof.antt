use borrow.Author.Rules.{rules}
use mathlib.Core.Path.{◌∙◌, ap}
use Rattle.runs.specs.declared.Run.{Run}
use Rattle.moves.specs.declared.Kind.TheVariants as kind
use Rattle.moves.specs.declared.Phase.TheVariants as phase
use Rattle.moves.specs.Phases.{point, leg, line_of}
use Rattle.moves.proofs.approach.Statement.{statement}
use Rattle.moves.proofs.approach.Tie as tie

returns : tie.Need-returns
unfolding line_of
returns c = c.line.ensures ∙ ap (λ (r : Run). leg (point r.ax r.ay c.before.before.before.args.p.z) kind.Rapid phase.Descend
    c.before.before.before.args.m) c.before.run_at-r.ensures

pub approach_spec : {M : Type 1} → statement M
approach_spec = tie.close (tie.spec (λ c κs. search rules) (λ c κs. tt) returns)
