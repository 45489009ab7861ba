use borrow.Author.Rules.{rules}
use native.Mathlib.Omega.{arith}
use mathlib.Core.Path.{◌∙◌, ap, sym}
use lib.Ieee.{Float}
use Rattle.moves.specs.declared.Kind.TheVariants as kind
use Rattle.moves.specs.declared.Phase.{Phase}
use Rattle.moves.specs.declared.Phase.TheVariants as phase
use Rattle.moves.specs.Phases.{point, leg, line_of, leg_of, phase_number}
use Rattle.moves.proofs.Lines.{run_in}
use Rattle.moves.proofs.leg_of.Statement.{statement}
use Rattle.moves.proofs.leg_of.Tie as tie

approach-requires : tie.Need-approach-requires
unfolding phase_number
approach-requires c κs = run_in _ c.before.before.before.args.s phase.Approach c.in-Approach.is (omega arith) (omega arith)
    c.before.before.before.requires

plunge-requires : tie.Need-plunge-requires
unfolding phase_number
plunge-requires c κs = run_in _ c.before.before.before.args.s phase.Plunge c.in-Plunge.is (omega arith) (omega arith)
    c.before.before.before.requires

cut-requires : tie.Need-cut-requires
unfolding phase_number
cut-requires c κs = run_in _ c.before.before.before.args.s phase.Cut c.in-Cut.is (omega arith) (omega arith)
    c.before.before.before.requires

rise-requires : tie.Need-rise-requires
unfolding phase_number
rise-requires c κs = run_in _ c.before.before.before.args.s phase.Rise c.in-Rise.is (omega arith) (omega arith)
    c.before.before.before.requires

returns : tie.Need-returns-in-Lift
unfolding leg_of
returns c = c.lift.ensures ∙ sym (ap (λ (ph : Phase). line_of c.before.before.before.before.args.runs.now
    c.before.before.before.before.args.h ph c.before.before.before.before.args.s.run
    c.before.before.before.before.args.s.position) c.before.in-Lift.is)

returns-2 : tie.Need-returns-in-Approach
unfolding leg_of
returns-2 c = c.approach.ensures ∙ sym (ap (λ (ph : Phase). line_of c.before.before.before.before.args.runs.now
    c.before.before.before.before.args.h ph c.before.before.before.before.args.s.run
    c.before.before.before.before.args.s.position) c.before.in-Approach.is)

returns-3 : tie.Need-returns-in-Descend
unfolding leg_of line_of
returns-3 c = c.line.ensures ∙ sym (ap (λ (ph : Phase). line_of c.before.before.before.before.args.runs.now
    c.before.before.before.before.args.h ph c.before.before.before.before.args.s.run
    c.before.before.before.before.args.s.position) c.before.in-Descend.is)

returns-4 : tie.Need-returns-in-Plunge
unfolding leg_of
returns-4 c = c.plunge.ensures ∙ sym (ap (λ (ph : Phase). line_of c.before.before.before.before.args.runs.now
    c.before.before.before.before.args.h ph c.before.before.before.before.args.s.run
    c.before.before.before.before.args.s.position) c.before.in-Plunge.is)

returns-5 : tie.Need-returns-in-Cut
unfolding leg_of
returns-5 c = c.cut.ensures ∙ sym (ap (λ (ph : Phase). line_of c.before.before.before.before.args.runs.now
    c.before.before.before.before.args.h ph c.before.before.before.before.args.s.run
    c.before.before.before.before.args.s.position) c.before.in-Cut.is)

returns-6 : tie.Need-returns-in-Retract
unfolding leg_of line_of
returns-6 c = c.line-in-Retract.ensures ∙ ap (λ (z : Float). leg (point c.before.before.before.before.before.args.s.position.x
    c.before.before.before.before.before.args.s.position.y z) kind.Retract phase.Rise
    c.before.before.before.before.before.args.s.run) c.before.max-z.ensures
    ∙ sym (ap (λ (ph : Phase). line_of c.before.before.before.before.before.args.runs.now
    c.before.before.before.before.before.args.h ph c.before.before.before.before.before.args.s.run
    c.before.before.before.before.before.args.s.position) c.before.before.in-Retract.is)

returns-7 : tie.Need-returns-in-Rise
unfolding leg_of
returns-7 c = c.rise.ensures ∙ sym (ap (λ (ph : Phase). line_of c.before.before.before.before.args.runs.now
    c.before.before.before.before.args.h ph c.before.before.before.before.args.s.run
    c.before.before.before.before.args.s.position) c.before.in-Rise.is)

returns-8 : tie.Need-returns-in-Ended
unfolding leg_of line_of
returns-8 c = c.line-in-Ended.ensures ∙ sym (ap (λ (ph : Phase). line_of c.before.before.before.before.args.runs.now
    c.before.before.before.before.args.h ph c.before.before.before.before.args.s.run
    c.before.before.before.before.args.s.position) c.before.in-Ended.is)

pub leg_of_spec : {M : Type 1} → statement M
leg_of_spec = tie.close (tie.spec (λ c. search rules) (λ c κs. tt) (λ c. search rules) approach-requires (λ c. search rules) (λ c κs. tt)
    (λ c. search rules) plunge-requires (λ c. search rules) cut-requires (λ c. search rules) (λ c κs. tt) (λ c κs. tt) (λ c. search rules) rise-requires
    (λ c. search rules) (λ c κs. tt) returns returns-2 returns-3 returns-4 returns-5 returns-6 returns-7 returns-8)
