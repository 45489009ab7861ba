-- `moves::go_on` meets its contract: what is left from here on gives what the whole gave. Each line leaves one line less.
use mathlib.Core.Bool.{true, false}
use mathlib.Core.Path.{◌≡◌, refl, sym, ap, ◌∙◌}
use Rattle.fives.specs.Tables.{room_of}
use Rattle.moves.specs.declared.State.{State}
use Rattle.moves.specs.declared.Leg.{Leg}
use Rattle.std.specs.Prelude.{Ok, Some}
use Rattle.moves.specs.declared.Stepped as answer
use Rattle.moves.specs.Phases.{leg_of, same_of, is_ended}
use Rattle.moves.specs.Next.{move_by, moved_by, passed_by, told as step_told, lines_left, go_on, is_within, is_spent}
use Rattle.moves.proofs.Going.{less_on, spent_on, id_free, goes_end, passed_on, goes_empty, goes_given}
use Rattle.moves.proofs.go_on.Statement.{statement}
use Rattle.moves.proofs.go_on.Tie as tie

abbrev invariant-loop : tie.invariant-loop-h
invariant-loop runs h now₀ now =
    (go_on runs h (lines_left (room_of runs) now) now ≡ go_on runs h (lines_left (room_of runs) now₀) now₀)
    × (is_within (room_of runs) now ≡ true) × (is_spent now ≡ false)

abbrev decreases-loop : tie.decreases-loop-h
decreases-loop runs h now₀ now = lines_left (room_of runs) now

loop-holds : tie.Need-loop-h-init invariant-loop decreases-loop
loop-holds c = (refl, c.before.requires.0, c.before.requires.1)

-- what the loop's test, the line and the test of its move tell
open_at : (c : tie.In-loop-h invariant-loop decreases-loop) → is_ended c.before.before.loop-h.now.phase ≡ false
open_at c = sym c.before.is_done.ensures ∙ c.loop-h-test.true

told : (c : tie.After-is_empty invariant-loop decreases-loop)
    → same_of (leg_of c.before.before.before.before.before.before.args.runs.now c.before.before.before.before.before.before.args.h
    c.before.before.before.before.loop-h.now).end c.before.before.before.before.loop-h.now.position ≡ c.is_empty.result
told c = ap (λ (l : Leg). same_of l.end c.before.before.before.before.loop-h.now.position) (sym c.before.leg_of-l.ensures)
    ∙ sym c.is_empty.ensures

leg_of-requires : tie.Need-leg_of-l-requires invariant-loop decreases-loop
leg_of-requires c κs = c.before.before.loop-h.invariant.1

given-requires : tie.Need-given-requires invariant-loop decreases-loop
given-requires c κs = id_free c.before.before.before.before.before.loop-h.now (open_at c.before.before.before)
    c.before.before.before.before.before.loop-h.invariant.2

returns : tie.Need-returns-then-not-is_empty invariant-loop decreases-loop
unfolding step_told
returns c =
    ap (λ (a : answer.Stepped). step_told c.before.before.before.before.before.before.loop-h.now (Ok a)) c.given.ensures
    ∙ ap (λ (l : Leg). step_told c.before.before.before.before.before.before.loop-h.now
    (Ok (record {
      step = Some (move_by c.before.before.before.before.before.before.loop-h.now l);
      state = moved_by c.before.before.before.before.before.before.loop-h.now l;
    }))) c.before.before.before.leg_of-l.ensures
    ∙ sym (goes_given _ _ c.before.before.before.before.before.before.loop-h.now c.before.before.before.before.before.before.loop-h.invariant.1
    (open_at c.before.before.before.before) (told c.before.before ∙ c.before.if-not-is_empty.true))
    ∙ c.before.before.before.before.before.before.loop-h.invariant.0

after : (c : tie.After-passed-now invariant-loop decreases-loop) → c.passed-now.result ≡ passed_by c.before.before.before.before.before.before.loop-h.now
    (leg_of c.before.before.before.before.before.before.before.before.args.runs.now
    c.before.before.before.before.before.before.before.before.args.h c.before.before.before.before.before.before.loop-h.now)
after c = c.passed-now.ensures ∙ ap (passed_by c.before.before.before.before.before.before.loop-h.now) c.before.before.before.leg_of-l.ensures

loop-less : tie.Need-loop-h-smaller invariant-loop decreases-loop
loop-less c =
    less_on _ _ _ (passed_on c.before.before.before.before.before.before.before.before.args.runs.now
    c.before.before.before.before.before.before.before.before.args.h c.before.before.before.before.before.before.loop-h.now
    c.before.before.before.before.before.before.loop-h.invariant.1 (open_at c.before.before.before.before)).fewer
    (ap (lines_left (room_of c.before.before.before.before.before.before.before.before.args.runs.now)) (after c))

loop-again : tie.Need-loop-h-preserved invariant-loop decreases-loop
loop-again c = (
  ap (λ (s : State). go_on c.before.before.before.before.before.before.before.before.args.runs.now
      c.before.before.before.before.before.before.before.before.args.h
      (lines_left (room_of c.before.before.before.before.before.before.before.before.args.runs.now) s) s) (after c)
      ∙ sym (goes_empty _ _ c.before.before.before.before.before.before.loop-h.now c.before.before.before.before.before.before.loop-h.invariant.1
      (open_at c.before.before.before.before) (told c.before.before ∙ c.before.if-not-is_empty.false))
      ∙ c.before.before.before.before.before.before.loop-h.invariant.0,
  ap (is_within (room_of c.before.before.before.before.before.before.before.before.args.runs.now)) (after c)
      ∙ (passed_on c.before.before.before.before.before.before.before.before.args.runs.now
      c.before.before.before.before.before.before.before.before.args.h c.before.before.before.before.before.before.loop-h.now
      c.before.before.before.before.before.before.loop-h.invariant.1 (open_at c.before.before.before.before)).within,
  ap is_spent (after c) ∙ spent_on c.before.before.before.before.before.before.loop-h.now
      (leg_of c.before.before.before.before.before.before.before.before.args.runs.now
      c.before.before.before.before.before.before.before.before.args.h c.before.before.before.before.before.before.loop-h.now)
      (open_at c.before.before.before.before) c.before.before.before.before.before.before.loop-h.invariant.2,
)

returns-2 : tie.Need-returns invariant-loop decreases-loop
unfolding step_told
returns-2 c = sym (goes_end _ _ c.before.before.loop-h.now c.before.before.loop-h.invariant.1 (sym c.before.is_done.ensures
    ∙ c.loop-h-test.false)) ∙ c.before.before.loop-h.invariant.0

pub go_on_spec : {M : Type 1} → statement M
go_on_spec = tie.close (tie.spec invariant-loop decreases-loop loop-holds (λ c κs. tt) leg_of-requires (λ c κs. tt) given-requires returns
    (λ c κs. tt) loop-less loop-again returns-2)
