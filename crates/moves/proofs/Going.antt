-- One line after the other: what a state gives is what the state after an empty line gives.
use Rattle.std.specs.Prelude.{Result, Err, None, Some}
use mathlib.Core.Bool.{true, false}
use mathlib.Core.List.{List}
use mathlib.Core.Path.{◌≡◌, sym}
use Prim.Native.Nat.{ℕ, suc, ◌+◌, ◌<◌}
use native.Mathlib.Omega.{arith}
use borrow.Author.Tests.{eq-eqb, ne_eqb}
use lib.Dec.{eqb, lit<}
use lib.Ieee.{Float}
use Rattle.rules.proofs.Branches.{by_test, no}
use Rattle.rules.proofs.Ladder.{demanded, refused_not}
use Rattle.fives.specs.Tables.{room_of}
use Rattle.refusals.specs.declared.Refusal.{Refusal}
use Rattle.refusals.specs.Numbers.{number_of}
use Rattle.refusals.proofs.Named.{not_zero}
use Rattle.moves.specs.declared.Stepped as answer
use Rattle.moves.specs.declared.Heights.{Heights}
use Rattle.moves.specs.declared.State.{State}
use Rattle.moves.specs.declared.Leg.{Leg}
use Rattle.moves.specs.Phases.{leg_of, same_of, is_ended}
use Rattle.moves.specs.Begin.{largest}
use Rattle.moves.specs.Next.{move_by, moved_by, passed_by, lines_left, stepped, told, go_on, is_within, is_spent, refusal_of_state, next_of}
use Rattle.moves.proofs.Lines.{On, led_on}

pub less_on : (a b c : ℕ) → a ≡ suc b → c ≡ b → c < a
less_on a b c e f = omega arith

pub spent_on : (s : State) (l : Leg) → is_ended s.phase ≡ false → is_spent s ≡ false → is_spent (passed_by s l) ≡ false
unfolding is_spent
spent_on s l e f =
    let g : eqb s.next_id largest ≡ false = rw e at f in
    by_test (is_ended l.next) (λ k. rw k) (λ k. rw (k, g))

pub id_free : (s : State) → is_ended s.phase ≡ false → is_spent s ≡ false → s.next_id ≡ largest → ⊥
unfolding is_spent
id_free s e f g = no (sym (rw (e, eq-eqb s.next_id largest g) at f))

module _ (t : List Float) (h : Heights) (s : State) (w : is_within (room_of t) s ≡ true) where
  pub goes_end : is_ended s.phase ≡ true → go_on t h (lines_left (room_of t) s) s ≡ stepped 0 None s
  unfolding lines_left go_on
  goes_end e = rw e

  module _ (e : is_ended s.phase ≡ false) where
    pub passed_on : On (room_of t) (lines_left (room_of t) s) (passed_by s (leg_of t h s))
    unfolding leg_of
    passed_on = led_on t h s.run s.position s.position s.next_id s.next_id s.phase w e

    pub moved_on : On (room_of t) (lines_left (room_of t) s) (moved_by s (leg_of t h s))
    unfolding leg_of
    moved_on = led_on t h s.run s.position (leg_of t h s).end s.next_id (s.next_id + 1) s.phase w e

    pub goes_empty : same_of (leg_of t h s).end s.position ≡ true
        → go_on t h (lines_left (room_of t) s) s ≡ go_on t h (lines_left (room_of t) (passed_by s (leg_of t h s))) (passed_by s (leg_of t h s))
    unfolding go_on
    goes_empty f = rw passed_on.fewer (rw (e, f))

    pub goes_given : same_of (leg_of t h s).end s.position ≡ false
        → go_on t h (lines_left (room_of t) s) s ≡ stepped 0 (Some (move_by s (leg_of t h s))) (moved_by s (leg_of t h s))
    unfolding go_on
    goes_given f = rw passed_on.fewer (rw (e, f))

-- ---- refusals

pub state_passes : (t : List Float) (s : State) → refusal_of_state t s ≡ 0 → (is_within (room_of t) s ≡ true) × (is_spent s ≡ false)
unfolding refusal_of_state
state_passes t s e =
    let a = demanded _ 1 _ (lit< tt) e in
    let b = demanded _ 29 _ (lit< tt) a.1 in
    (b.0, (refused_not _ 29 _ (lit< tt) b.1).0)

module _ (t : List Float) (h : Heights) (s : State) where
  pub next_refused : (a : Result answer.Stepped Refusal) (r : Refusal) → a ≡ Err r → number_of r ≡ refusal_of_state t s → told s a ≡ next_of t h s
  unfolding told next_of
  next_refused a r q e = rw (q, ← e, ne_eqb (number_of r) 0 (not_zero r))

  pub next_goes : 0 ≡ refusal_of_state t s → go_on t h (lines_left (room_of t) s) s ≡ next_of t h s
  unfolding next_of
  next_goes e = rw (← e)
