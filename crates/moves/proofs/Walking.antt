-- The phase table walked line by line: what holds of the whole list, by the lines.
use mathlib.Core.Bool.{true, false}
use mathlib.Core.List.{List, []}
use mathlib.Core.Path.{◌≡◌, refl}
use Prim.Native.Nat.{ℕ, zero, suc, ◌≤◌, ◌<◌}
use native.Mathlib.Omega.{arith}
use lib.Ieee.{Float}
use lib.ListN.{length}
use Rattle.rules.proofs.Branches.{either, by_test, no}
use Rattle.fives.specs.Tables.{room_of}
use Rattle.moves.specs.declared.Heights.{Heights}
use Rattle.moves.specs.declared.State.{State}
use Rattle.moves.specs.declared.Move.{Move}
use Rattle.moves.specs.declared.Phase.{Phase}
use Rattle.moves.specs.declared.Phase.TheVariants.{Lift, Approach, Descend, Plunge, Cut, Retract, Rise, Ended}
use Rattle.moves.specs.Phases.{leg_of, same_of, phase_number, is_ended}
use Rattle.moves.specs.Next.{moved_by, passed_by, lines_left, is_within}
use Rattle.moves.specs.Whole.{walked}
use Rattle.moves.specs.Laws.{Counted, Chained, Safe, cuts_in, full_of, CutsAre}
use Rattle.moves.proofs.Lines.{run_within}
use Rattle.moves.proofs.Going.{passed_on, moved_on}
use Rattle.moves.proofs.Keeping.{Fit, Above, Near, todo, moved_above, passed_above, moved_near, passed_near, safe_move, passed_cuts, moved_cuts}

zero-le : (n : ℕ) → 0 ≤ n
zero-le n = omega arith

more : (a n : ℕ) → a ≤ n → a ≤ suc n
more a n e = omega arith

one_more : (a n : ℕ) → a ≤ n → suc a ≤ suc n
one_more a n e = omega arith

module _ (t : List Float) (h : Heights) where
  pub few : (n : ℕ) (s : State) → length (walked t h n s) ≤ n
  unfolding walked
  few zero s = omega arith
  few (suc n) s =
      either (λ (ms : List Move). length ms ≤ suc n) (is_ended s.phase) _ _ (λ e. zero-le (suc n))
      (λ e. either (λ (ms : List Move). length ms ≤ suc n) (same_of (leg_of t h s).end s.position) _ _
      (λ f. more _ n (few n (passed_by s (leg_of t h s))))
      (λ f. one_more _ n (few n (moved_by s (leg_of t h s)))))

  pub counted : (n : ℕ) (s : State) → Counted s.next_id (walked t h n s)
  unfolding walked Counted
  counted zero s = tt
  counted (suc n) s =
      either (Counted s.next_id) (is_ended s.phase) _ _ (λ e. tt)
      (λ e. either (Counted s.next_id) (same_of (leg_of t h s).end s.position) _ _
      (λ f. counted n (passed_by s (leg_of t h s)))
      (λ f. (refl, counted n (moved_by s (leg_of t h s)))))

  pub chained : (n : ℕ) (s : State) → Chained s.position (walked t h n s)
  unfolding walked Chained
  chained zero s = tt
  chained (suc n) s =
      either (Chained s.position) (is_ended s.phase) _ _ (λ e. tt)
      (λ e. either (Chained s.position) (same_of (leg_of t h s).end s.position) _ _
      (λ f. chained n (passed_by s (leg_of t h s)))
      (λ f. (refl, chained n (moved_by s (leg_of t h s)))))

-- what is known of a state on the way
pub record Sound (t : List Float) (h : Heights) (s : State) : Type 0 where
  pub above : Above h s.phase s.position.z
  pub near : Near t s.phase s.run s.position
  pub within : is_within (room_of t) s ≡ true

module _ (t : List Float) (h : Heights) (fit : Fit t h) where
  in_table : (s : State) → Sound t h s → 0 < phase_number s.phase → phase_number s.phase < 7 → s.run < room_of t
  in_table s o a b = run_within (room_of t) s.run s.position s.next_id s.phase a b o.within

  moved_sound : (s : State) → Sound t h s → is_ended s.phase ≡ false → Sound t h (moved_by s (leg_of t h s))
  unfolding leg_of
  moved_sound s o e =
      record {
        above = moved_above t h fit s.run s.position s.phase o.above;
        near = moved_near t h fit s.run s.position s.phase (in_table s o) o.near;
        within = (moved_on t h s o.within e).within;
      }

  passed_sound : (s : State) → Sound t h s → is_ended s.phase ≡ false → same_of (leg_of t h s).end s.position ≡ true → Sound t h (passed_by s (leg_of t h s))
  unfolding leg_of
  passed_sound s o e f =
      record {
        above = passed_above t h fit s.run s.position s.phase f o.above;
        near = passed_near t h fit s.run s.position s.phase f o.near;
        within = (passed_on t h s o.within e).within;
      }

  pub safe : (n : ℕ) (s : State) → Sound t h s → Safe h (walked t h n s)
  unfolding walked Safe
  safe zero s o = tt
  safe (suc n) s o =
      either (Safe h) (is_ended s.phase) _ _ (λ e. tt)
      (λ e. either (Safe h) (same_of (leg_of t h s).end s.position) _ _
      (λ f. safe n (passed_by s (leg_of t h s)) (passed_sound s o e f))
      (λ f. (
        (unfold leg_of in safe_move t h fit s.run s.position s.phase s.next_id e o.above),
        safe n (moved_by s (leg_of t h s)) (moved_sound s o e),
      )))

  ended_todo : (ph : Phase) (m : ℕ) → is_ended ph ≡ true → todo t ph m ≡ []
  unfolding is_ended phase_number
  ended_todo Lift m e = absurd (no e)
  ended_todo Approach m e = absurd (no e)
  ended_todo Descend m e = absurd (no e)
  ended_todo Plunge m e = absurd (no e)
  ended_todo Cut m e = absurd (no e)
  ended_todo Retract m e = absurd (no e)
  ended_todo Rise m e = absurd (no e)
  ended_todo Ended m e = refl

  none : (s : State) → is_ended s.phase ≡ true → CutsAre [] (full_of (todo t s.phase s.run))
  unfolding CutsAre full_of
  none s e = rw (ended_todo s.phase s.run e) tt

  pub cuts : (n : ℕ) (s : State) → Sound t h s → lines_left (room_of t) s ≡ n → CutsAre (cuts_in (walked t h n s)) (full_of (todo t s.phase s.run))
  unfolding walked cuts_in leg_of
  cuts zero s o z =
      by_test (is_ended s.phase) (λ e. none s e) (λ e. let k = (passed_on t h s o.within e).fewer in absurd (omega arith))
  cuts (suc n) s o z =
      either (λ (ms : List Move). CutsAre (cuts_in ms) (full_of (todo t s.phase s.run))) (is_ended s.phase) _ _ (λ e. none s e)
      (λ e. either (λ (ms : List Move). CutsAre (cuts_in ms) (full_of (todo t s.phase s.run))) (same_of (leg_of t h s).end s.position) _ _
      (λ f. let k = (passed_on t h s o.within e).fewer in
      let c = cuts n (passed_by s (leg_of t h s)) (passed_sound s o e f) (omega arith) in
      passed_cuts t h fit s.run s.position s.phase (walked t h n (passed_by s (leg_of t h s))) e (in_table s o) o.near f c)
      (λ f. let k = (moved_on t h s o.within e).fewer in
      let c = cuts n (moved_by s (leg_of t h s)) (moved_sound s o e) (omega arith) in
      moved_cuts t h fit s.run s.position s.phase s.next_id (walked t h n (moved_by s (leg_of t h s))) e (in_table s o) o.near f c))
