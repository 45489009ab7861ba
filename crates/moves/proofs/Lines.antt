-- Which states are within a table, and that each line of the phase table leaves one line less.
use mathlib.Core.Bool.{Bool, true, false, ◌&&◌, ◌||◌}
use mathlib.Core.List.{List}
use mathlib.Core.Path.{◌≡◌, refl, sym}
use Prim.Native.Nat.{ℕ, suc, ◌+◌, ◌-◌, ◌*◌, ◌/◌, ◌≤◌, ◌<◌}
use native.Mathlib.Omega.{arith}
use borrow.Author.Tests.{ltb-true, leb-true, leb-false, eqb-true, eqb-false, lt-ltb, ne_eqb, le-leb, lt-leb}
use lib.Dec.{eqb, ltb, leb}
use lib.Ieee.{Float}
use Rattle.rules.proofs.Branches.{by_test, no}
use Rattle.fives.specs.Tables.{room_of}
use Rattle.moves.specs.declared.Point.{Point}
use Rattle.moves.specs.declared.Heights.{Heights}
use Rattle.moves.specs.declared.State.{State}
use Rattle.moves.specs.declared.Phase.{Phase}
use Rattle.moves.specs.declared.Phase.TheVariants.{Lift, Approach, Descend, Plunge, Cut, Retract, Rise, Ended}
use Rattle.moves.specs.Phases.{line_of, phase_number, is_lift, is_ended}
use Rattle.moves.specs.Begin.{largest, are_ids}
use Rattle.moves.specs.Next.{lines_left, is_within}

-- two comparisons that hold together are one
leb_same : (a b c d : ℕ) → (a ≤ b → c ≤ d) → (c ≤ d → a ≤ b) → leb a b ≡ leb c d
leb_same a b c d p q =
    by_test (leb a b) (λ e. rw (e, le-leb c d (p (leb-true a b e))))
    (λ e. by_test (leb c d) (λ g. absurd (let k = q (leb-true c d g) in let l = leb-false a b e in omega arith)) (λ g. rw (e, g)))

-- the ids of n runs fit exactly where a seventh of what is left above the first id is at least n
pub ids_none : (f n : ℕ) → (f ≡ 0 → ⊥) → largest - f ≡ 0 → false ≡ are_ids f n
unfolding are_ids
ids_none f n a b = rw (ne_eqb f 0 a, lt-leb (f + 7 * n + 1) largest (omega arith))

pub ids_some : (f n : ℕ) → (f ≡ 0 → ⊥) → (largest - f ≡ 0 → ⊥) → leb n ((largest - f - 1) / 7) ≡ are_ids f n
unfolding are_ids
ids_some f n a b = rw (ne_eqb f 0 a) (leb_same n ((largest - f - 1) / 7) (f + 7 * n + 1) largest (λ h. omega arith) (λ h. omega arith))

first_of : (a b : Bool) → (a || (false && b)) ≡ true → a ≡ true
first_of true b e = refl
first_of false b e = e

-- the state of these fields
abbrev pub at : Phase → ℕ → Point → ℕ → State
at ph m p i = record { phase = ph; run = m; position = p; next_id = i }

module _ (n : ℕ) (m : ℕ) (p : Point) (i : ℕ) where
  -- from approach to rise the run is in the table
  pub run_within : (ph : Phase) → 0 < phase_number ph → phase_number ph < 7 → is_within n (at ph m p i) ≡ true → m < n
  unfolding is_within is_lift is_ended
  run_within ph a b e =
      let f = ne_eqb (phase_number ph) 7 (omega arith) in
      let g = ne_eqb (phase_number ph) 0 (omega arith) in
      ltb-true m n (first_of (ltb m n) (eqb n 0) (rw (f, g) at e))

  -- lift has a run, or there is none
  pub lift_within : is_within n (at Lift m p i) ≡ true → 0 < n → m < n
  unfolding is_within is_lift is_ended phase_number
  lift_within e h = by_test (ltb m n) (λ f. ltb-true m n f) (λ f. absurd (no (rw (f, ne_eqb n 0 (omega arith)) at e)))

pub run_in : (n : ℕ) (s : State) (ph : Phase) → s.phase ≡ ph → 0 < phase_number ph → phase_number ph < 7 → is_within n s ≡ true → s.run < n
run_in n s ph e a b w = run_within n s.run s.position s.next_id s.phase (rw e a) (rw e b) w

in-run : (n m : ℕ) (p : Point) (i : ℕ) (ph : Phase) → m < n → is_within n (at ph m p i) ≡ true
unfolding is_within is_ended is_lift
in-run n m p i ph h = by_test (eqb (phase_number ph) 7) (λ e. rw e) (λ e. rw (e, lt-ltb m n h))

-- what is to be shown of the state after a line
pub record On (n left : ℕ) (s : State) : Type 0 where
  pub fewer : left ≡ suc (lines_left n s)
  pub within : is_within n s ≡ true

module _ (t : List Float) (h : Heights) (m : ℕ) (p q : Point) (i j : ℕ) where
  -- where a line leads, whatever becomes of position and id
  abbrev led : Phase → State
  led ph = at (line_of t h ph m p).next (line_of t h ph m p).run q j

  pub led_on : (ph : Phase) → is_within (room_of t) (at ph m p i) ≡ true → is_ended ph ≡ false → On (room_of t) (lines_left (room_of t) (at ph m p i)) (led ph)
  unfolding line_of lines_left is_ended phase_number
  led_on Lift w e =
      by_test (eqb (room_of t) 0)
      (λ g. let z = eqb-true (room_of t) 0 g in rw g (record { fewer = omega arith; within = unfold is_within in refl }))
      (λ g. let z = eqb-false (room_of t) 0 g in
      let k = lift_within (room_of t) m p i w (omega arith) in rw g (record { fewer = omega arith; within = in-run (room_of t) m q j Approach k }))
  led_on Approach w e = let k =
      run_within (room_of t) m p i Approach (omega arith) (omega arith) w in record { fewer = omega arith; within = in-run (room_of t) m q j Descend k }
  led_on Descend w e = let k =
      run_within (room_of t) m p i Descend (omega arith) (omega arith) w in record { fewer = omega arith; within = in-run (room_of t) m q j Plunge k }
  led_on Plunge w e = let k =
      run_within (room_of t) m p i Plunge (omega arith) (omega arith) w in record { fewer = omega arith; within = in-run (room_of t) m q j Cut k }
  led_on Cut w e = let k = run_within (room_of t) m p i Cut (omega arith)
      (omega arith) w in record { fewer = omega arith; within = in-run (room_of t) m q j Retract k }
  led_on Retract w e = let k =
      run_within (room_of t) m p i Retract (omega arith) (omega arith) w in record { fewer = omega arith; within = in-run (room_of t) m q j Rise k }
  led_on Rise w e =
      let k = run_within (room_of t) m p i Rise (omega arith) (omega arith) w in
      by_test (eqb (m + 1) (room_of t))
      (λ g. let z = eqb-true (m + 1) (room_of t) g in rw g (record { fewer = omega arith; within = unfold is_within in refl }))
      (λ g. let z = eqb-false (m + 1) (room_of t) g in rw g (record { fewer = omega arith; within = in-run (room_of t) (m + 1) q j Approach (omega arith) }))
  led_on Ended w e = absurd (no (sym e))
