-- The steps from an accepted beginning: one after the other they give the phase table walked, and come to its end.
use Rattle.std.specs.Prelude.{Result, Ok, Err, None, Some}
use mathlib.Core.Bool.{true, false, cond, ◌&&◌}
use mathlib.Core.List.{List, [], ◌∷◌}
use mathlib.Core.Logic.{◌⊎◌, inl, inr, ⊎_elim}
use mathlib.Core.Path.{◌≡◌, refl, sym, ap, subst, ◌∙◌}
use Prim.Native.Nat.{ℕ, zero, suc, ◌+◌, ◌-◌, ◌*◌, ◌%◌, ◌≤◌, ◌<◌}
use native.Mathlib.Numerals.{add-one}
use native.Mathlib.Omega.{arith}
use borrow.Author.Tests.{eq-eqb, ne_eqb, leb-true, ltb-false}
use lib.Dec.{T, eqb, ltb, leb, lit<}
use lib.Ieee.{Float, le}
use lib.Ieee.Scale.{finite}
use lib.ListN.{length}
use Rattle.rules.proofs.Branches.{by_test, both_true, no, holds}
use Rattle.plane.specs.Ranges.{is_coordinate}
use Rattle.plane.proofs.Ranges.{coordinate, coordinate_finite}
use Rattle.rules.specs.Ladder.{refuse, demand}
use Rattle.rules.proofs.Ladder.{demanded}
use Rattle.parameters.specs.Terms.{are_three}
use Rattle.fives.specs.Tables.{room_of}
use Rattle.join.specs.Join.{run_in, runs_in}
use Rattle.refusals.specs.declared.Refusal.{Refusal}
use Rattle.refusals.specs.Numbers.{number_of}
use Rattle.refusals.proofs.Named.{not_zero}
use Rattle.moves.specs.declared.Point.{Point}
use Rattle.moves.specs.declared.Heights.{Heights}
use Rattle.moves.specs.declared.State.{State}
use Rattle.moves.specs.declared.Move.{Move}
use Rattle.moves.specs.Phases.{leg_of, same_of, phase_number, is_lift, is_ended}
use Rattle.moves.specs.Begin.{largest, in_order, are_heights, is_run, are_runs, are_ids, refusal_of_runs, refusal_of_begin, state_at, told as begun_told, begin_of}
use Rattle.moves.specs.Next.{move_by, moved_by, passed_by, lines_left, Stepped, stepped, go_on, is_within, is_spent, refusal_of_state, next_of}
use Rattle.moves.specs.Whole.{Whole, before, moves_of, walked}
use Rattle.moves.specs.Laws.{cuts_in, full_of, CutsAre, Lawful, Followed}
use Rattle.moves.proofs.Testing.{all_next, all_starts}
use Rattle.moves.proofs.Going.{passed_on, moved_on, next_goes}
use Rattle.moves.proofs.Keeping.{Fit}
use Rattle.moves.proofs.Walking.{Sound, few, counted, chained, safe, cuts}

-- ---- one step gives the first of the moves that the walk from its state gives, and the walk goes on from the state after it

record Stops (t : List Float) (h : Heights) (k : ℕ) (s : State) : Type 0 where
  last : State
  given : go_on t h k s ≡ stepped 0 None last
  rest : walked t h k s ≡ []

record Gives (t : List Float) (h : Heights) (k : ℕ) (s : State) : Type 0 where
  move : Move
  after : State
  given : go_on t h k s ≡ stepped 0 (Some move) after
  rest : walked t h k s ≡ move ∷ walked t h (lines_left (room_of t) after) after
  within : is_within (room_of t) after ≡ true
  fewer : lines_left (room_of t) after < k
  id : after.next_id ≡ s.next_id + 1

told : (t : List Float) (h : Heights) (k : ℕ) (s : State) → is_within (room_of t) s ≡ true → lines_left (room_of t) s ≡ k → Stops t h k s ⊎ Gives t h k s
unfolding go_on walked
told t h zero s w z = inl (record { last = s; given = refl; rest = refl })
told t h (suc k) s w z =
    by_test (is_ended s.phase) (λ e. inl (record { last = s; given = rw e; rest = rw e }))
    (λ e. by_test (same_of (leg_of t h s).end s.position)
    (λ f. let on = passed_on t h s w e in
    ⊎_elim
    (λ r. inl (record { last = r.last; given = rw (e, f) r.given; rest = rw (e, f) r.rest }))
    (λ r. inr (record {
      move = r.move;
      after = r.after;
      given = rw (e, f) r.given;
      rest = rw (e, f) r.rest;
      within = r.within;
      fewer = lower r.fewer;
      id = r.id;
    }))
    (told t h k (passed_by s (leg_of t h s)) on.within (same_less on.fewer z)))
    (λ f. let on = moved_on t h s w e in
    let q : lines_left (room_of t) (moved_by s (leg_of t h s)) ≡ k = same_less on.fewer z in
    inr (record {
      move = move_by s (leg_of t h s);
      after = moved_by s (leg_of t h s);
      given = rw (e, f);
      rest = rw (e, f, q);
      within = on.within;
      fewer = below q;
      id = refl;
    })))
  where
    lower : {a k : ℕ} → a < k → a < suc k
    lower l = omega arith

    below : {a k : ℕ} → a ≡ k → a < suc k
    below l = omega arith

    same_less : {a b k : ℕ} → a ≡ suc b → a ≡ suc k → b ≡ k
    same_less p q = omega arith

-- ---- step after step

passes : (t : List Float) (h : Heights) (s : State) → eqb (length t % 5) 0 ≡ true → is_within (room_of t) s ≡ true
    → s.next_id + lines_left (room_of t) s ≤ largest
    → refusal_of_state t s ≡ 0
unfolding refusal_of_state demand refuse is_spent
passes t h s five w ids =
    by_test (is_ended s.phase) (λ e. rw (five, w, e))
    (λ e. let k = (passed_on t h s w e).fewer in
    let g : eqb s.next_id largest ≡ false = ne_eqb s.next_id largest (λ q. omega arith) in
    rw (five, w, e, g))

record Done (t : List Float) (h : Heights) (s : State) (w : Whole) : Type 0 where
  all : w.moves ≡ walked t h (lines_left (room_of t) s) s
  accepted : w.stop.refusal ≡ 0
  ended : w.stop.step ≡ None

module _ (t : List Float) (h : Heights) where
  none_at : (s l : State) → next_of t h s ≡ stepped 0 None l → moves_of t h 0 s ≡ record { moves = []; stop = stepped 0 None l }
  unfolding moves_of
  none_at s l e = ap (λ (a : Stepped). record { moves = []; stop = a }) e

  stop_at : (j : ℕ) (s l : State) → next_of t h s ≡ stepped 0 None l → moves_of t h (suc j) s ≡ record { moves = []; stop = stepped 0 None l }
  unfolding moves_of before
  stop_at j s l e = ap (λ (a : Stepped). before a.step a (moves_of t h j a.state)) e

  go_at : (j : ℕ) (s l : State) (m : Move) → next_of t h s ≡ stepped 0 (Some m) l
      → moves_of t h (suc j) s ≡ record { moves = m ∷ (moves_of t h j l).moves; stop = (moves_of t h j l).stop }
  unfolding moves_of before
  go_at j s l m e = ap (λ (a : Stepped). before a.step a (moves_of t h j a.state)) e

  stopped : (s l : State) (w : Whole) → w ≡ record { moves = []; stop = stepped 0 None l } → walked t h (lines_left (room_of t) s) s ≡ [] → Done t h s w
  stopped s l w e r =
      record { all = ap (λ (w : Whole). w.moves) e ∙ sym r; accepted = ap (λ (w : Whole). w.stop.refusal) e; ended = ap (λ (w : Whole). w.stop.step) e }

  module _ (five : eqb (length t % 5) 0 ≡ true) where
    all_steps : (j : ℕ) (s : State) → is_within (room_of t) s ≡ true → s.next_id + lines_left (room_of t) s ≤ largest → lines_left (room_of t) s ≤ j
        → Done t h s (moves_of t h j s)
    all_steps zero s w i l =
        let n = sym (next_goes t h s (sym (passes t h s five w i))) in
        ⊎_elim (λ r. stopped s r.last _ (none_at s r.last (n ∙ r.given)) r.rest)
        (λ r. let k = r.fewer in absurd (omega arith))
        (told t h (lines_left (room_of t) s) s w refl)
    all_steps (suc j) s w i l =
        let n = sym (next_goes t h s (sym (passes t h s five w i))) in
        ⊎_elim (λ r. stopped s r.last _ (stop_at j s r.last (n ∙ r.given)) r.rest)
        (λ r. let k = r.fewer in
        let q = r.id in
        let e = go_at j s r.after r.move (n ∙ r.given) in
        let d = all_steps j r.after r.within (omega arith) (omega arith) in
        record {
          all = ap (λ (w : Whole). w.moves) e ∙ ap (λ (ms : List Move). r.move ∷ ms) d.all ∙ sym r.rest;
          accepted = ap (λ (w : Whole). w.stop.refusal) e ∙ d.accepted;
          ended = ap (λ (w : Whole). w.stop.step) e ∙ d.ended;
        })
        (told t h (lines_left (room_of t) s) s w refl)

-- ---- what an accepted beginning says

three : (a b c : Float) → are_three a b c ≡ true → T (finite a) × T (finite b) × T (finite c)
unfolding are_three
three a b c e =
    let k = both_true _ _ e in
    let l = both_true _ _ k.1 in
    (fine a k.0, fine b l.0, fine c l.1)
  where
    fine : (x : Float) → is_coordinate x ≡ true → T (finite x)
    fine x e = coordinate_finite x (coordinate x e)

module _ (t : List Float) (feed : Float) (a : are_runs feed (runs_in t 0 (room_of t)) ≡ true) where
  from_here : (m : ℕ) → m ≤ room_of t → are_runs feed (runs_in t m (room_of t - m)) ≡ true
  from_here zero h = all_starts feed t (room_of t) ∙ a
  from_here (suc m) h =
      rw (← add-one m) (both_true (is_run feed (run_in t m)) _ (sym (all_next feed t m (room_of t) (omega arith)) ∙ from_here m (omega arith))).1

  run_is : (m : ℕ) → m < room_of t → T (finite (run_in t m).ax) × T (finite (run_in t m).ay) × T (finite (run_in t m).z)
  unfolding is_run
  run_is m h =
      let e = (both_true (is_run feed (run_in t m)) _ (sym (all_next feed t m (room_of t) h) ∙ from_here m (omega arith))).0 in
      three _ _ _ (both_true _ _ e).0

minus_zero : (n : ℕ) → n - 0 ≡ n
minus_zero n = omega arith

module _ (t : List Float) (h : Heights) (p : Point) (first : ℕ) (e : refusal_of_begin t h p first ≡ 0) where
  abbrev start : State
  start = state_at p first

  record Kept : Type 0 where
    five : eqb (length t % 5) 0 ≡ true
    fit : Fit t h
    start_high : T (le h.clearance p.z)
    ids : first + 7 * room_of t + 1 ≤ largest

  kept : Kept
  unfolding refusal_of_begin refusal_of_runs are_heights in_order are_ids
  kept =
      let a = demanded _ 1 _ (lit< tt) e in
      let b = demanded _ 26 _ (lit< tt) a.1 in
      let c = demanded (are_runs h.feed (runs_in t 0 (room_of t))) 26 _ (lit< tt) b.1 in
      let d = (demanded _ 27 _ (lit< tt) c.1).0 in
      let hs = both_true _ _ b.0 in
      let f = three _ _ _ hs.0 in
      let g = (both_true (are_three p.x p.y p.z) (in_order h p) hs.1).1 in
      let o = both_true (le h.feed h.retract) (le h.retract h.clearance && le h.clearance p.z) g in
      let q = both_true (le h.retract h.clearance) (le h.clearance p.z) o.1 in
      record {
        five = a.0;
        fit = record {
          feed_retract = holds _ o.0;
          retract_clearance = holds _ q.0;
          feed_fine = f.2;
          retract_fine = f.1;
          clearance_fine = f.0;
          run_fine = run_is t h.feed c.0;
        };
        start_high = holds _ q.1;
        ids = ids_in d;
      }
    where
      ids_in : cond (eqb first 0) false (leb (first + 7 * room_of t + 1) largest) ≡ true → first + 7 * room_of t + 1 ≤ largest
      ids_in g = by_test (eqb first 0) (λ k. absurd (no (rw k at g))) (λ k. leb-true _ _ (rw k at g))

  begins_within : is_within (room_of t) start ≡ true
  unfolding is_within is_ended is_lift phase_number
  begins_within = by_test (ltb 0 (room_of t)) (λ k. rw k) (λ k. let z = ltb-false 0 (room_of t) k in rw (k, eq-eqb (room_of t) 0 (omega arith)))

  sound : Sound t h start
  sound = record { above = kept.start_high; near = tt; within = begins_within }

  lines : lines_left (room_of t) start ≡ 6 * room_of t + 1
  unfolding lines_left is_ended phase_number
  lines = omega arith

  pub lawful : Lawful t h start (moves_of t h (7 * room_of t + 1) start)
  lawful =
      let i = kept.ids in
      let l = lines in
      let d = all_steps t h kept.five (7 * room_of t + 1) start begins_within (omega arith) (omega arith) in
      let n = lines_left (room_of t) start in
      let f = few t h n start in
      record {
        table = d.all;
        few = rw d.all (omega arith);
        accepted = d.accepted;
        ended = d.ended;
        ids = rw d.all (counted t h n start);
        chained = rw d.all (chained t h n start);
        safe = rw d.all (safe t h kept.fit n start sound);
        cuts = rw d.all (subst (λ (n : ℕ). CutsAre (cuts_in (walked t h (lines_left (room_of t) start) start)) (full_of (runs_in t 0 n))) (minus_zero (room_of t))
            (cuts t h kept.fit n start sound refl));
      }

-- ---- `begin`

module _ (t : List Float) (h : Heights) (p : Point) (first : ℕ) where
  pub begin_refused : (a : Result State Refusal) (r : Refusal) → a ≡ Err r → number_of r ≡ refusal_of_begin t h p first
      → (begun_told a ≡ begin_of t h p first) × Followed t h (begun_told a).refusal (begun_told a).state
  unfolding begun_told begin_of Followed
  begin_refused a r q e = rw q (rw (← e, ne_eqb (number_of r) 0 (not_zero r)), λ z. absurd (not_zero r z))

  pub begin_goes : (s : State) → 0 ≡ refusal_of_begin t h p first → s ≡ state_at p first
      → (begun_told (Ok s) ≡ begin_of t h p first) × Followed t h (begun_told (Ok s)).refusal (begun_told (Ok s)).state
  unfolding begun_told begin_of Followed
  begin_goes s e q = (
    rw (← e, q),
    λ y. subst (λ (s : State). Lawful t h s (moves_of t h (7 * room_of t + 1) s)) (sym q) (lawful t h p first (sym e)),
  )
