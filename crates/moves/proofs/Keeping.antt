-- What holds of position and run at each phase, and that every line of the table keeps it: how high the tool is, and that it stands at the run's start before
-- the cut.
use mathlib.Core.Bool.{true, false}
use mathlib.Core.List.{List, [], ◌∷◌}
use mathlib.Core.Logic.{inl, inr}
use mathlib.Core.Path.{◌≡◌, refl, sym, ap, ◌∙◌}
use Prim.Native.Nat.{ℕ, suc, ◌+◌, ◌-◌, ◌<◌}
use native.Mathlib.Omega.{arith}
use borrow.Author.Tests.{eqb-true}
use lib.Dec.{T, eqb}
use lib.Ieee.{Float, le, eq}
use lib.Ieee.Scale.{finite}
use Rattle.rules.proofs.Branches.{by_test, either, no}
use Rattle.order.proofs.Extremes.{le_self}
use Rattle.order.proofs.Order.{le_trans}
use Rattle.fives.specs.Tables.{room_of}
use Rattle.runs.specs.declared.Run.{Run}
use Rattle.join.specs.Join.{run_in, runs_in}
use Rattle.moves.specs.declared.Point.{Point}
use Rattle.moves.specs.declared.Heights.{Heights}
use Rattle.moves.specs.declared.Leg.{Leg}
use Rattle.moves.specs.declared.Move.{Move}
use Rattle.moves.specs.declared.Phase.{Phase}
use Rattle.moves.specs.declared.Phase.TheVariants.{Lift, Approach, Descend, Plunge, Cut, Retract, Rise, Ended}
use Rattle.moves.specs.declared.Kind.{Kind}
use Rattle.moves.specs.declared.Kind.TheVariants as kind
use Rattle.moves.specs.Phases.{point, start_of, end_of, line_of, same_of, phase_number, kind_number, is_ended}
use Rattle.moves.specs.Laws.{SafeRapid, cuts_in, full_of, CutsAre}
use Rattle.moves.proofs.Equal.{eq_le, eq_self, max_above, same_parts, same_of_lem, same_to}

-- what an accepted beginning says of heights and runs
pub record Fit (t : List Float) (h : Heights) : Type 0 where
  pub feed_retract : T (le h.feed h.retract)
  pub retract_clearance : T (le h.retract h.clearance)
  pub feed_fine : T (finite h.feed)
  pub retract_fine : T (finite h.retract)
  pub clearance_fine : T (finite h.clearance)
  pub run_fine : (m : ℕ) → m < room_of t → T (finite (run_in t m).ax) × T (finite (run_in t m).ay) × T (finite (run_in t m).z)

-- how high the tool is
abbrev pub Above : Heights → Phase → Float → Type 0
Above h Lift z = T (le h.clearance z)
Above h Approach z = T (le h.retract z)
Above h Descend z = T (le h.retract z)
Above h Plunge z = Unit
Above h Cut z = Unit
Above h Retract z = Unit
Above h Rise z = T (le h.feed z)
Above h Ended z = Unit

-- where it stands
abbrev Over : Run → Point → Type 0
Over r p = (eq r.ax p.x ≡ true) × (eq r.ay p.y ≡ true)

abbrev pub Near : List Float → Phase → ℕ → Point → Type 0
Near t Lift m p = Unit
Near t Approach m p = Unit
Near t Descend m p = Over (run_in t m) p
Near t Plunge m p = Over (run_in t m) p
Near t Cut m p = same_of (start_of (run_in t m)) p ≡ true
Near t Retract m p = Unit
Near t Rise m p = Unit
Near t Ended m p = Unit

pub above_same : (h : Heights) (ph : Phase) (x y : Float) → eq x y ≡ true → Above h ph x → Above h ph y
above_same h Lift x y e a = le_trans h.clearance x y a (eq_le x y e)
above_same h Approach x y e a = le_trans h.retract x y a (eq_le x y e)
above_same h Descend x y e a = le_trans h.retract x y a (eq_le x y e)
above_same h Plunge x y e a = tt
above_same h Cut x y e a = tt
above_same h Retract x y e a = tt
above_same h Rise x y e a = le_trans h.feed x y a (eq_le x y e)
above_same h Ended x y e a = tt

-- the runs that are still to be cut
abbrev pub todo : List Float → Phase → ℕ → List Run
todo t Lift m = runs_in t m (room_of t - m)
todo t Approach m = runs_in t m (room_of t - m)
todo t Descend m = runs_in t m (room_of t - m)
todo t Plunge m = runs_in t m (room_of t - m)
todo t Cut m = runs_in t m (room_of t - m)
todo t Retract m = runs_in t (m + 1) (room_of t - (m + 1))
todo t Rise m = runs_in t (m + 1) (room_of t - (m + 1))
todo t Ended m = []

module _ (t : List Float) (h : Heights) (fit : Fit t h) where
  feed_clearance : T (le h.feed h.clearance)
  feed_clearance = le_trans h.feed h.retract h.clearance fit.feed_retract fit.retract_clearance

  high : (z : Float) → T (le h.retract z) → T (le h.feed z)
  high z a = le_trans h.feed h.retract z fit.feed_retract a

  module _ (m : ℕ) (p : Point) where
    -- the line of the table
    abbrev line : Phase → Leg
    line ph = line_of t h ph m p

    pub moved_above : (ph : Phase) → Above h ph p.z → Above h (line ph).next (line ph).end.z
    unfolding line_of
    moved_above Lift a = either (λ ph. Above h ph h.clearance) (eqb (room_of t) 0) Ended Approach (λ e. tt) (λ e. fit.retract_clearance)
    moved_above Approach a = a
    moved_above Descend a = tt
    moved_above Plunge a = tt
    moved_above Cut a = tt
    moved_above Retract a = max_above h.feed p.z fit.feed_fine
    moved_above Rise a = either (λ (l : Leg). Above h l.next l.end.z) (eqb (m + 1) (room_of t)) _ _ (λ e. tt)
        (λ e. max_above h.retract p.z fit.retract_fine)
    moved_above Ended a = tt

    pub passed_above : (ph : Phase) → same_of (line ph).end p ≡ true → Above h ph p.z → Above h (line ph).next p.z
    passed_above ph e a = above_same h (line ph).next (line ph).end.z p.z (same_parts (line ph).end p e).2 (moved_above ph a)

    pub moved_near : (ph : Phase) → (0 < phase_number ph → phase_number ph < 7 → m < room_of t) → Near t ph m p
        → Near t (line ph).next (line ph).run (line ph).end
    unfolding line_of phase_number
    moved_near Lift w n = either (λ ph. Near t ph m (point p.x p.y h.clearance)) (eqb (room_of t) 0) Ended Approach (λ e. tt) (λ e. tt)
    moved_near Approach w n = let f = fit.run_fine m (w (omega arith) (omega arith)) in (eq_self _ f.0, eq_self _ f.1)
    moved_near Descend w n = n
    moved_near Plunge w n = let f = fit.run_fine m (w (omega arith) (omega arith)) in same_of_lem _ _ n.0 n.1 (eq_self _ f.2)
    moved_near Cut w n = tt
    moved_near Retract w n = tt
    moved_near Rise w n = either (λ (l : Leg). Near t l.next l.run l.end) (eqb (m + 1) (room_of t)) _ _ (λ e. tt) (λ e. tt)
    moved_near Ended w n = tt

    pub passed_near : (ph : Phase) → same_of (line ph).end p ≡ true → Near t ph m p → Near t (line ph).next (line ph).run p
    unfolding line_of
    passed_near Lift e n = either (λ ph. Near t ph m p) (eqb (room_of t) 0) Ended Approach (λ e. tt) (λ e. tt)
    passed_near Approach e n = let k = same_parts _ p e in (k.0, k.1)
    passed_near Descend e n = n
    passed_near Plunge e n = same_of_lem _ p n.0 n.1 (same_parts _ p e).2
    passed_near Cut e n = tt
    passed_near Retract e n = tt
    passed_near Rise e n = either (λ (l : Leg). Near t l.next l.run p) (eqb (m + 1) (room_of t)) _ _ (λ e. tt) (λ e. tt)
    passed_near Ended e n = tt

    -- ---- the line's move
    abbrev move_at : Phase → ℕ → Move
    move_at ph i = record { start = p; end = (line ph).end; kind = (line ph).kind; id = i }

    other : (k : Kind) → kind_number k ≡ kind_number kind.Rapid → kind_number k ≡ 1
    unfolding kind_number
    other k e = e

    not_rapid : {A : Type 0} (k : Kind) (n : ℕ) → kind_number k ≡ n → 1 < n → k ≡ kind.Rapid → A
    not_rapid k n e l f = let g : kind_number k ≡ 1 = other k (ap kind_number f) in absurd (omega arith)

    pub safe_move : (ph : Phase) (i : ℕ) → is_ended ph ≡ false → Above h ph p.z → (line ph).kind ≡ kind.Rapid → SafeRapid h (move_at ph i)
    unfolding line_of
    safe_move Lift i o a r =
        record {
          begins = le_trans h.feed h.clearance p.z feed_clearance a;
          ends = feed_clearance;
          upright = inl (refl, refl);
        }
    safe_move Approach i o a r = record { begins = high p.z a; ends = high p.z a; upright = inr (a, a) }
    safe_move Descend i o a r = record { begins = high p.z a; ends = le_self h.feed fit.feed_fine; upright = inl (refl, refl) }
    safe_move Plunge i o a r = not_rapid kind.Plunge 2 (unfold kind_number in refl) (omega arith) r
    safe_move Cut i o a r = not_rapid kind.Cut 3 (unfold kind_number in refl) (omega arith) r
    safe_move Retract i o a r = not_rapid kind.Retract 4 (unfold kind_number in refl) (omega arith) r
    safe_move Rise i o a r =
        record {
          begins = a;
          ends = either (λ (l : Leg). T (le h.feed l.end.z)) (eqb (m + 1) (room_of t)) _ _
              (λ e. le_trans h.feed h.clearance _ feed_clearance (max_above h.clearance p.z fit.clearance_fine))
              (λ e. high _ (max_above h.retract p.z fit.retract_fine));
          upright = inl (either (λ (l : Leg). (l.end.x ≡ p.x) × (l.end.y ≡ p.y)) (eqb (m + 1) (room_of t)) _ _ (λ e. (refl, refl)) (λ e. (refl, refl)));
        }
    safe_move Ended i o a r = absurd (no (sym (unfold is_ended phase_number in o)))

    -- ---- the cuts
    cut_todo : m < room_of t → todo t Cut m ≡ run_in t m ∷ todo t Retract m
    unfolding runs_in
    cut_todo w = let e : room_of t - m ≡ suc (room_of t - (m + 1)) = omega arith in rw e

    none_left : (k : ℕ) → room_of t - k ≡ 0 → runs_in t k (room_of t - k) ≡ []
    unfolding runs_in
    none_left k e = rw e

    -- a line other than the cut leaves the runs that are to be cut
    line_todo : (ph : Phase) → is_ended ph ≡ false → (phase_number ph ≡ 4 → ⊥) → todo t ph m ≡ todo t (line ph).next (line ph).run
    unfolding line_of phase_number
    line_todo Lift o c =
        by_test (eqb (room_of t) 0) (λ e. let z = eqb-true (room_of t) 0 e in rw e (none_left m (omega arith))) (λ e. rw e)
    line_todo Approach o c = refl
    line_todo Descend o c = refl
    line_todo Plunge o c = refl
    line_todo Cut o c = absurd (c refl)
    line_todo Retract o c = refl
    line_todo Rise o c =
        by_test (eqb (m + 1) (room_of t)) (λ e. let z = eqb-true (m + 1) (room_of t) e in rw e (none_left (m + 1) (omega arith))) (λ e. rw e)
    line_todo Ended o c = absurd (no (sym (unfold is_ended in o)))

    line_kind : (ph : Phase) → (phase_number ph ≡ 4 → ⊥) → eqb (kind_number (line ph).kind) 3 ≡ false
    unfolding line_of phase_number kind_number
    line_kind Lift c = refl
    line_kind Approach c = refl
    line_kind Descend c = refl
    line_kind Plunge c = refl
    line_kind Cut c = absurd (c refl)
    line_kind Retract c = refl
    line_kind Rise c = either (λ (l : Leg). eqb (kind_number l.kind) 3 ≡ false) (eqb (m + 1) (room_of t)) _ _ (λ e. refl) (λ e. refl)
    line_kind Ended c = refl

    -- what the moves after a line say of the runs left there, said of the line's own
    module _ (ph : Phase) (i : ℕ) (rest : List Move) (o : is_ended ph ≡ false) (k : CutsAre (cuts_in rest) (full_of (todo t (line ph).next (line ph).run))) where
      passed_other : (phase_number ph ≡ 4 → ⊥) → CutsAre (cuts_in rest) (full_of (todo t ph m))
      passed_other c = rw (line_todo ph o c) k

      moved_other : (phase_number ph ≡ 4 → ⊥) → CutsAre (cuts_in (move_at ph i ∷ rest)) (full_of (todo t ph m))
      unfolding cuts_in
      moved_other c = rw (line_kind ph c) (passed_other c)

    module _ (i : ℕ) (rest : List Move) (w : m < room_of t) (n : Near t Cut m p) (k : CutsAre (cuts_in rest) (full_of (todo t Retract m))) where
      passed_cut : same_of (end_of (run_in t m)) p ≡ true → CutsAre (cuts_in rest) (full_of (todo t Cut m))
      unfolding full_of
      passed_cut e = rw (cut_todo w) (rw (sym (same_to (start_of (run_in t m)) p (end_of (run_in t m)) n) ∙ e) k)

      moved_cut : same_of (end_of (run_in t m)) p ≡ false → CutsAre (cuts_in (move_at Cut i ∷ rest)) (full_of (todo t Cut m))
      unfolding full_of cuts_in CutsAre line_of kind_number
      moved_cut e = rw (cut_todo w) (rw (sym (same_to (start_of (run_in t m)) p (end_of (run_in t m)) n) ∙ e) (refl, n, k))

    pub passed_cuts : (ph : Phase) (rest : List Move) → is_ended ph ≡ false → (0 < phase_number ph → phase_number ph < 7 → m < room_of t) → Near t ph m p
        → same_of (line ph).end p ≡ true → CutsAre (cuts_in rest) (full_of (todo t (line ph).next (line ph).run)) → CutsAre (cuts_in rest) (full_of (todo t ph m))
    unfolding line_of phase_number
    passed_cuts Lift rest o w n e k = passed_other Lift 0 rest o k (λ c. omega arith)
    passed_cuts Approach rest o w n e k = k
    passed_cuts Descend rest o w n e k = k
    passed_cuts Plunge rest o w n e k = k
    passed_cuts Cut rest o w n e k = passed_cut 0 rest (w (omega arith) (omega arith)) n k e
    passed_cuts Retract rest o w n e k = k
    passed_cuts Rise rest o w n e k = passed_other Rise 0 rest o k (λ c. omega arith)
    passed_cuts Ended rest o w n e k = absurd (no (sym (unfold is_ended in o)))

    pub moved_cuts : (ph : Phase) (i : ℕ) (rest : List Move) → is_ended ph ≡ false → (0 < phase_number ph → phase_number ph < 7 → m < room_of t) → Near t ph m p
        → same_of (line ph).end p ≡ false → CutsAre (cuts_in rest) (full_of (todo t (line ph).next (line ph).run))
        → CutsAre (cuts_in (move_at ph i ∷ rest)) (full_of (todo t ph m))
    unfolding line_of phase_number
    moved_cuts Lift i rest o w n e k = moved_other Lift i rest o k (λ c. omega arith)
    moved_cuts Approach i rest o w n e k = moved_other Approach i rest o k (λ c. omega arith)
    moved_cuts Descend i rest o w n e k = moved_other Descend i rest o k (λ c. omega arith)
    moved_cuts Plunge i rest o w n e k = moved_other Plunge i rest o k (λ c. omega arith)
    moved_cuts Cut i rest o w n e k = moved_cut i rest (w (omega arith) (omega arith)) n k e
    moved_cuts Retract i rest o w n e k = moved_other Retract i rest o k (λ c. omega arith)
    moved_cuts Rise i rest o w n e k = moved_other Rise i rest o k (λ c. omega arith)
    moved_cuts Ended i rest o w n e k = absurd (no (sym (unfold is_ended in o)))
