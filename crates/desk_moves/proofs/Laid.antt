-- What the doors lay into C's arrays.
use Rattle.std.specs.Prelude.{Result, Ok, Err}
use mathlib.Core.List.{List, [], ◌∷◌}
use mathlib.Core.Path.{◌≡◌, refl, sym, ap, subst, ◌∙◌}
use Prim.Native.Nat.{ℕ, ◌%◌, ◌≤◌, ◌<◌}
use borrow.Author.Tests.{ne_eqb, lt-ltb, le-ltb}
use lib.Dec.{eqb}
use lib.Ieee.{Float}
use lib.ListN.{length, get_or}
use Rattle.numbers.specs.Reals.{f0}
use Rattle.rules.specs.Ladder.{demand}
use Rattle.moves.specs.declared.Point.{Point}
use Rattle.moves.specs.declared.Heights.{Heights}
use Rattle.moves.specs.declared.State.{State}
use Rattle.refusals.specs.declared.Refusal.{Refusal}
use Rattle.refusals.specs.Numbers.{number_of}
use Rattle.refusals.proofs.Named.{not_zero}
use Rattle.moves.specs.declared.Stepped as answer
use Rattle.moves.specs.declared.Phase.{Phase}
use Rattle.moves.specs.declared.Phase.TheVariants.{Lift, Approach, Descend, Plunge, Cut, Retract, Rise, Ended}
use Rattle.moves.specs.Phases.{phase_number}
use Rattle.moves.specs.Begin.{Begun, told as begun_told, begin_of}
use Rattle.moves.specs.Next.{Stepped, told, next_of}
use Rattle.moves.specs.Laws.{Followed}
use Rattle.desk_moves.specs.Doors.{heights_from, early_phase, late_phase, phase_from, state_from, point_left, begun_left}
use Rattle.desk_moves.specs.Doors.{begun_left_by, next_from, end_left, kind_left, id_left, next_left, next_left_by}

-- a phase's number gives the phase back, and so a state's numbers the state
phase_back : (ph : Phase) → phase_from (phase_number ph) ≡ ph
unfolding phase_from early_phase late_phase phase_number
phase_back Lift = refl
phase_back Approach = refl
phase_back Descend = refl
phase_back Plunge = refl
phase_back Cut = refl
phase_back Retract = refl
phase_back Rise = refl
phase_back Ended = refl

state_back : (s : State) (n : ℕ) → n ≡ phase_number s.phase → s ≡ state_from (point_left s.position) (n ∷ s.run ∷ s.next_id ∷ [])
unfolding state_from
state_back s n e = rw (e, phase_back s.phase)

-- ---- a beginning

module _ (t ps : List Float) (ns : List ℕ) (h h' : Heights) (eh : h ≡ h') (p p' : Point) (ep : p ≡ p') (first : ℕ) where
  asked : (a : Begun) → a ≡ begin_of t h p first → a ≡ begin_of t h' p' first
  asked a q = q ∙ ap (λ (h : Heights). begin_of t h p first) eh ∙ ap (λ (p : Point). begin_of t h' p first) ep

  pub begin_held : (r : Refusal) → begun_told (Err r) ≡ begin_of t h p first → (k : ℕ) → k ≡ number_of r
      → (begun_left k ps ns ≡ begun_left_by ps ns (begin_of t h' p' first)) × Followed t h' k (state_from ps ns)
  unfolding begun_told begun_left_by Followed
  begin_held r q k e = (
    ap (λ (k : ℕ). begun_left k ps ns) e ∙ sym (rw (ne_eqb (number_of r) 0 (not_zero r))) ∙ ap (begun_left_by ps ns) (asked _ q),
    λ z. absurd (not_zero r (sym e ∙ z)),
  )

  pub begin_laid : (s : State) → begun_told (Ok s) ≡ begin_of t h p first → Followed t h 0 s → (n : ℕ) → n ≡ phase_number s.phase
      → (begun_left 0 (point_left s.position) (n ∷ s.run ∷ s.next_id ∷ []) ≡ begun_left_by ps ns (begin_of t h' p' first))
      × Followed t h' 0 (state_from (point_left s.position) (n ∷ s.run ∷ s.next_id ∷ []))
  unfolding begun_told begun_left_by
  begin_laid s q f n e = (
    ap (λ (n : ℕ). begun_left 0 (point_left s.position) (n ∷ s.run ∷ s.next_id ∷ [])) e ∙ ap (begun_left_by ps ns) (asked _ q),
    subst (λ (h : Heights). Followed t h 0 (state_from (point_left s.position) (n ∷ s.run ∷ s.next_id ∷ []))) eh
        (subst (λ (s : State). Followed t h 0 s) (state_back s n e) f),
  )

-- ---- a step

module _ (t hs ps : List Float) (ns : List ℕ) (s : State) (es : s ≡ state_from ps ns) where
  pub phase_high : 7 < get_or ns 0 0 → (r : Refusal) → number_of r ≡ demand (eqb (length t % 5) 0) 1 29
      → told (state_from ps ns) (Err r) ≡ next_from t hs ps ns
  unfolding told next_from
  phase_high l r e = rw (lt-ltb 7 (get_or ns 0 0) l, e)

  pub phase_fits : get_or ns 0 0 ≤ 7 → (h : Heights) → h ≡ heights_from hs → (a : Result answer.Stepped Refusal) → told s a ≡ next_of t h s
      → told (state_from ps ns) a ≡ next_from t hs ps ns
  unfolding next_from
  phase_fits l h e a q = ap (λ (s : State). told s a) (sym es) ∙ q ∙ (rw (le-ltb 7 (get_or ns 0 0) l, e, es))

module _ (ps : List Float) (ns : List ℕ) (w : Stepped) where
  pub next_held : (s : State) (r : Refusal) → told s (Err r) ≡ w → (k : ℕ) → k ≡ number_of r
      → next_left k ps ns (f0 ∷ f0 ∷ f0 ∷ []) (0 ∷ 0 ∷ []) ≡ next_left_by ps ns w
  unfolding told next_left_by end_left kind_left id_left
  next_held s r q k e =
      ap (λ (k : ℕ). next_left k ps ns (f0 ∷ f0 ∷ f0 ∷ []) (0 ∷ 0 ∷ [])) e ∙ sym (rw (ne_eqb (number_of r) 0 (not_zero r))) ∙ ap (next_left_by ps ns) q

  pub next_laid : (s : State) (a : answer.Stepped) → told s (Ok a) ≡ w → (e : Point) (k i : ℕ) → e ≡ end_left a.step → k ≡ kind_left a.step
      → i ≡ id_left a.step → (n : ℕ) → n ≡ phase_number a.state.phase
      → next_left 0 (point_left a.state.position) (n ∷ a.state.run ∷ a.state.next_id ∷ []) (point_left e) (k ∷ i ∷ []) ≡ next_left_by ps ns w
  unfolding told next_left_by
  next_laid s a q e k i ee ek ei n en = (rw (en, ee, ek, ei)) ∙ ap (next_left_by ps ns) q
