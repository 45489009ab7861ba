-- A job gets no refusal exactly where it is sound.
use mathlib.Core.Bool.{Bool, true, false}
use mathlib.Core.List.{List}
use mathlib.Core.Path.{◌≡◌, refl, ◌∙◌}
use Prim.Native.Nat.{ℕ, ◌≤◌, ◌<◌}
use native.Mathlib.Nat.{zero-add}
use native.Mathlib.Omega.{arith}
use lib.Dec.{lit<}
use lib.ListN.{length}
use Rattle.rules.specs.Ladder.{refuse}
use Rattle.rules.proofs.Ladder.{refuse_next, refused_not}
use Rattle.fields.proofs.Rows.{passed, passes}
use Rattle.job.specs.Layout.{bytes_of, wide}
use Rattle.job.specs.Head.{Headed}
use Rattle.job.specs.Reader.{number_of, refusal_of_numbers, refusal_of, Sound}
use Rattle.job.proofs.Heads.{headed, head_cut, head_passes}

pub never-19 : (b : Bool) → refuse b 20 0 ≡ 19 → ⊥
unfolding refuse
never-19 true e = omega arith
never-19 false e = omega arith

module _ (bytes : List ℕ) (nroom mroom : ℕ) where
  -- a job that passes every rung is sound
  pub sound : refusal_of bytes nroom mroom ≡ 0 → Sound bytes nroom mroom
  unfolding refusal_of refusal_of_numbers
  sound e =
      let h = headed wide 1 bytes nroom mroom _ e in
      let j = refused_not _ 20 _ (lit< tt) h.1 in
      record {
        marked = h.0.marked;
        first = h.0.first;
        clear = h.0.clear;
        some = h.0.some;
        few = h.0.few;
        few_questions = h.0.few_questions;
        whole = h.0.whole;
        finite_all = λ k l. rw (← zero-add k) (passed (number_of bytes) 0 _ j.0 k l);
      }

  pub head_of : Sound bytes nroom mroom → Headed wide 1 bytes nroom mroom
  head_of s =
      record { marked = s.marked; first = s.first; clear = s.clear; some = s.some; few = s.few; few_questions = s.few_questions; whole = s.whole }

  -- and a sound one passes every rung
  pub accepted : Sound bytes nroom mroom → 0 ≡ refusal_of bytes nroom mroom
  unfolding refusal_of refusal_of_numbers
  accepted s =
      refuse_next _ 20 0 0 (passes (number_of bytes) 0 _ (λ k l. rw zero-add (s.finite_all k l))) refl
      ∙ head_passes wide 1 bytes nroom mroom (head_of s) _

  -- 19 is given to a head, with counts that have room, and too few bytes
  pub cut_only : refusal_of bytes nroom mroom ≡ 19 → (30 ≤ length bytes) × (length bytes < bytes_of wide nroom mroom)
  unfolding refusal_of refusal_of_numbers
  cut_only e = head_cut wide 1 bytes nroom mroom _ (λ z. never-19 _ z) e
