-- Laws of a whole writing: what is refused, what is accepted, and what an accepted mesh and its questions allow.
use mathlib.Core.Bool.{true, not}
use mathlib.Core.List.{List, ◌++◌}
use mathlib.Core.Path.{◌≡◌, refl, ap, sym, ◌∙◌}
use Prim.Native.Nat.{ℕ, ◌+◌, ◌*◌, ◌/◌, ◌%◌, ◌≤◌}
use native.Mathlib.Omega.{arith}
use borrow.Author.Tests.{eq-eqb, ne_eqb, eqb-true, eqb-false, ltb-false, le-ltb, not-false}
use lib.Dec.{eqb, lit<}
use lib.Ieee.{Float}
use lib.ListN.{length, drop, length-append}
use lib.Seq.{sets, sets-eq}
use Rattle.rules.proofs.Branches.{taken, left, either}
use Rattle.fields.specs.Rows.{all_finite}
use Rattle.rules.proofs.Ladder.{refuse_next, refused_not}
use Rattle.writer.specs.Writer.{numbers_in, job_of, job_in, size_of, refusal_of_numbers, refusal_of_counts}
use Rattle.std.specs.Prelude.{Err}
use Rattle.refusals.specs.Numbers.{code_of}
use Rattle.refusals.specs.declared.Refusal.{Refusal}
use Rattle.refusals.proofs.Named.{numbered}
use Rattle.writer.specs.Writer.{refusal_of, Outcome, told, ended, refused_by, accepted_of, write_of}
use Rattle.writer.proofs.Rows.{laid_length, head_length}

module _ (mesh : List Float) (floor radius : Float) (qs : List Float) (room : ℕ) where
  -- what is not refused
  pub record Accepted : Type 0 where
    pub nine : length mesh ≡ 9 * (length mesh / 9)
    pub few : length mesh / 9 ≤ 65536
    pub five : length qs ≡ 5 * (length qs / 5)
    pub some : 1 ≤ length mesh / 9
    pub few_questions : length qs / 5 ≤ 65536
    pub finite_all : all_finite (numbers_in mesh floor radius qs) ≡ true
    pub fits : size_of mesh qs ≤ room

  pub accepted : refusal_of mesh floor radius qs room ≡ 0 → Accepted
  unfolding refusal_of refusal_of_counts refusal_of_numbers
  accepted e =
      let a = refused_not _ 1 _ (lit< tt) e in
      let b = refused_not _ 1 _ (lit< tt) a.1 in
      let c = refused_not _ 1 _ (lit< tt) b.1 in
      let d = refused_not _ 18 _ (lit< tt) c.1 in
      let f = refused_not _ 18 _ (lit< tt) d.1 in
      let g = refused_not _ 20 _ (lit< tt) f.1 in
      let h = refused_not _ 22 _ (lit< tt) g.1 in
      let p = eqb-true (length mesh % 9) 0 (not-false _ a.0) in
      let q = eqb-true (length qs % 5) 0 (not-false _ c.0) in
      let z = eqb-false (length mesh) 0 d.0 in
      record {
        nine = omega arith;
        few = ltb-false _ _ b.0;
        five = omega arith;
        some = omega arith;
        few_questions = ltb-false _ _ f.0;
        finite_all = not-false _ g.0;
        fits = ltb-false _ _ h.0;
      }

  pub accepts : Accepted → refusal_of mesh floor radius qs room ≡ 0
  unfolding refusal_of refusal_of_counts refusal_of_numbers
  accepts a =
      let p : length mesh % 9 ≡ 0 = omega (arith, a.nine) in
      let q : length qs % 5 ≡ 0 = omega (arith, a.five) in
      sym
      (refuse_next _ 1 _ 0 (ap not (eq-eqb (length mesh % 9) 0 p))
      (refuse_next _ 1 _ 0 (le-ltb 65536 (length mesh / 9) a.few)
      (refuse_next _ 1 _ 0 (ap not (eq-eqb (length qs % 5) 0 q))
      (refuse_next _ 18 _ 0 (ne_eqb (length mesh) 0 (λ (z : length mesh ≡ 0). omega (arith, a.some)))
      (refuse_next _ 18 _ 0 (le-ltb 65536 (length qs / 5) a.few_questions)
      (refuse_next _ 20 _ 0 (ap not a.finite_all)
      (refuse_next _ 22 _ 0 (le-ltb room (size_of mesh qs) a.fits) refl)))))))

  -- so its job has as many bytes as the answer says
  pub job_length : Accepted → length (job_in mesh floor radius qs) ≡ size_of mesh qs
  unfolding job_of
  job_length a =
      simp length-append
      (omega (arith, head_length (length mesh / 9) (length qs / 5), laid_length (numbers_in mesh floor radius qs), length-append mesh qs, a.nine, a.five))

module _ (mesh : List Float) (floor radius : Float) (qs : List Float) (bytes : List ℕ) where
  refusal_is : (write_of mesh floor radius qs bytes).answer.refusal ≡ refusal_of mesh floor radius qs (length bytes)
  unfolding write_of accepted_of
  refusal_is =
      either (λ (o : Outcome). o.answer.refusal ≡ refusal_of mesh floor radius qs (length bytes)) (eqb (refusal_of mesh floor radius qs (length bytes)) 0) _ _
      (λ t. sym (eqb-true _ 0 t))
      (λ t. refl)

  -- a writing that answers 0 is an accepted one
  pub written_is : (o : Outcome) → o ≡ write_of mesh floor radius qs bytes → o.answer.refusal ≡ 0
      → Accepted mesh floor radius qs (length bytes) × (o ≡ accepted_of mesh floor radius qs bytes)
  unfolding write_of
  written_is o p z =
      let e : refusal_of mesh floor radius qs (length bytes) ≡ 0 = sym (ap (λ (a : Outcome). a.answer.refusal) p ∙ refusal_is) ∙ z in
      (accepted mesh floor radius qs (length bytes) e, p ∙ sym (taken _ _ _ _ (eq-eqb _ 0 e) refl))

  pub accepted_write : Accepted mesh floor radius qs (length bytes) → accepted_of mesh floor radius qs bytes ≡ write_of mesh floor radius qs bytes
  unfolding write_of
  accepted_write a = taken _ _ _ _ (eq-eqb _ 0 (accepts mesh floor radius qs (length bytes) a)) refl

  module _ (k : ℕ) (e : k ≡ refusal_of mesh floor radius qs (length bytes)) where
    pub refused_is : (k ≡ 0 → ⊥) → ended (refused_by k) bytes ≡ write_of mesh floor radius qs bytes
    unfolding write_of
    refused_is h = rw (← e) (left _ _ _ _ (ne_eqb k 0 h) refl)

    module _ (z : k ≡ 0) where
      pub ready : Accepted mesh floor radius qs (length bytes)
      ready = accepted mesh floor radius qs (length bytes) (sym e ∙ z)

      pub accepted_is : (size : ℕ) (bytes' : List ℕ) → size ≡ size_of mesh qs → bytes' ≡ sets bytes 0 (job_in mesh floor radius qs)
          → ended (record { refusal = 0; length = size }) bytes' ≡ write_of mesh floor radius qs bytes
      unfolding write_of accepted_of
      accepted_is size bytes' p q =
          let l = job_length mesh floor radius qs (length bytes) ready in
          let job = job_in mesh floor radius qs in
          let w : 0 + length job ≡ size_of mesh qs = omega (arith, l) in
          let s : sets bytes 0 job ≡ job ++ drop (size_of mesh qs) bytes = sets-eq job bytes 0 (omega (arith, w, ready.fits))
          ∙ ap (λ (n : ℕ). job ++ drop n bytes) w in
          rw (← e) (taken _ _ _ _ (eq-eqb k 0 z) (rw (p, q, s)))

-- a writing that was refused
pub refused_told : (A : Type 0) (mesh : List Float) (floor radius : Float) (qs : List Float) (bytes : List ℕ) (r : Refusal)
    → code_of {A = A} (Err r) ≡ refusal_of mesh floor radius qs (length bytes) → ended (told (Err r)) bytes ≡ write_of mesh floor radius qs bytes
unfolding code_of
refused_told A mesh floor radius qs bytes r e = refused_is mesh floor radius qs bytes _ e (λ z. omega (arith, numbered r))
