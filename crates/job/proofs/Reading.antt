-- Laws of a whole reading: what is refused, what is accepted, and what an accepted job's counts allow.
use mathlib.Core.Bool.{true}
use mathlib.Core.List.{List, ◌++◌}
use mathlib.Core.Path.{◌≡◌, refl, ap, sym, ◌∙◌}
use Prim.Native.Nat.{ℕ, ◌+◌, ◌*◌, ◌/◌, ◌≤◌, ◌<◌}
use native.Mathlib.Omega.{arith}
use borrow.Author.Tests.{eq-eqb, ne_eqb, eqb-true}
use lib.Dec.{eqb}
use lib.Ieee.{Float}
use lib.ListN.{length, drop}
use Rattle.rules.proofs.Branches.{taken, left, either}
use Rattle.fields.specs.Little.{value}
use Rattle.fields.specs.Rows.{finite, row}
use Rattle.job.specs.Layout.{triangles, questions, numbers, mesh_from, questions_from, bytes_of, wide}
use Rattle.job.specs.Head.{refusal_of_head, Headed}
use Rattle.std.specs.Prelude.{Err}
use Rattle.refusals.specs.Numbers.{code_of, told_in}
use Rattle.refusals.specs.declared.Refusal.{Refusal}
use Rattle.refusals.proofs.Named.{numbered}
use Rattle.job.specs.Reader.{number_of, refusal_of_numbers, refusal_of, Outcome, told, ended, refused_by, told_with, accepted_of, read_of, SoundExactly}
use Rattle.job.specs.Reader.{Read}
use Rattle.job.proofs.Heads.{headed, head_refused, head_passes, none_told}
use Rattle.job.proofs.Ladder.{sound, accepted, never-19}

-- ---- the refusal, in the code's two steps
module _ (bytes : List ℕ) (nroom mroom k : ℕ) (e : k ≡ refusal_of_head wide 1 bytes nroom mroom 0) where
  pub refused_first : (k ≡ 0 → ⊥) → k ≡ refusal_of bytes nroom mroom
  unfolding refusal_of
  refused_first h = head_refused wide 1 bytes nroom mroom _ k e h

  module _ (z : k ≡ 0) where
    pub head_whole : Headed wide 1 bytes nroom mroom
    head_whole = (headed wide 1 bytes nroom mroom 0 (sym e ∙ z)).0

    pub refused_last : (n m r : ℕ) → n ≡ value triangles bytes → m ≡ value questions bytes → r ≡ refusal_of_numbers bytes (2 + 9 * n + 5 * m)
        → r ≡ refusal_of bytes nroom mroom
    unfolding refusal_of
    refused_last n m r p q f = f ∙ (rw (p, q) (head_passes wide 1 bytes nroom mroom head_whole _))

-- the numbers tell nothing
pub last_told : (bytes : List ℕ) (count k : ℕ) → k ≡ refusal_of_numbers bytes count → 0 ≡ told_with k bytes
unfolding refusal_of_numbers
last_told bytes count k e = none_told wide bytes k (λ (z : k ≡ 19). never-19 _ (sym e ∙ z))

module _ (bytes : List ℕ) (mesh qs : List Float) where
  pub decoded_is : (n m : ℕ) (f r : Float) (mesh' qs' : List Float) → f ≡ number_of bytes 0 → r ≡ number_of bytes 1
      → mesh' ≡ row (number_of bytes) mesh_from (9 * n) ++ drop (9 * n) mesh → qs' ≡ row (number_of bytes) (questions_from n) (5 * m) ++ drop (5 * m) qs
      → ended (record { refusal = 0; n = n; m = m; floor = f; radius = r }) mesh' qs' ≡ accepted_of bytes n m mesh qs
  unfolding accepted_of
  decoded_is n m f r mesh' qs' p q e₁ e₂ = rw (p, q, e₁, e₂)

  -- a reading's refusal is 0 exactly where the job is sound
  pub refusal_is : (read_of bytes mesh qs).answer.refusal ≡ refusal_of bytes (length mesh / 9) (length qs / 5)
  unfolding read_of accepted_of
  refusal_is =
      either (λ (o : Outcome). o.answer.refusal ≡ refusal_of bytes (length mesh / 9) (length qs / 5))
      (eqb (refusal_of bytes (length mesh / 9) (length qs / 5)) 0) _ _
      (λ t. sym (eqb-true _ 0 t))
      (λ t. refl)

  pub exactly : (o : Outcome) → o ≡ read_of bytes mesh qs → SoundExactly bytes (length mesh / 9) (length qs / 5) o.answer.refusal
  exactly o p =
      let e = ap (λ (a : Outcome). a.answer.refusal) p ∙ refusal_is in
      (λ z. sound bytes _ _ (sym e ∙ z), λ s. e ∙ sym (accepted bytes _ _ s))

  -- an accepted job's numbers have room
  pub room_for : (o : Outcome) → o ≡ read_of bytes mesh qs → o.answer.refusal ≡ 0 → (9 * o.answer.n ≤ length mesh) × (5 * o.answer.m ≤ length qs)
  unfolding read_of accepted_of
  room_for o p z =
      let k = refusal_of bytes (length mesh / 9) (length qs / 5) in
      let e : k ≡ 0 = sym refusal_is ∙ sym (ap (λ (a : Outcome). a.answer.refusal) p) ∙ z in
      let s = sound bytes _ _ e in
      let q = p ∙ sym (taken (eqb k 0) _ _ _ (eq-eqb k 0 e) refl) in
      (omega (arith, s.few.1, ap (λ (a : Outcome). a.answer.n) q), omega (arith, s.few_questions.1, ap (λ (a : Outcome). a.answer.m) q))

  module _ (k : ℕ) (e : k ≡ refusal_of bytes (length mesh / 9) (length qs / 5)) where
    pub refused_is : (k ≡ 0 → ⊥) → ended (refused_by k bytes) mesh qs ≡ read_of bytes mesh qs
    unfolding read_of
    refused_is h = rw (← e) (left _ _ _ _ (ne_eqb k 0 h) refl)

    pub refused_answer : (a : Read) → (k ≡ 0 → ⊥) → a ≡ refused_by k bytes → ended a mesh qs ≡ read_of bytes mesh qs
    refused_answer a h p = ap (λ (b : Read). ended b mesh qs) p ∙ refused_is h

    module _ (z : k ≡ 0) where
      pub accepted_is : (n m : ℕ) (o : Outcome) → n ≡ value triangles bytes → m ≡ value questions bytes → o ≡ accepted_of bytes n m mesh qs
          → o ≡ read_of bytes mesh qs
      unfolding read_of
      accepted_is n m o p q a = rw (← e, ← p, ← q) (taken _ _ _ _ (eq-eqb k 0 z) a)

      -- the two counts stand within the bytes
      pub counts_within : 14 ≤ length bytes
      counts_within = let s = sound bytes _ _ (sym e ∙ z) in omega (arith, s.whole)

      -- so do all numbers, which are finite and have room
      pub ready : (n m : ℕ) → n ≡ value triangles bytes → m ≡ value questions bytes
          → ((bytes_of wide n m ≤ length bytes) × (9 * n ≤ length mesh) × (5 * m ≤ length qs)) × ((i : ℕ) → i < numbers n m → finite (number_of bytes i) ≡ true)
      ready n m p q =
          let s = sound bytes _ _ (sym e ∙ z) in
          ((omega (arith, s.whole), omega (arith, s.few.1), omega (arith, s.few_questions.1)), λ i h. s.finite_all i (omega arith))

-- a reading that was refused, and what its refusal tells
pub refused_told : (A : Type 0) (bytes : List ℕ) (mesh qs : List Float) (r : Refusal)
    → code_of {A = A} (Err r) ≡ refusal_of bytes (length mesh / 9) (length qs / 5)
    → told_in {A = A} (Err r) ≡ told_with (code_of {A = A} (Err r)) bytes
    → ended (told (Err r)) mesh qs ≡ read_of bytes mesh qs
unfolding code_of told_in
refused_told A bytes mesh qs r e t = refused_answer bytes mesh qs _ e (told (Err r)) (λ z. omega (arith, numbered r)) (rw t)
