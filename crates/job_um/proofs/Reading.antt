-- Laws of a whole reading: what is refused, what is accepted, what an accepted job's counts allow, and what is promised of it.
use mathlib.Core.List.{List, ◌++◌}
use mathlib.Core.Path.{◌≡◌, refl, ap, sym, ◌∙◌}
use Prim.Native.Nat.{ℕ, ◌*◌, ◌/◌, ◌≤◌}
use native.Mathlib.Omega.{arith}
use borrow.Author.Tests.{eq-eqb, ne_eqb, eqb-true, le-ltb}
use lib.Dec.{eqb}
use lib.IntN.{ℤ}
use lib.ListN.{length, drop}
use Rattle.rules.proofs.Branches.{taken, left, either}
use Rattle.fields.specs.Little.{value}
use Rattle.fields.specs.Rows.{row}
use Rattle.rules.proofs.Ladder.{refuse_here, refuse_next, agrees, differs}
use Rattle.job.specs.Layout.{triangles, questions, mesh_from, questions_from, bytes_of, narrow}
use Rattle.job.specs.Head.{refusal_of_head, told_in, Headed}
use Rattle.job.specs.Reader as version1
use Rattle.job.proofs.Heads.{headed, head_passes, head_apart}
use Rattle.std.specs.Prelude.{Err}
use Rattle.refusals.specs.Numbers as refusals
use Rattle.refusals.specs.declared.Refusal.{Refusal}
use Rattle.refusals.proofs.Named.{numbered}
use Rattle.job_um.specs.Reader.{number_of, refusal_of, Outcome, Read, told, ended, refused_by, accepted_of, read_of}
use Rattle.job_um.specs.Reader.{SoundExactly, NeverTakenForAPart, OtherVersion, AcceptedPromise}

-- ---- the other version
other_version : (bytes : List ℕ) (nroom mroom : ℕ) → Headed narrow 2 bytes nroom mroom → OtherVersion bytes
unfolding version1.refusal_of refusal_of_head
other_version bytes nroom mroom s a b =
    sym (refuse_next _ 14 _ 16 (le-ltb (length bytes) 30 (omega (arith, s.whole, s.some)))
    (refuse_next _ 15 _ 16 (agrees _ _ _ refl s.marked)
    (refuse_here _ 16 _ 16 (differs _ _ 1 (sym s.first) (λ (z : ◌≡◌ {A = ℕ} 2 1). omega arith)) refl)))

module _ (bytes : List ℕ) (mesh qs : List ℤ) where
  pub decoded_is : (n m : ℕ) (f r : ℤ) (mesh' qs' : List ℤ) → f ≡ number_of bytes 0 → r ≡ number_of bytes 1
      → mesh' ≡ row (number_of bytes) mesh_from (9 * n) ++ drop (9 * n) mesh → qs' ≡ row (number_of bytes) (questions_from n) (5 * m) ++ drop (5 * m) qs
      → ended (record { refusal = 0; n = n; m = m; floor = f; radius = r }) mesh' qs' ≡ accepted_of bytes n m mesh qs
  unfolding accepted_of
  decoded_is n m f r mesh' qs' p q e₁ e₂ = rw (p, q, e₁, e₂)

  refusal_is : (read_of bytes mesh qs).answer.refusal ≡ refusal_of bytes (length mesh / 9) (length qs / 5)
  unfolding read_of accepted_of
  refusal_is =
      either (λ (o : Outcome). o.answer.refusal ≡ refusal_of bytes (length mesh / 9) (length qs / 5))
      (eqb (refusal_of bytes (length mesh / 9) (length qs / 5)) 0) _ _
      (λ t. sym (eqb-true _ 0 t))
      (λ t. refl)

  pub exactly : (o : Outcome) → o ≡ read_of bytes mesh qs → SoundExactly bytes (length mesh / 9) (length qs / 5) o.answer.refusal
  unfolding refusal_of
  exactly o p =
      let e = ap (λ (a : Outcome). a.answer.refusal) p ∙ refusal_is in
      (λ z. (headed narrow 2 bytes _ _ 0 (sym e ∙ z)).0, λ s. e ∙ sym (head_passes narrow 2 bytes _ _ s 0))

  module _ (k : ℕ) (e : k ≡ refusal_of_head narrow 2 bytes (length mesh / 9) (length qs / 5) 0) where
    refused_is : (k ≡ 0 → ⊥) → ended (refused_by k bytes) mesh qs ≡ read_of bytes mesh qs
    unfolding read_of refusal_of
    refused_is h = rw (← e) (left _ _ _ _ (ne_eqb k 0 h) refl)

    pub refused_answer : (a : Read) → (k ≡ 0 → ⊥) → a ≡ refused_by k bytes → ended a mesh qs ≡ read_of bytes mesh qs
    refused_answer a h p = ap (λ (b : Read). ended b mesh qs) p ∙ refused_is h

    module _ (z : k ≡ 0) where
      pub accepted_is : (n m : ℕ) (o : Outcome) → n ≡ value triangles bytes → m ≡ value questions bytes → o ≡ accepted_of bytes n m mesh qs
          → o ≡ read_of bytes mesh qs
      unfolding read_of refusal_of
      accepted_is n m o p q a = rw (← e, ← p, ← q) (taken _ _ _ _ (eq-eqb k 0 z) a)

      stands : Headed narrow 2 bytes (length mesh / 9) (length qs / 5)
      stands = (headed narrow 2 bytes _ _ 0 (sym e ∙ z)).0

      -- the two counts stand within the bytes
      pub counts_within : 14 ≤ length bytes
      counts_within = omega (arith, stands.whole)

      -- so do all numbers, and have room
      pub ready : (n m : ℕ) → n ≡ value triangles bytes → m ≡ value questions bytes
          → (bytes_of narrow n m ≤ length bytes) × (9 * n ≤ length mesh) × (5 * m ≤ length qs)
      ready n m p q = let s = stands in (omega (arith, s.whole), omega (arith, s.few.1), omega (arith, s.few_questions.1))

module _ (bytes : List ℕ) (mesh qs : List ℤ) where
  told-19 : (xs : List ℕ) → (read_of xs mesh qs).answer.refusal ≡ 19 → (read_of xs mesh qs).answer.n ≡ told_in narrow 19 xs
  unfolding refusal_of
  told-19 xs e =
      sym (ap (λ (o : Outcome). o.answer.n) (refused_is xs mesh qs 19 (sym e ∙ refusal_is xs mesh qs) (λ (z : ◌≡◌ {A = ℕ} 19 0). omega arith)))

  never_a_part : Headed narrow 2 bytes (length mesh / 9) (length qs / 5) → NeverTakenForAPart bytes mesh qs
  unfolding refusal_of
  never_a_part s = head_apart narrow 2 (length mesh / 9) (length qs / 5) (λ xs. 0) bytes _ _ (λ xs. refusal_is xs mesh qs) told-19 (omega arith) s

  -- what an accepted job is promised
  pub promised : (o : Outcome) → o ≡ read_of bytes mesh qs → AcceptedPromise bytes mesh qs o.answer.refusal
  promised o p z = let x = exactly bytes mesh qs o p in (never_a_part (x.0 z), other_version bytes _ _ (x.0 z))

-- a reading that was refused, and what its refusal tells
pub refused_told : (A : Type 0) (bytes : List ℕ) (mesh qs : List ℤ) (r : Refusal)
    → refusals.code_of {A = A} (Err r) ≡ refusal_of_head narrow 2 bytes (length mesh / 9) (length qs / 5) 0
    → refusals.told_in {A = A} (Err r) ≡ told_in narrow (refusals.code_of {A = A} (Err r)) bytes
    → ended (told (Err r)) mesh qs ≡ read_of bytes mesh qs
unfolding refusals.code_of refusals.told_in
refused_told A bytes mesh qs r e t = refused_answer bytes mesh qs _ e (told (Err r)) (λ z. omega (arith, numbered r)) (rw t)
