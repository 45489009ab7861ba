-- Laws of a whole reading: what is told, refused and accepted, and what an accepted file's count allows.
use mathlib.Core.Bool.{true}
use mathlib.Core.List.{List, ◌++◌}
use mathlib.Core.Path.{◌≡◌, refl, ap, sym, ◌∙◌}
use Prim.Native.Nat.{ℕ, ◌+◌, ◌*◌, ◌/◌, ◌≤◌, ◌<◌}
use native.Mathlib.Omega.{arith}
use borrow.Author.Tests.{eq-eqb, ne_eqb, eqb-true}
use lib.Dec.{eqb}
use lib.Ieee.{Float}
use lib.ListN.{length, drop}
use Rattle.rules.proofs.Branches.{taken, left, either}
use Rattle.fields.specs.Little.{value}
use Rattle.fields.specs.Rows.{finite, row}
use Rattle.std.specs.Prelude.{Err}
use Rattle.refusals.specs.Numbers.{code_of, told_in}
use Rattle.refusals.specs.declared.Refusal.{Refusal}
use Rattle.refusals.proofs.Named.{numbered}
use Rattle.stl.specs.Layout.{count}
use Rattle.stl.specs.Reader.{number_of, refusal_of, Outcome, Read, told, ended, told_with, refused_by, accepted_of, read_of, SoundExactly}
use Rattle.stl.proofs.Ladder.{sound, accepted, behind_head}

module _ (bytes : List ℕ) where
  module _ (mesh : List Float) where
    -- a reading's refusal is 0 exactly where the file is sound
    pub refusal_is : (read_of bytes mesh).answer.refusal ≡ refusal_of bytes (length mesh / 9)
    unfolding read_of accepted_of
    refusal_is =
        either (λ (o : Outcome). o.answer.refusal ≡ refusal_of bytes (length mesh / 9)) (eqb (refusal_of bytes (length mesh / 9)) 0) _ _
        (λ t. sym (eqb-true _ 0 t))
        (λ t. refl)

    pub exactly : (o : Outcome) → o ≡ read_of bytes mesh → SoundExactly bytes (length mesh / 9) o.answer.refusal
    exactly o p =
        let e = ap (λ (a : Outcome). a.answer.refusal) p ∙ refusal_is in
        (λ z. sound bytes _ (sym e ∙ z), λ s. e ∙ sym (accepted bytes _ s))

    module _ (k : ℕ) (e : k ≡ refusal_of bytes (length mesh / 9)) where
      pub refused_is : (a : Read) → (k ≡ 0 → ⊥) → a ≡ refused_by k bytes → ended a mesh ≡ read_of bytes mesh
      unfolding read_of
      refused_is a h p = rw (← e) (left _ _ _ _ (ne_eqb k 0 h) (ap (λ (r : Read). ended r mesh) p))

      -- 19 has a count to go by
      pub counted : k ≡ 19 → 84 ≤ length bytes
      counted z = behind_head bytes _ (sym e ∙ z)

      module _ (z : k ≡ 0) where
        pub accepted_is : (n : ℕ) (o : Outcome) → n ≡ value count bytes → o ≡ accepted_of bytes n mesh → o ≡ read_of bytes mesh
        unfolding read_of
        accepted_is n o p a = rw (← e, ← p) (taken _ _ _ _ (eq-eqb k 0 z) a)

        -- the count stands within the bytes, and so do all numbers, which have room and are finite
        pub count_within : 84 ≤ length bytes
        count_within = let s = sound bytes _ (sym e ∙ z) in omega (arith, s.whole)

        pub ready : (n : ℕ) → n ≡ value count bytes → ((84 + 50 * n ≤ length bytes) × (9 * n ≤ length mesh))
            × ((i : ℕ) → i < 9 * n → finite (number_of bytes i) ≡ true)
        ready n p = let s = sound bytes _ (sym e ∙ z) in ((omega (arith, s.whole), omega (arith, s.few.1)), λ i h. s.finite_all i (omega arith))

-- the tables of a file that was accepted
pub filled_is : (bytes : List ℕ) (n : ℕ) (mesh ms : List Float) → ms ≡ row (number_of bytes) 0 (9 * n) ++ drop (9 * n) mesh
    → ended (record { refusal = 0; n = n }) ms ≡ accepted_of bytes n mesh
unfolding accepted_of
filled_is bytes n mesh ms e = rw e

-- a reading that was refused, and what its refusal tells
pub refused_told : (A : Type 0) (bytes : List ℕ) (mesh : List Float) (r : Refusal) → code_of {A = A} (Err r) ≡ refusal_of bytes (length mesh / 9)
    → told_in {A = A} (Err r) ≡ told_with (code_of {A = A} (Err r)) bytes → ended (told (Err r)) mesh ≡ read_of bytes mesh
unfolding code_of told_in
refused_told A bytes mesh r e t = refused_is bytes mesh _ e (told (Err r)) (λ z. omega (arith, numbered r)) (rw t)
