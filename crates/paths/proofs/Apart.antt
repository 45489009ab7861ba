-- The law of broken copies at lists of moves.
use mathlib.Core.Bool.{not}
use mathlib.Core.List.{List}
use mathlib.Core.Path.{◌≡◌, refl, sym, ◌∙◌}
use Prim.Native.Nat.{ℕ, ◌+◌, ◌≤◌}
use native.Mathlib.Omega.{arith}
use borrow.Author.Tests.{le-ltb}
use lib.Dec.{eqb, ltb}
use lib.ListN.{take}
use Rattle.fields.specs.Little.{Field, value}
use Rattle.rules.specs.Ladder.{refuse}
use Rattle.rules.proofs.Ladder.{refuse_next, agrees}
use Rattle.fields.proofs.Copies.{Ladder, said, value_head, told_apart}
use Rattle.paths.specs.Layout.{mark, version, zero_byte, count, letters}
use Rattle.paths.specs.Reader.{refusal_of_numbers, refusal_of_length, refusal_of_count, refusal_of, shape_of, Sound, NeverTakenForAPart}
use Rattle.paths.proofs.Ladder.{sound}

-- the tests of the head
early : List ℕ → ℕ → ℕ
early xs next =
    refuse (not (eqb (value mark xs) letters)) 15
    (refuse (not (eqb (value version xs) 1)) 16
    (refuse (not (eqb (value zero_byte xs) 0)) 17
    (refuse (ltb 65536 (value count xs)) 18
    next)))

abbrev rungs : Ladder
rungs = record { head = 34; early = early; shape = λ (xs : List ℕ). shape_of xs; late = λ (xs : List ℕ). refusal_of_numbers xs (value count xs) }

module _ (bytes : List ℕ) where
  is_said : (xs : List ℕ) → refusal_of xs ≡ said rungs xs
  unfolding refusal_of refusal_of_count refusal_of_length said early
  is_said xs = refl

  passed : Sound bytes → (y : ℕ) → early bytes y ≡ y
  unfolding early
  passed s y =
      sym (refuse_next _ 15 _ y (agrees _ _ _ refl s.marked)
      (refuse_next _ 16 _ y (agrees _ _ _ refl s.first)
      (refuse_next _ 17 _ y (agrees _ _ _ refl s.clear)
      (refuse_next _ 18 _ y (le-ltb 65536 _ s.few) refl))))

  module _ (xs : List ℕ) (e : take 34 xs ≡ take 34 bytes) where
    equal : (f : Field) → f.at + f.size ≤ 34 → value f xs ≡ value f bytes
    equal f h = value_head f 34 xs bytes h e

    same_head : ((y : ℕ) → early xs y ≡ early bytes y) × (shape_of xs ≡ shape_of bytes)
    unfolding early
    same_head =
        let n = equal count (omega arith) in
        (λ y. rw (equal mark (omega arith), equal version (omega arith), equal zero_byte (omega arith), n), rw n)

  pub never_a_part : (k : ℕ) → k ≡ refusal_of bytes → k ≡ 0 → NeverTakenForAPart bytes
  never_a_part k p z =
      let s = sound bytes (sym p ∙ z) in
      told_apart rungs _ _ bytes is_said (λ xs e. refl) same_head (passed s) refl (omega arith) (omega (arith, s.whole))
