-- The law of broken copies at STL files.
use mathlib.Core.List.{List}
use mathlib.Core.Path.{◌≡◌, refl, ap, sym, ◌∙◌}
use Prim.Native.Nat.{ℕ, ◌/◌}
use native.Mathlib.Omega.{arith}
use borrow.Author.Tests.{ne_eqb}
use lib.Dec.{eqb, lit<}
use lib.Ieee.{Float}
use lib.ListN.{length, take}
use Rattle.fields.specs.Little.{value}
use Rattle.rules.specs.Ladder.{refuse}
use Rattle.fields.specs.Room.{too_many}
use Rattle.fields.specs.Length.{whole_in}
use Rattle.rules.proofs.Ladder.{refuse_next}
use Rattle.fields.proofs.Room.{room_enough}
use Rattle.fields.proofs.Copies.{Ladder, said, value_head, told_apart}
use Rattle.stl.specs.Layout.{count, shape}
use Rattle.stl.specs.Reader.{refusal_of_numbers, refusal_of_length, refusal_of_count, refusal_of, Outcome, shape_of, told_with, read_of, NeverTakenForAPart}
use Rattle.stl.proofs.Ladder.{sound}
use Rattle.stl.proofs.Reading.{refusal_is}

-- what the count decides, y where it passes
early : ℕ → ℕ → ℕ → ℕ
early room n y = refuse (eqb n 0) 18 (refuse (too_many n room) 18 y)

rungs : ℕ → Ladder
rungs room = record { head = 84; early = λ xs y. early room (value count xs) y; shape = shape_of; late = λ xs. refusal_of_numbers xs (value count xs) }

module _ (bytes : List ℕ) (mesh : List Float) where
  room : ℕ
  room = length mesh / 9

  is : (xs : List ℕ) → (read_of xs mesh).answer.refusal ≡ said (rungs room) xs
  unfolding said rungs early room refusal_of refusal_of_count refusal_of_length
  is xs = refusal_is xs mesh

  tells : (xs : List ℕ) → (read_of xs mesh).answer.refusal ≡ 19 → (read_of xs mesh).answer.n ≡ whole_in (shape_of xs) (length xs)
  unfolding read_of told_with
  tells xs e =
      let k = refusal_of xs (length mesh / 9) in
      let z : k ≡ 19 = sym (refusal_is xs mesh) ∙ e in
      rw (z)

  same : (xs : List ℕ) → take 84 xs ≡ take 84 bytes → ((y : ℕ) → early room (value count xs) y ≡ early room (value count bytes) y)
      × (shape_of xs ≡ shape_of bytes)
  same xs e = let p = value_head count 84 xs bytes (omega arith) e in (λ y. ap (λ (n : ℕ). early room n y) p, ap shape p)

  pub never_taken : (o : Outcome) → o ≡ read_of bytes mesh → o.answer.refusal ≡ 0 → NeverTakenForAPart bytes mesh
  unfolding rungs early room
  never_taken o p z =
      let s = sound bytes (length mesh / 9) (sym (ap (λ (a : Outcome). a.answer.refusal) p ∙ refusal_is bytes mesh) ∙ z) in
      told_apart (rungs room) _ _ bytes is tells same
      (λ y. sym (refuse_next _ 18 _ y (ne_eqb _ 0 (λ (n : value count bytes ≡ 0). omega (arith, s.some)))
      (refuse_next _ 18 _ y (room_enough _ _ s.few.0 s.few.1) refl)))
      refl
      (lit< tt)
      (omega (arith, s.whole))
