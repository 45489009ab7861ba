-- A file gets no refusal exactly where it is sound, and 19 only behind a whole head.
use mathlib.Core.List.{List}
use mathlib.Core.Path.{◌≡◌, refl, sym}
use Prim.Native.Nat.{ℕ, zero, suc, ◌≤◌}
use native.Mathlib.Nat.{zero-add}
use native.Mathlib.Omega.{arith}
use borrow.Author.Tests.{eqb-false, le-ltb, ltb-false, ne_eqb}
use lib.Dec.{lit<}
use lib.ListN.{length}
use Rattle.fields.specs.Little.{value}
use Rattle.rules.proofs.Ladder.{refuse_next, refused_not, refused_later}
use Rattle.fields.proofs.Room.{room_for, room_enough}
use Rattle.fields.proofs.Lengths.{exact_only, rung_exact}
use Rattle.stl.specs.Layout.{count}
use Rattle.stl.specs.Reader.{refusal_of_numbers, refusal_of_length, refusal_of_count, refusal_of, shape_of, Sound}
use Rattle.stl.proofs.Numbers.{clean, good}

positive : (n : ℕ) → (n ≡ 0 → ⊥) → 1 ≤ n
positive zero h = absurd (h refl)
positive (suc n) h = omega arith

module _ (bytes : List ℕ) where
  module _ (room : ℕ) where
    -- a file that passes every rung is sound
    pub sound : refusal_of bytes room ≡ 0 → Sound bytes room
    unfolding refusal_of refusal_of_count refusal_of_length refusal_of_numbers
    sound e =
        let a = refused_not _ 14 _ (lit< tt) e in
        let b = refused_not _ 18 _ (lit< tt) a.1 in
        let c = refused_not _ 18 _ (lit< tt) b.1 in
        let d = exact_only (shape_of bytes) (length bytes) _ c.1 in
        let f = refused_not _ 20 _ (lit< tt) d.1 in
        record {
          some = positive _ (eqb-false _ _ b.0);
          few = room_for _ _ c.0;
          whole = omega (arith, d.0);
          finite_all = λ k l. rw (← zero-add k) (clean bytes 0 _ f.0 k l);
        }

    -- and a sound one passes every rung
    pub accepted : Sound bytes room → 0 ≡ refusal_of bytes room
    unfolding refusal_of refusal_of_count refusal_of_length refusal_of_numbers
    accepted s =
        refuse_next _ 14 _ 0 (le-ltb (length bytes) 84 (omega (arith, s.whole)))
        (refuse_next _ 18 _ 0 (ne_eqb _ 0 (λ (z : value count bytes ≡ 0). omega (arith, s.some)))
        (refuse_next _ 18 _ 0 (room_enough _ _ s.few.0 s.few.1)
        (rung_exact (shape_of bytes) (length bytes) _ 0 (omega (arith, s.whole))
        (refuse_next _ 20 _ 0 (sym (good bytes 0 _ (λ k l. rw zero-add (s.finite_all k l)))) refl))))

    pub behind_head : refusal_of bytes room ≡ 19 → 84 ≤ length bytes
    unfolding refusal_of
    behind_head e = ltb-false (length bytes) 84 (refused_later _ 14 _ 19 (lit< tt) e).0
