-- A list of moves gets no refusal exactly where it is sound.
use mathlib.Core.List.{List}
use mathlib.Core.Path.{◌≡◌, refl, sym, ◌∙◌}
use Prim.Native.Nat.{ℕ}
use native.Mathlib.Nat.{zero-add}
use native.Mathlib.Omega.{arith}
use borrow.Author.Tests.{eqb-true, le-ltb, ltb-false, not-false}
use lib.Dec.{lit<}
use lib.ListN.{length}
use Rattle.rules.proofs.Ladder.{refuse_next, refused_not, agrees}
use Rattle.fields.proofs.Lengths.{exact_only, rung_exact}
use Rattle.fields.proofs.Rows.{passed, passes}
use Rattle.paths.specs.Reader.{number_of, refusal_of_kinds, refusal_of_numbers, refusal_of_length, refusal_of_count, refusal_of, shape_of, Sound, SoundExactly}
use Rattle.paths.proofs.Unknown.{all_known, none_unknown}

module _ (bytes : List ℕ) where
  -- a list that passes every rung is sound
  pub sound : refusal_of bytes ≡ 0 → Sound bytes
  unfolding refusal_of refusal_of_count refusal_of_length refusal_of_numbers refusal_of_kinds
  sound e =
      let a = refused_not _ 14 _ (lit< tt) e in
      let b = refused_not _ 15 _ (lit< tt) a.1 in
      let c = refused_not _ 16 _ (lit< tt) b.1 in
      let d = refused_not _ 17 _ (lit< tt) c.1 in
      let f = refused_not _ 18 _ (lit< tt) d.1 in
      let g = exact_only (shape_of bytes) (length bytes) _ f.1 in
      let h = refused_not _ 20 _ (lit< tt) g.1 in
      let j = refused_not _ 28 _ (lit< tt) h.1 in
      record {
        marked = eqb-true _ _ (not-false _ b.0);
        first = eqb-true _ _ (not-false _ c.0);
        clear = eqb-true _ _ (not-false _ d.0);
        few = ltb-false _ _ f.0;
        whole = omega (arith, g.0);
        finite_all = λ k l. rw (← zero-add k) (passed (number_of bytes) 0 _ h.0 k l);
        known = λ t l. rw (← zero-add t) (all_known bytes 0 _ j.0 t l);
      }

  -- and a sound one passes every rung
  pub accepted : Sound bytes → 0 ≡ refusal_of bytes
  unfolding refusal_of refusal_of_count refusal_of_length refusal_of_numbers refusal_of_kinds
  accepted s =
      refuse_next _ 14 _ 0 (le-ltb (length bytes) 34 (omega (arith, s.whole)))
      (refuse_next _ 15 _ 0 (agrees _ _ _ refl s.marked)
      (refuse_next _ 16 _ 0 (agrees _ _ _ refl s.first)
      (refuse_next _ 17 _ 0 (agrees _ _ _ refl s.clear)
      (refuse_next _ 18 _ 0 (le-ltb 65536 _ s.few)
      (rung_exact (shape_of bytes) (length bytes) _ 0 (omega (arith, s.whole))
      (refuse_next _ 20 _ 0 (passes (number_of bytes) 0 _ (λ k l. rw zero-add (s.finite_all k l)))
      (refuse_next _ 28 _ 0 (none_unknown bytes 0 _ (λ t l. rw zero-add (s.known t l))) refl)))))))

  pub exactly : (k : ℕ) → k ≡ refusal_of bytes → SoundExactly bytes k
  exactly k e = (λ z. sound (sym e ∙ z), λ s. e ∙ sym (accepted s))
