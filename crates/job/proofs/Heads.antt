-- The head and the length of a job, in any version: what a job that passes them is, what 19 says, and that a part of a job, or a job with more behind it, is
-- never taken for one.
use mathlib.Core.Bool.{Bool, true, false, not}
use mathlib.Core.List.{List}
use mathlib.Core.Path.{◌≡◌, refl, sym, ◌∙◌}
use Prim.Native.Nat.{ℕ, zero, suc, ◌+◌, ◌*◌, ◌≤◌, ◌<◌}
use native.Mathlib.Nat.{mul-le-mul_right}
use native.Mathlib.Omega.{arith}
use borrow.Author.Tests.{eqb-true, eqb-false, le-ltb, ltb-false, ne_eqb, not-false}
use lib.Dec.{eqb, lit<}
use lib.ListN.{length, take}
use Rattle.rules.proofs.Branches.{taken, left}
use Rattle.fields.specs.Little.{Field, value}
use Rattle.rules.specs.Ladder.{refuse}
use Rattle.fields.specs.Room.{too_many}
use Rattle.fields.specs.Length.{refuse_length}
use Rattle.fields.specs.Copies.{ToldApart}
use Rattle.fields.specs.declared.Length.{Length}
use Rattle.fields.specs.declared.Length.TheVariants.{Short, Exact, Surplus}
use Rattle.rules.proofs.Ladder.{refuse_next, refused_not, refused_later, agrees}
use Rattle.fields.proofs.Room.{room_for, room_enough}
use Rattle.fields.proofs.Lengths.{exact_only, short_only, rung_exact}
use Rattle.fields.proofs.Copies.{Ladder, said, value_head, told_apart}
use Rattle.job.specs.Layout.{mark, version, zero_byte, triangles, questions, letters, head_bytes, shape, bytes_of}
use Rattle.job.specs.Head.{refusal_of_length, refusal_of_counts, refusal_of_head, shape_in, told_in, Headed}

positive : (n : ℕ) → (n ≡ 0 → ⊥) → 1 ≤ n
positive zero h = absurd (h refl)
positive (suc n) h = omega arith

-- what comes behind a rung that refuses does not matter
rung : (b : Bool) (k x y : ℕ) → ((x ≡ 0 → ⊥) → x ≡ y) → (refuse b k x ≡ 0 → ⊥) → refuse b k x ≡ refuse b k y
unfolding refuse
rung true k x y f h = refl
rung false k x y f h = f h

last_rung : (r : Length) (late : ℕ) → (refuse_length r 0 ≡ 0 → ⊥) → refuse_length r 0 ≡ refuse_length r late
unfolding refuse_length
last_rung (Short c) late h = refl
last_rung Surplus late h = refl
last_rung Exact late h = absurd (h refl)

-- ---- no count is told
module _ (w : ℕ) (bytes : List ℕ) (k : ℕ) where
  pub none_told : (k ≡ 19 → ⊥) → 0 ≡ told_in w k bytes
  unfolding told_in
  none_told h = left _ _ _ _ (ne_eqb k 19 h) refl

module _ (w v : ℕ) (bytes : List ℕ) (nroom mroom late : ℕ) where
  -- a job that is not refused
  pub headed : refusal_of_head w v bytes nroom mroom late ≡ 0 → Headed w v bytes nroom mroom × (late ≡ 0)
  unfolding refusal_of_head refusal_of_counts refusal_of_length
  headed e =
      let a = refused_not _ 14 _ (lit< tt) e in
      let b = refused_not _ 15 _ (lit< tt) a.1 in
      let c = refused_not _ 16 _ (lit< tt) b.1 in
      let d = refused_not _ 17 _ (lit< tt) c.1 in
      let f = refused_not _ 18 _ (lit< tt) d.1 in
      let g = refused_not _ 18 _ (lit< tt) f.1 in
      let h = refused_not _ 18 _ (lit< tt) g.1 in
      let i = exact_only (shape_in w bytes) (length bytes) _ h.1 in (
        record {
          marked = eqb-true _ _ (not-false _ b.0);
          first = eqb-true _ _ (not-false _ c.0);
          clear = eqb-true _ _ (not-false _ d.0);
          some = positive _ (eqb-false _ _ f.0);
          few = room_for _ _ g.0;
          few_questions = room_for _ _ h.0;
          whole = i.0;
        },
        i.1,
      )

  -- 19 is given to a head, with counts that have room, and too few bytes
  pub head_cut : (late ≡ 19 → ⊥) → refusal_of_head w v bytes nroom mroom late ≡ 19 → (head_bytes w ≤ length bytes) × (length bytes < bytes_of w nroom mroom)
  unfolding refusal_of_head refusal_of_counts refusal_of_length
  head_cut n e =
      let a = refused_later _ 14 _ 19 (lit< tt) e in
      let b = refused_later _ 15 _ 19 (lit< tt) a.1 in
      let c = refused_later _ 16 _ 19 (lit< tt) b.1 in
      let d = refused_later _ 17 _ 19 (lit< tt) c.1 in
      let f = refused_later _ 18 _ 19 (lit< tt) d.1 in
      let g = refused_later _ 18 _ 19 (lit< tt) f.1 in
      let h = refused_later _ 18 _ 19 (lit< tt) g.1 in
      let l = short_only (shape_in w bytes) (length bytes) _ n h.1 in
      let x = mul-le-mul_right {m = value triangles bytes} {n = nroom} (9 * w) (room_for _ _ g.0).1 in
      let y = mul-le-mul_right {m = value questions bytes} {n = mroom} (5 * w) (room_for _ _ h.0).1 in
      (ltb-false (length bytes) (head_bytes w) a.0, omega (arith, l, x, y))

  -- refused by the head or the length, whatever comes behind
  pub head_refused : (k : ℕ) → k ≡ refusal_of_head w v bytes nroom mroom 0 → (k ≡ 0 → ⊥) → k ≡ refusal_of_head w v bytes nroom mroom late
  unfolding refusal_of_head refusal_of_counts refusal_of_length
  head_refused k e h =
      e ∙ rung _ 14 _ _ (rung _ 15 _ _ (rung _ 16 _ _ (rung _ 17 _ _ (rung _ 18 _ _ (rung _ 18 _ _ (rung _ 18 _ _ (last_rung _ late))))))) (λ z. h (e ∙ z))

module _ (w v : ℕ) (bytes : List ℕ) (nroom mroom : ℕ) (s : Headed w v bytes nroom mroom) where
  -- a job whose head and length pass is judged by what comes behind
  pub head_passes : (y : ℕ) → y ≡ refusal_of_head w v bytes nroom mroom y
  unfolding refusal_of_head refusal_of_counts refusal_of_length
  head_passes y =
      refuse_next _ 14 _ y (le-ltb (length bytes) (head_bytes w) (omega (arith, s.whole)))
      (refuse_next _ 15 _ y (agrees _ _ _ refl s.marked)
      (refuse_next _ 16 _ y (agrees _ _ _ refl s.first)
      (refuse_next _ 17 _ y (agrees _ _ _ refl s.clear)
      (refuse_next _ 18 _ y (ne_eqb _ 0 (λ (z : value triangles bytes ≡ 0). omega (arith, s.some)))
      (refuse_next _ 18 _ y (room_enough _ _ s.few.0 s.few.1)
      (refuse_next _ 18 _ y (room_enough _ _ s.few_questions.0 s.few_questions.1)
      (rung_exact (shape_in w bytes) (length bytes) _ y s.whole refl)))))))

-- ---- broken copies
module _ (w v nroom mroom : ℕ) (late : List ℕ → ℕ) where
  -- the tests of the head
  early : List ℕ → ℕ → ℕ
  early xs next =
      refuse (not (eqb (value mark xs) letters)) 15
      (refuse (not (eqb (value version xs) v)) 16
      (refuse (not (eqb (value zero_byte xs) 0)) 17
      (refuse (eqb (value triangles xs) 0) 18
      (refuse (too_many (value triangles xs) nroom) 18
      (refuse (too_many (value questions xs) mroom) 18
      next)))))

  abbrev ladder_of : Ladder
  ladder_of = record { head = head_bytes w; early = early; shape = λ (xs : List ℕ). shape_in w xs; late = late }

  is_said : (xs : List ℕ) → refusal_of_head w v xs nroom mroom (late xs) ≡ said ladder_of xs
  unfolding refusal_of_head refusal_of_counts refusal_of_length said early
  is_said xs = refl

  module _ (bytes : List ℕ) where
    passed : Headed w v bytes nroom mroom → (y : ℕ) → early bytes y ≡ y
    unfolding early
    passed s y =
        sym (refuse_next _ 15 _ y (agrees _ _ _ refl s.marked)
        (refuse_next _ 16 _ y (agrees _ _ _ refl s.first)
        (refuse_next _ 17 _ y (agrees _ _ _ refl s.clear)
        (refuse_next _ 18 _ y (ne_eqb _ 0 (λ (z : value triangles bytes ≡ 0). omega (arith, s.some)))
        (refuse_next _ 18 _ y (room_enough _ _ s.few.0 s.few.1)
        (refuse_next _ 18 _ y (room_enough _ _ s.few_questions.0 s.few_questions.1) refl))))))

    module _ (xs : List ℕ) (e : take (head_bytes w) xs ≡ take (head_bytes w) bytes) where
      equal : (f : Field) → f.at + f.size ≤ head_bytes w → value f xs ≡ value f bytes
      equal f h = value_head f (head_bytes w) xs bytes h e

      same_head : ((y : ℕ) → early xs y ≡ early bytes y) × (shape_in w xs ≡ shape_in w bytes)
      unfolding early
      same_head =
          let n = equal triangles (omega arith) in
          let m = equal questions (omega arith) in
          (λ y. rw (equal mark (omega arith), equal version (omega arith), equal zero_byte (omega arith), n, m), rw (n, m))

    pub head_apart : (refusal told : List ℕ → ℕ) → ((xs : List ℕ) → refusal xs ≡ refusal_of_head w v xs nroom mroom (late xs))
        → ((xs : List ℕ) → refusal xs ≡ 19 → told xs ≡ told_in w 19 xs) → 1 ≤ w → Headed w v bytes nroom mroom → ToldApart refusal told (shape_in w bytes) bytes
    unfolding told_in
    head_apart refusal told is tells some s =
        told_apart ladder_of refusal told bytes (λ xs. is xs ∙ is_said xs) tells same_head (passed s) refl (omega arith) s.whole
