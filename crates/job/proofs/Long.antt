-- A file that is longer than any job with room for its numbers may be cut behind that length: what is left is refused as the whole is.
use mathlib.Core.List.{List}
use mathlib.Core.Path.{◌≡◌, refl, ap, sym, ◌∙◌}
use Prim.Native.Nat.{ℕ, ◌/◌, ◌≤◌, ◌<◌}
use native.Mathlib.Omega.{arith}
use borrow.Author.Tests.{le-ltb, ltb-true, ltb-false}
use lib.Dec.{eqb, ltb}
use lib.Ieee.{Float}
use lib.ListN.{length, take}
use lib.Seq.{take_all, length-take-le}
use Rattle.rules.proofs.Branches.{by_test}
use Rattle.rules.specs.Ladder.{refuse}
use Rattle.fields.specs.Room.{too_many}
use Rattle.fields.proofs.Bytes.{value_cut}
use Rattle.fields.proofs.Room.{room_for}
use Rattle.rules.proofs.Ladder.{refuse_same}
use Rattle.fields.proofs.Lengths.{rung_surplus}
use Rattle.job.specs.Layout.{mark, version, zero_byte, triangles, questions, bytes_of, shape, wide}
use Rattle.job.specs.Head.{refusal_of_length, refusal_of_counts, refusal_of_head}
use Rattle.job.specs.Reader.{refusal_of, ended, refused_by, read_of}
use Rattle.job.specs.Reader.{Read}
use Rattle.job.proofs.Ladder.{sound, cut_only}
use Rattle.job.proofs.Heads.{none_told}
use Rattle.job.proofs.Reading.{refused_is}

-- the refusal of a file that is too long for any job
too_long : ℕ → ℕ → ℕ → ℕ → ℕ
too_long n m nroom mroom = refuse (eqb n 0) 18 (refuse (too_many n nroom) 18 (refuse (too_many m mroom) 18 21))

module _ (nroom mroom : ℕ) where
  too_long_lem : (xs : List ℕ) (n m late : ℕ) → bytes_of wide nroom mroom < length xs → refusal_of_counts wide xs n m nroom mroom late ≡ too_long n m nroom mroom
  unfolding refusal_of_counts refusal_of_length too_long
  too_long_lem xs n m late h =
      refuse_same _ 18 _ _
      (λ _. refuse_same _ 18 _ _
      (λ p. refuse_same _ 18 _ _
      (λ q. let a = room_for n nroom p in
      let b = room_for m mroom q in
      sym (rung_surplus (shape wide n m) (length xs) _ (omega (arith, a.1, b.1))))))

  cut_refusal : (xs : List ℕ) (k : ℕ) → bytes_of wide nroom mroom < k → k ≤ length xs → refusal_of (take k xs) nroom mroom ≡ refusal_of xs nroom mroom
  unfolding refusal_of refusal_of_head
  cut_refusal xs k h l =
      let c : length (take k xs) ≡ k = length-take-le k xs l in
      rw (
        too_long_lem (take k xs) _ _ _ (omega (arith, c)),
        too_long_lem xs _ _ _ (omega arith),
        c,
        le-ltb k 30 (omega arith),
        le-ltb (length xs) 30 (omega arith),
        value_cut mark xs k (omega arith),
        value_cut version xs k (omega arith),
        value_cut zero_byte xs k (omega arith),
        value_cut triangles xs k (omega arith),
        value_cut questions xs k (omega arith),
      )

  never_sound : (xs : List ℕ) → bytes_of wide nroom mroom < length xs → refusal_of xs nroom mroom ≡ 0 → ⊥
  never_sound xs h e = let s = sound xs nroom mroom e in omega (arith, s.whole, s.few.1, s.few_questions.1)

  never_short : (xs : List ℕ) → bytes_of wide nroom mroom < length xs → refusal_of xs nroom mroom ≡ 19 → ⊥
  never_short xs h e = omega (arith, (cut_only xs nroom mroom e).1)

-- all refusals but 19 tell nothing of the bytes
told_alike : (xs ys : List ℕ) (k : ℕ) → (k ≡ 19 → ⊥) → refused_by k xs ≡ refused_by k ys
told_alike xs ys k h = rw (← none_told wide xs k h, ← none_told wide ys k h)

pub read_cut : (xs : List ℕ) (mesh qs : List Float) (k : ℕ) → bytes_of wide (length mesh / 9) (length qs / 5) < k
    → read_of (take k xs) mesh qs ≡ read_of xs mesh qs
read_cut xs mesh qs k h =
    by_test (ltb k (length xs))
    (λ t. let l = ltb-true k (length xs) t in
    let n = length mesh / 9 in
    let m = length qs / 5 in
    let r = refusal_of xs n m in
    let z = never_sound n m xs (omega arith) in
    sym (refused_is (take k xs) mesh qs r (sym (cut_refusal n m xs k h (omega arith))) z)
    ∙ ap (λ (a : Read). ended a mesh qs) (told_alike (take k xs) xs r (never_short n m xs (omega arith))) ∙ refused_is xs mesh qs r refl z)
    (λ t. ap (λ (ys : List ℕ). read_of ys mesh qs) (take_all k xs (ltb-false k (length xs) t)))
