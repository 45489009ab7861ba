-- The law of broken copies, for every file with a head: the head's bytes decide what is looked at first and the file's shape, then the length decides.
use mathlib.Core.List.{List, ◌++◌}
use mathlib.Core.Path.{◌≡◌, refl, ap, sym, ◌∙◌}
use Prim.Native.Nat.{ℕ, ◌+◌, ◌≤◌, ◌<◌}
use native.Mathlib.Omega.{arith}
use borrow.Author.Tests.{lt-ltb, le-ltb}
use lib.Dec.{ltb}
use lib.ListN.{length, take, length-append}
use lib.Seq.{take-take, take-append-le, length-take-le}
use Rattle.fields.specs.declared.Shape.{Shape}
use Rattle.fields.specs.Little.{Field, value}
use Rattle.rules.specs.Ladder.{refuse}
use Rattle.fields.specs.Length.{bytes_of, whole_in, length_rule, refuse_length, Whole}
use Rattle.fields.specs.Copies.{ToldApart}
use Rattle.fields.proofs.Bytes.{value_cut}
use Rattle.rules.proofs.Ladder.{refuse_here, refuse_next}
use Rattle.fields.proofs.Lengths.{rung_short, rung_surplus, whole_is}

-- a field of the head is the same in two files whose heads are
pub value_head : (f : Field) (head : ℕ) (xs ys : List ℕ) → f.at + f.size ≤ head → take head xs ≡ take head ys → value f xs ≡ value f ys
value_head f head xs ys h e = sym (value_cut f xs head h) ∙ ap (value f) e ∙ value_cut f ys head h

-- what a ladder says to a file: early bytes y is y where the head passes
pub record Ladder : Type 0 where
  pub head : ℕ
  pub early : List ℕ → ℕ → ℕ
  pub shape : List ℕ → Shape
  pub late : List ℕ → ℕ

unfoldable pub said : Ladder → List ℕ → ℕ
said l xs = refuse (ltb (length xs) l.head) 14 (l.early xs (refuse_length (length_rule (l.shape xs) (length xs)) (l.late xs)))

module _ (l : Ladder) (refusal told : List ℕ → ℕ) (bytes : List ℕ)
    (is : (xs : List ℕ) → refusal xs ≡ said l xs)
    (tells : (xs : List ℕ) → refusal xs ≡ 19 → told xs ≡ whole_in (l.shape xs) (length xs))
    (same : (xs : List ℕ) → take l.head xs ≡ take l.head bytes → ((y : ℕ) → l.early xs y ≡ l.early bytes y) × (l.shape xs ≡ l.shape bytes))
    (passes : (y : ℕ) → l.early bytes y ≡ y)
    (head_is : (l.shape bytes).head ≡ l.head)
    (some : 1 ≤ (l.shape bytes).size)
    (exact : length bytes ≡ bytes_of (l.shape bytes))
  where
    -- a file with the same head is judged by its length
    judged : (xs : List ℕ) (k : ℕ) → take l.head xs ≡ take l.head bytes → l.head ≤ length xs
        → k ≡ refuse_length (length_rule (l.shape bytes) (length xs)) (l.late xs) → refusal xs ≡ k
    unfolding said
    judged xs k e h p =
        let d = same xs e in
        let y = p ∙ sym (ap (λ (s : Shape). refuse_length (length_rule s (length xs)) (l.late xs)) d.1) in
        is xs ∙ sym (refuse_next _ 14 _ k (le-ltb (length xs) l.head h) (y ∙ sym (d.0 _ ∙ passes _)))

    cut_at : (k : ℕ) → (l.shape bytes).head ≤ k → k < length bytes → (refusal (take k bytes) ≡ 19) × Whole (l.shape bytes) k (told (take k bytes))
    cut_at k h i =
        let s = l.shape bytes in
        let xs = take k bytes in
        let c : length xs ≡ k = length-take-le k bytes (omega arith) in
        let e = take-take l.head k bytes (omega arith) in
        let r = judged xs 19 e (omega arith) (rung_short s (length xs) _ (omega arith)) in
        (r, rw (tells xs r, (same xs e).1, c) (whole_is s k h some))

    fat_with : (more : List ℕ) → 1 ≤ length more → refusal (bytes ++ more) ≡ 21
    fat_with more h =
        let s = l.shape bytes in
        let xs = bytes ++ more in
        let c = length-append bytes more in
        judged xs 21 (take-append-le l.head bytes more (omega arith)) (omega arith) (rung_surplus s (length xs) _ (omega arith))

    no_head_at : (k : ℕ) → k < (l.shape bytes).head → refusal (take k bytes) ≡ 14
    unfolding said
    no_head_at k h =
        let c : length (take k bytes) ≡ k = length-take-le k bytes (omega arith) in
        is (take k bytes) ∙ sym (refuse_here _ 14 _ 14 (lt-ltb (length (take k bytes)) l.head (omega arith)) refl)

    pub told_apart : ToldApart refusal told (l.shape bytes) bytes
    told_apart = record { no_head = no_head_at; cut = cut_at; fat = fat_with }
