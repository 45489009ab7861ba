-- Sorted lists over a strict order: two of the same numbers are the same list.
use mathlib.Core.Bool.{Bool, true, false, cond}
use mathlib.Core.List.{List, [], ◌∷◌, ◌++◌}
use mathlib.Core.Logic.{⊎_elim}
use mathlib.Core.Path.{◌≡◌, refl, sym, ◌∙◌, ap}
use Prim.Native.Nat.{ℕ, zero, suc, ◌+◌, ◌≤◌, ◌<◌}
use native.Mathlib.Omega.{arith}
use borrow.Author.Tests.{eq-eqb, eqb-true}
use lib.Dec.{eqb}
use lib.ListN.{length, get_or, take, drop, length-take, length-drop, take-append-drop}
use lib.Seq.{ext_get_or, get_or-take, get_or-drop}
use Rattle.rules.proofs.Times.{times_append}
use Rattle.rules.proofs.Branches.{either}
use Rattle.sort.specs.Ranks.{insert, sorted_by}
use Rattle.rules.specs.Every.{times}
use Rattle.sort.specs.Inside.{Rearranged}
use Rattle.sort.proofs.Counts.{on_or_off}
use Rattle.sort.proofs.Heaps.{Strict, Tail}

module _ (less : ℕ → ℕ → Bool) where
  -- none of ys comes before x
  abbrev pub After : ℕ → List ℕ → Type 0
  After x ys = (b : ℕ) → b < length ys → less (get_or ys b 0) x ≡ false

  -- none comes before one that stands in front of it
  abbrev pub Rising : List ℕ → Type 0
  Rising [] = Unit
  Rising (y ∷ ys) = After y ys × Rising ys

  insert_length : (i : ℕ) (js : List ℕ) → length (insert less i js) ≡ suc (length js)
  unfolding insert
  insert_length i [] = refl
  insert_length i (j ∷ js) = let r = insert_length i js in
      either (λ (l : List ℕ). length l ≡ suc (suc (length js))) (less i j) (i ∷ j ∷ js) (j ∷ insert less i js) (λ _. refl) (λ _. ap suc r)

  pub sorted_length : (xs : List ℕ) → length (sorted_by less xs) ≡ length xs
  unfolding sorted_by
  sorted_length [] = refl
  sorted_length (x ∷ xs) = insert_length x (sorted_by less xs) ∙ ap suc (sorted_length xs)

module _ (less : ℕ → ℕ → Bool) (s : Strict less) where
  insert_after : (x i : ℕ) (js : List ℕ) → less i x ≡ false → After less x js → After less x (insert less i js)
  unfolding insert
  insert_after x i [] e a = λ b h. let z : b ≡ 0 = omega arith in rw z e
  insert_after x i (j ∷ js) e a =
      either (λ (l : List ℕ). After less x l) (less i j) (i ∷ j ∷ js) (j ∷ insert less i js)
      (λ _. λ b h. front b h)
      (λ _. λ b h. back (insert_after x i js e (λ b h. a (suc b) (omega arith))) b h)
    where
      front : (b : ℕ) → b < suc (suc (length js)) → less (get_or (i ∷ j ∷ js) b 0) x ≡ false
      front zero h = e
      front (suc b) h = a b (omega arith)

      back : After less x (insert less i js) → (b : ℕ) → b < suc (length (insert less i js)) → less (get_or (j ∷ insert less i js) b 0) x ≡ false
      back r zero h = a zero (omega arith)
      back r (suc b) h = r b (omega arith)

  insert_rises : (i : ℕ) (js : List ℕ) → Rising less js → Rising less (insert less i js)
  unfolding insert
  insert_rises i [] r = ((λ b h. absurd (omega arith)), tt)
  insert_rises i (j ∷ js) r =
      either (Rising less) (less i j) (i ∷ j ∷ js) (j ∷ insert less i js)
      (λ e. (front (s.one_way _ _ e), r))
      (λ e. (insert_after j i js e r.0, insert_rises i js r.1))
    where
      front : less j i ≡ false → After less i (j ∷ js)
      front e zero h = e
      front e (suc b) h = s.through _ _ _ e (r.0 b (omega arith))

  pub sorted_rises : (xs : List ℕ) → Rising less (sorted_by less xs)
  unfolding sorted_by
  sorted_rises [] = tt
  sorted_rises (x ∷ xs) = insert_rises x (sorted_by less xs) (sorted_rises xs)

  insert_counts : (x i : ℕ) (js : List ℕ) → times x (insert less i js) ≡ cond (eqb x i) 1 0 + times x js
  unfolding insert times
  insert_counts x i [] = refl
  insert_counts x i (j ∷ js) =
      let r = insert_counts x i js in
      either (λ (l : List ℕ). times x l ≡ cond (eqb x i) 1 0 + (cond (eqb x j) 1 0 + times x js)) (less i j) (i ∷ j ∷ js) (j ∷ insert less i js)
      (λ _. refl)
      (λ _. omega arith)

  pub sorted_counts : (x : ℕ) (xs : List ℕ) → times x (sorted_by less xs) ≡ times x xs
  unfolding sorted_by times
  sorted_counts x [] = refl
  sorted_counts x (y ∷ ys) = let r = sorted_counts x ys in omega (arith, insert_counts x y (sorted_by less ys))

  -- ---- one sorted list of the same numbers

  after_holds : (x z : ℕ) (ys : List ℕ) → After less x ys → 0 < times z ys → less z x ≡ false
  unfolding times
  after_holds x z [] a h = absurd (omega arith)
  after_holds x z (y ∷ ys) a h =
      ⊎_elim
      (λ (e : eqb z y ≡ true). rw (eqb-true z y e) (a 0 (omega arith)))
      (λ (e : eqb z y ≡ false). after_holds x z ys (λ b l. a (suc b) (omega arith)) (omega (arith, rw e at h)))
      (on_or_off (eqb z y))

  head_first : (x z : ℕ) (xs : List ℕ) → After less x xs → 0 < times z (x ∷ xs) → less z x ≡ false
  unfolding times
  head_first x z xs a h =
      ⊎_elim
      (λ (e : eqb z x ≡ true). rw (eqb-true z x e) (s.never x))
      (λ (e : eqb z x ≡ false). after_holds x z xs a (omega (arith, rw e at h)))
      (on_or_off (eqb z x))

  here : (x : ℕ) (xs : List ℕ) → 0 < times x (x ∷ xs)
  unfolding times
  here x xs = rw (eq-eqb x x refl) (omega arith)

  pub one_sorted : (xs ys : List ℕ) → Rising less xs → Rising less ys → ((x : ℕ) → times x xs ≡ times x ys) → xs ≡ ys
  unfolding times
  one_sorted [] [] r q c = refl
  one_sorted [] (y ∷ ys) r q c = absurd (omega (arith, c y, here y ys))
  one_sorted (x ∷ xs) [] r q c = absurd (omega (arith, c x, here x xs))
  one_sorted (x ∷ xs) (y ∷ ys) r q c =
      let e : x ≡ y = s.one x y (head_first y x ys q.0 (rw (c x) at (here x xs))) (head_first x y xs r.0 (rw (← (c y)) at (here y ys))) in
      let t : xs ≡ ys = one_sorted xs ys r.1 q.1 (λ z. omega (arith, c z, ap {B = ℕ} (λ (k : ℕ). cond (eqb z k) 1 0) e)) in
      rw (e, t)

  -- ---- a table whose first k entries have been sorted

  tail_rises : (xs : List ℕ) → ((a b : ℕ) → a < b → b < length xs → less (get_or xs b 0) (get_or xs a 0) ≡ false) → Rising less xs
  tail_rises [] t = tt
  tail_rises (x ∷ xs) t = ((λ b h. t 0 (suc b) (omega arith) (omega arith)), tail_rises xs (λ a b h l. t (suc a) (suc b) (omega arith) (omega arith)))

  pub sorted_is : (k : ℕ) (l l' : List ℕ) → k ≤ length l → Rearranged k l l' → Tail less 0 k l' → l' ≡ sorted_by less (take k l) ++ drop k l
  sorted_is k l l' room r t =
      let rest : drop k l' ≡ drop k l = ext_get_or 0 (drop k l') (drop k l) (simp length-drop (rw r.size))
      (λ i h. rw (get_or-drop k l' i 0, get_or-drop k l i 0) (r.rest (k + i) (omega arith))) in
      let rises : Rising less (take k l') = tail_rises (take k l') (λ a b h q.
      let q' : b < k = omega (arith, rw (length-take k l') at q) in
      rw (get_or-take k l' b 0 q', get_or-take k l' a 0 (omega arith)) (t a b h (omega arith) q')) in
      let same : take k l' ≡ sorted_by less (take k l) =
      one_sorted (take k l') (sorted_by less (take k l)) rises (sorted_rises (take k l))
      (λ x. omega (arith, sorted_counts x (take k l), r.same x, counted x l, counted x l', ap (times x) rest)) in
      sym (take-append-drop k l') ∙ (rw (same, rest))
    where
      counted : (x : ℕ) (m : List ℕ) → times x (take k m) + times x (drop k m) ≡ times x m
      counted x m = sym (times_append x (take k m) (drop k m)) ∙ ap (times x) (take-append-drop k m)
