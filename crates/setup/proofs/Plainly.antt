-- A walk over a list in which each triangle that counts stands once is the plain walk over all of them, for any step that does not mind the order.
use mathlib.Core.Bool.{Bool, true, false, cond}
use mathlib.Core.List.{List, [], ◌∷◌}
use mathlib.Core.Path.{◌≡◌, refl, ap, sym, ◌∙◌}
use Prim.Native.Nat.{ℕ, zero, suc, ◌+◌, ◌<◌, max}
use native.Mathlib.Omega.{arith}
use borrow.Author.Tests.{lt-ltb, le-ltb, ltb-true, ltb-false, eqb-true, eqb-false, eq-eqb}
use lib.Dec.{eqb, ltb}
use lib.IntN.{ℤ}
use Rattle.rules.proofs.Branches.{by_test}
use Rattle.rules.specs.Every.{times}
use Rattle.walk.specs.Walk.{fold}
use Rattle.micro.specs.declared.Box.{Box}
use Rattle.micro.specs.Micro.{box_of}
use Rattle.setup.specs.declared.Reach.{Reach}
use Rattle.setup.specs.declared.Best.{Best}
use Rattle.setup.specs.Question.{meets, taken, step_of, from_floor, plain_walk}

same_below : (x n : ℕ) → (n ≡ x → ⊥) → ltb x (suc n) ≡ ltb x n
same_below x n h =
    by_test (ltb x n)
    (λ t. let l = ltb-true x n t in lt-ltb x (suc n) (omega arith) ∙ sym t)
    (λ t. let l = ltb-false x n t in le-ltb x (suc n) (omega arith) ∙ sym t)

module _ {A : Type 0} (step : A → ℕ → A) (comm : (v : A) (a b : ℕ) → step (step v a) b ≡ step (step v b) a) where
  -- the walk over those of the list that are below n
  unfoldable part : ℕ → A → List ℕ → A
  part n v [] = v
  part n v (x ∷ xs) = part n (cond (ltb x n) (step v x) v) xs

  none : (v : A) (xs : List ℕ) → part 0 v xs ≡ v
  unfolding part
  none v [] = refl
  none v (x ∷ xs) = rw (le-ltb x 0 (omega arith)) (none v xs)

  -- a step before it is one behind it
  later : (n a : ℕ) (xs : List ℕ) (v : A) → part n (step v a) xs ≡ step (part n v xs) a
  unfolding part
  later n a [] v = refl
  later n a (x ∷ xs) v =
      by_test (ltb x n)
      (λ t. rw (t, comm v a x) (later n a xs (step v x)))
      (λ t. rw t (later n a xs v))

  -- n does not stand there, or does nothing
  still : (n : ℕ) (xs : List ℕ) (v : A) → (0 < times n xs → (u : A) → step u n ≡ u) → part (suc n) v xs ≡ part n v xs
  unfolding part times
  still n [] v f = refl
  still n (x ∷ xs) v f =
      by_test (eqb n x)
      (λ t.
      let q : n ≡ x = eqb-true n x t in
      let s : step v n ≡ v = f (rw t (omega arith)) v in
      rw (← q, lt-ltb n (suc n) (omega arith), le-ltb n n (omega arith), s) (still n xs v (λ h. f (rw t (omega arith)))))
      (λ t.
      rw (same_below x n (eqb-false n x t)) (still n xs _ (λ h. f (rw t (omega arith)))))

  -- n stands there once
  once : (n : ℕ) (xs : List ℕ) (v : A) → times n xs ≡ 1 → part (suc n) v xs ≡ step (part n v xs) n
  unfolding part times
  once n [] v e = absurd (omega arith)
  once n (x ∷ xs) v e =
      by_test (eqb n x)
      (λ t.
      let q : n ≡ x = eqb-true n x t in
      let z : times n xs ≡ 0 = omega (arith, rw t at e) in
      rw (← q, lt-ltb n (suc n) (omega arith), le-ltb n n (omega arith)) (still n xs (step v n) (λ h. absurd (omega arith)) ∙ later n n xs v))
      (λ t. rw (same_below x n (eqb-false n x t)) (once n xs _ (omega (arith, rw t at e))))

  -- all of the list is below n
  whole : (n : ℕ) (xs : List ℕ) (v : A) → ((x : ℕ) → 0 < times x xs → x < n) → part n v xs ≡ fold step v xs
  unfolding part fold times
  whole n [] v f = refl
  whole n (x ∷ xs) v f =
      rw (lt-ltb x n (f x (rw (eq-eqb x x refl) (omega arith)))) (whole n xs (step v x) (λ y h. f y (omega arith)))

module _ (mesh : List ℤ) (w : Reach) where
  -- the order of two triangles does not matter
  swap : (b c : Box) (s t : Bool) (v : Best) → cond t (record {
    height = max (cond s (record { height = max v.height b.top; met = v.met + 1 }) v).height
        c.top;
    met = (cond s (record { height = max v.height b.top; met = v.met + 1 }) v).met + 1;
  })
      (cond s (record { height = max v.height b.top; met = v.met + 1 }) v)
      ≡ cond s (record {
        height = max (cond t (record { height = max v.height c.top; met = v.met + 1 }) v).height b.top;
        met = (cond t (record { height = max v.height c.top; met = v.met + 1 }) v).met + 1;
      })
      (cond t (record { height = max v.height c.top; met = v.met + 1 }) v)
  swap b c true true v = ap (λ (k : ℕ). record { height = k; met = v.met + 1 + 1 }) (omega arith)
  swap b c true false v = refl
  swap b c false true v = refl
  swap b c false false v = refl

  step_comm : (v : Best) (a b : ℕ) → step_of mesh w (step_of mesh w v a) b ≡ step_of mesh w (step_of mesh w v b) a
  unfolding step_of taken
  step_comm v a b = swap (box_of mesh a) (box_of mesh b) (meets w (box_of mesh a)) (meets w (box_of mesh b)) v

  step_idle : (i : ℕ) → meets w (box_of mesh i) ≡ false → (v : Best) → step_of mesh w v i ≡ v
  unfolding step_of taken
  step_idle i e v = rw e

  -- the list holds each triangle that meets exactly once
  plain_below : (floor n : ℕ) (xs : List ℕ) → ((i : ℕ) → i < n → meets w (box_of mesh i) ≡ true → times i xs ≡ 1)
      → part (step_of mesh w) step_comm n (from_floor floor) xs ≡ plain_walk mesh w floor n
  unfolding plain_walk
  plain_below floor zero xs f = none (step_of mesh w) step_comm (from_floor floor) xs
  plain_below floor (suc n) xs f =
      let r = plain_below floor n xs (λ i h. f i (omega arith)) in
      by_test (meets w (box_of mesh n))
      (λ t. once (step_of mesh w) step_comm n xs (from_floor floor) (f n (omega arith) t) ∙ ap (λ (v : Best). step_of mesh w v n) r)
      (λ t. still (step_of mesh w) step_comm n xs (from_floor floor) (λ _. step_idle n t) ∙ r ∙ sym (step_idle n t _))

  pub plainly : (floor n : ℕ) (xs : List ℕ) → ((i : ℕ) → 0 < times i xs → i < n) → ((i : ℕ) → i < n → meets w (box_of mesh i) ≡ true → times i xs ≡ 1)
      → fold (step_of mesh w) (from_floor floor) xs ≡ plain_walk mesh w floor n
  plainly floor n xs below f = sym (whole (step_of mesh w) step_comm n xs (from_floor floor) below) ∙ plain_below floor n xs f
