-- A walk as the list of the triangles looked at: what the code does one member after the other is what follows from that list.
use mathlib.Core.Bool.{Bool, true, false, not, cond}
use mathlib.Core.List.{List, [], ◌∷◌}
use mathlib.Core.Path.{◌≡◌, refl, ap, sym, ◌∙◌}
use Prim.Native.Nat.{ℕ, suc, ◌+◌}
use native.Mathlib.Omega.{arith}
use lib.Dec.{eqb}
use lib.ListN.{length, get_or, set}
use Rattle.rules.proofs.Branches.{taken, left}
use Rattle.walk.specs.Walk.{Walk, looked, up_to, marked, fold, clear_of, gathered, walked, chased}
use Rattle.walk.specs.Inside.{look, strike, struck}
use Rattle.walk.proofs.Rings.{stopped}

module _ {A : Type 0} (stamp : ℕ) (step : A → ℕ → A) where
  gathered_cons : (w : Walk A) (i : ℕ) (is : List ℕ) → gathered stamp step (struck stamp step w i) is ≡ gathered stamp step w (i ∷ is)
  unfolding marked fold
  gathered_cons w i is =
      let e : w.count + 1 + length is ≡ w.count + suc (length is) = omega arith in
      ap (λ (n : ℕ). record { marks = marked stamp (set w.marks i stamp) is; count = n; value = fold step (step w.value i) is }) e

  pub walk_is : (ms : List ℕ) (w : Walk A) → fold (look stamp step) w ms ≡ walked stamp step w ms
  unfolding walked fold look looked marked
  walk_is [] w =
      let e : w.count ≡ w.count + 0 = omega arith in
      ap (λ (n : ℕ). record { marks = w.marks; count = n; value = w.value }) e
  walk_is (i ∷ ms) w =
      by_test (eqb (get_or w.marks i 0) stamp) (walk_is ms w) (walk_is ms (struck stamp step w i))
    where
      by_test : (b : Bool) → fold (look stamp step) w ms ≡ gathered stamp step w (looked stamp w.marks ms) → fold (look stamp step)
          (struck stamp step w i) ms ≡ gathered stamp step (struck stamp step w i) (looked stamp (set w.marks i stamp) ms) → fold (look stamp step)
          (cond b w (struck stamp step w i)) ms ≡ gathered stamp step w (cond b (looked stamp w.marks ms) (i ∷ looked stamp (set w.marks i stamp) ms))
      by_test true p q = p
      by_test false p q = q ∙ gathered_cons w i (looked stamp (set w.marks i stamp) ms)

module _ (stamp : ℕ) (blocks : ℕ → Bool) where
  -- what a walk that stops makes of where it stood, from the triangles that it looked at
  abbrev caught : Walk Bool → List ℕ → Walk Bool
  caught w is = record { marks = marked stamp w.marks is; count = w.count + length is; value = clear_of blocks is }

  abbrev hit : Walk Bool → ℕ → Walk Bool
  hit w i = struck stamp (λ _ k. not (blocks k)) w i

  caught_more : (w : Walk Bool) (i : ℕ) (is : List ℕ) → blocks i ≡ false → caught (hit w i) is ≡ caught w (i ∷ is)
  unfolding marked clear_of
  caught_more w i is e =
      let n : w.count + 1 + length is ≡ w.count + suc (length is) = omega arith in
      rw (n, e)

  caught_last : (w : Walk Bool) (i : ℕ) → blocks i ≡ true → hit w i ≡ caught w (i ∷ [])
  unfolding marked clear_of
  caught_last w i e = rw e

  -- member i is looked at: it blocks, or the walk goes on
  hit_is : (w : Walk Bool) (i : ℕ) (ms is : List ℕ) → (not (blocks i) ≡ true → fold (strike stamp blocks) (hit w i) ms ≡ caught (hit w i) is)
      → fold (strike stamp blocks) (hit w i) ms ≡ caught w (i ∷ cond (blocks i) [] is)
  hit_is w i ms is more = by_test (blocks i) refl
    where
      by_test : (b : Bool) → blocks i ≡ b → fold (strike stamp blocks) (hit w i) ms ≡ caught w (i ∷ cond (blocks i) [] is)
      by_test true e =
          sym (stopped stamp blocks ms (hit w i) _ (ap not e) refl) ∙ caught_last w i e ∙ ap (λ (l : List ℕ). caught w (i ∷ l)) (taken _ _ _ _ e refl)
      by_test false e = more (ap not e) ∙ caught_more w i is e ∙ ap (λ (l : List ℕ). caught w (i ∷ l)) (left _ _ _ _ e refl)

  pub chase_is : (ms : List ℕ) (w : Walk Bool) → w.value ≡ true → fold (strike stamp blocks) w ms ≡ chased stamp blocks w ms
  unfolding chased fold strike look looked up_to marked clear_of
  chase_is [] w c =
      let e : w.count ≡ w.count + 0 = omega arith in
      ap (λ (n : ℕ). record { marks = w.marks; count = n; value = w.value }) e
      ∙ ap (λ (b : Bool). record { marks = w.marks; count = w.count + 0; value = b }) c
  chase_is (i ∷ ms) w c =
      ap (λ (u : Walk Bool). fold (strike stamp blocks) u ms) (sym (taken w.value _ _ w c refl))
      ∙ by_test (eqb (get_or w.marks i 0) stamp) (chase_is ms w c) (hit_is w i ms _ (chase_is ms (hit w i)))
    where
      by_test : (b : Bool) → fold (strike stamp blocks) w ms ≡ caught w (up_to blocks (looked stamp w.marks ms))
          → fold (strike stamp blocks) (hit w i) ms ≡ caught w (up_to blocks (i ∷ looked stamp (set w.marks i stamp) ms)) → fold (strike stamp blocks)
          (cond b w (hit w i)) ms ≡ caught w (up_to blocks (cond b (looked stamp w.marks ms) (i ∷ looked stamp (set w.marks i stamp) ms)))
      by_test true p q = p
      by_test false p q = q
