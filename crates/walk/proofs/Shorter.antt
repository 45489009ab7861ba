-- A shorter list in place of the numbers of a question's cells: a number that stood there before may be left out, since a walk looks at it once.
use mathlib.Core.Bool.{Bool, true, false, cond}
use mathlib.Core.List.{List, [], ◌∷◌, ◌++◌, append-nil}
use mathlib.Core.Path.{◌≡◌, refl, ap, sym, ◌∙◌}
use Prim.Native.Nat.{ℕ, zero, suc, ◌+◌, ◌-◌, ◌*◌, ◌≤◌, ◌<◌}
use native.Mathlib.Numerals.{add-one}
use native.Mathlib.Omega.{arith}
use borrow.Author.Tests.{eqb-true, eqb-false, eq-eqb}
use lib.Dec.{eqb}
use lib.ListN.{length, get_or, set, take, drop, length-set}
use lib.Seq.{get_or-set_same, take-suc-set, length-take-le}
use Rattle.rules.specs.Every.{times}
use Rattle.rules.proofs.Branches.{by_test, either}
use Rattle.walk.specs.Walk.{Walk, over, cell, row, block, looked, marked, gathered, walked, chased, fold}
use Rattle.walk.specs.Inside.{look, strike, Below, StandsFor, Walkable}
use Rattle.walk.proofs.Lists.{walk_is, chase_is}

-- ---- the marks that a walk leaves: one that is the stamp stays it, and each number walked over has the stamp
set_keeps : (stamp : ℕ) (marks : List ℕ) (k i : ℕ) → get_or marks i 0 ≡ stamp → get_or (set marks k stamp) i 0 ≡ stamp
set_keeps stamp [] k i e = e
set_keeps stamp (m ∷ ms) zero zero e = refl
set_keeps stamp (m ∷ ms) zero (suc i) e = e
set_keeps stamp (m ∷ ms) (suc k) zero e = e
set_keeps stamp (m ∷ ms) (suc k) (suc i) e = set_keeps stamp ms k i e

marked_stays : (stamp : ℕ) (is marks : List ℕ) (i : ℕ) → get_or marks i 0 ≡ stamp → get_or (marked stamp marks is) i 0 ≡ stamp
unfolding marked
marked_stays stamp [] marks i e = e
marked_stays stamp (k ∷ is) marks i e = marked_stays stamp is (set marks k stamp) i (set_keeps stamp marks k i e)

looked_marks : (stamp : ℕ) (ms marks : List ℕ) (i : ℕ) → i < length marks → 0 < times i ms
    → get_or (marked stamp marks (looked stamp marks ms)) i 0 ≡ stamp
unfolding looked marked times
looked_marks stamp [] marks i l t = absurd (omega arith)
looked_marks stamp (x ∷ xs) marks i l t =
    either (λ (k : List ℕ). get_or (marked stamp marks k) i 0 ≡ stamp) (eqb (get_or marks x 0) stamp) _ _
    (λ e.
    by_test (eqb i x)
    (λ q. let p = eqb-true i x q in marked_stays stamp (looked stamp marks xs) marks i (rw p (eqb-true (get_or marks x 0) stamp e)))
    (λ q. looked_marks stamp xs marks i l (omega (arith, rw q at t))))
    (λ e.
    by_test (eqb i x)
    (λ q.
    let p = eqb-true i x q in
    let s : get_or (set marks x stamp) i 0 ≡ stamp = rw p (get_or-set_same marks x stamp 0 (rw p at l)) in
    marked_stays stamp (looked stamp (set marks x stamp) xs) (set marks x stamp) i s)
    (λ q. looked_marks stamp xs (set marks x stamp) i (rw (length-set marks x stamp) l) (omega (arith, rw q at t))))

-- ---- a walk over one list and then another
looked_append : (stamp : ℕ) (xs ys marks : List ℕ)
    → looked stamp marks (xs ++ ys) ≡ looked stamp marks xs ++ looked stamp (marked stamp marks (looked stamp marks xs)) ys
unfolding looked marked
looked_append stamp [] ys marks = refl
looked_append stamp (i ∷ xs) ys marks =
    by_mark (eqb (get_or marks i 0) stamp) (looked_append stamp xs ys marks) (looked_append stamp xs ys (set marks i stamp))
  where
    by_mark : (b : Bool) → looked stamp marks (xs ++ ys) ≡ looked stamp marks xs ++ looked stamp (marked stamp marks (looked stamp marks xs)) ys
        → looked stamp (set marks i stamp) (xs ++ ys) ≡ looked stamp (set marks i stamp) xs
        ++ looked stamp (marked stamp (set marks i stamp) (looked stamp (set marks i stamp) xs)) ys
        → cond b (looked stamp marks (xs ++ ys)) (i ∷ looked stamp (set marks i stamp) (xs ++ ys))
        ≡ cond b (looked stamp marks xs) (i ∷ looked stamp (set marks i stamp) xs)
        ++ looked stamp (marked stamp marks (cond b (looked stamp marks xs) (i ∷ looked stamp (set marks i stamp) xs))) ys
    by_mark true p q = p
    by_mark false p q = ap (λ (l : List ℕ). i ∷ l) q

-- a number with the stamp for its mark is not looked at
looked_not : (stamp : ℕ) (marks : List ℕ) (i : ℕ) → get_or marks i 0 ≡ stamp → looked stamp marks (i ∷ []) ≡ []
unfolding looked
looked_not stamp marks i e = rw (eq-eqb (get_or marks i 0) stamp e)

below_more : (n : ℕ) (xs : List ℕ) (i : ℕ) → Below n xs → i < n → Below n (xs ++ (i ∷ []))
below_more n [] i b l zero h = l
below_more n [] i b l (suc k) h = absurd (omega arith)
below_more n (x ∷ xs) i b l zero h = b 0 (omega arith)
below_more n (x ∷ xs) i b l (suc k) h = below_more n xs i (λ j m. b (suc j) (omega arith)) l k (omega arith)

-- ---- the list that stands for the numbers gone through so far
pub stands_empty : (n : ℕ) (list : List ℕ) → StandsFor n [] list 0
stands_empty n list = record { held = omega arith; below = λ k h. absurd (omega arith); same = λ stamp marks e. refl }

module _ (n : ℕ) (all list : List ℕ) (count : ℕ) (s : StandsFor n all list count) (i : ℕ) (l : i < n) where
  -- a number that is put behind it
  pub stands_longer : count < length list → StandsFor n (all ++ (i ∷ [])) (set list count i) (count + 1)
  stands_longer room =
      let t : take (count + 1) (set list count i) ≡ take count list ++ (i ∷ []) = rw (add-one count) (take-suc-set list count i room) in
      record {
        held = omega (arith, length-set list count i);
        below = rw t (below_more n (take count list) i s.below l);
        same = λ stamp marks e.
            ap (looked stamp marks) t
            ∙ looked_append stamp (take count list) (i ∷ []) marks
            ∙ ap (λ (k : List ℕ). k ++ looked stamp (marked stamp marks k) (i ∷ [])) (s.same stamp marks e)
            ∙ sym (looked_append stamp all (i ∷ []) marks);
      }

  -- a number that stands there already
  pub stands_still : 0 < times i all → StandsFor n (all ++ (i ∷ [])) list count
  stands_still t =
      record {
        held = s.held;
        below = s.below;
        same = λ stamp marks e.
            s.same stamp marks e
            ∙ sym
            (looked_append stamp all (i ∷ []) marks
            ∙ ap (λ (k : List ℕ). looked stamp marks all ++ k) (looked_not stamp _ i (looked_marks stamp all marks i (omega arith) t))
            ∙ append-nil (looked stamp marks all));
      }

-- ---- a walk over a list that looks at the same
pub same_walk : {A : Type 0} (stamp : ℕ) (step : A → ℕ → A) (w : Walk A) (ms all : List ℕ) → looked stamp w.marks ms ≡ looked stamp w.marks all
    → fold (look stamp step) w ms ≡ fold (look stamp step) w all
unfolding walked
same_walk stamp step w ms all e = walk_is stamp step ms w ∙ ap (gathered stamp step w) e ∙ sym (walk_is stamp step all w)

pub same_chase : (stamp : ℕ) (blocks : ℕ → Bool) (w : Walk Bool) (ms all : List ℕ) → w.value ≡ true
    → looked stamp w.marks ms ≡ looked stamp w.marks all → fold (strike stamp blocks) w ms ≡ fold (strike stamp blocks) w all
unfolding chased
same_chase stamp blocks w ms all c e = chase_is stamp blocks ms w c ∙ (rw e) ∙ sym (chase_is stamp blocks all w c)

-- ---- the list as the one cell of an index
module _ (list : List ℕ) (count columns : ℕ) where
  pub one_cell : block (0 ∷ count ∷ []) list columns 0 1 0 1 ≡ take count list
  unfolding over
  one_cell =
      let c : 0 * columns + 0 ≡ 0 = omega arith in
      let z : count - 0 ≡ count = omega arith in
      ap (λ (l : List ℕ). l ++ []) (append-nil (cell (0 ∷ count ∷ []) list (0 * columns + 0)))
      ∙ append-nil (cell (0 ∷ count ∷ []) list (0 * columns + 0))
      ∙ (rw (c, z))

  pub one_walkable : (n : ℕ) → count ≤ length list → Below n (take count list) → Walkable (0 ∷ count ∷ []) list n columns 0 1 0 1
  one_walkable n held below =
      record {
        stretch = λ x y a b c d. rw (first x y b d) (record { inside = omega arith; rises = omega arith; within = held });
        below = λ x y a b c d. rw (first x y b d, whole) below;
      }
    where
      whole : count - 0 ≡ count
      whole = omega arith

      first : (x y : ℕ) → x < 1 → y < 1 → y * columns + x ≡ 0
      first x y b d =
          let p : x ≡ 0 = omega arith in
          let q : y ≡ 0 = omega arith in
          rw (p, q) (omega arith)
