-- The list that stands for the numbers of a question's cells, as they are gone through.
use mathlib.Core.List.{List, [], ◌∷◌, ◌++◌, append_assoc, append-nil}
use mathlib.Core.Path.{◌≡◌, refl, ap, sym, ◌∙◌}
use Prim.Native.Nat.{ℕ, suc, ◌+◌, ◌-◌, ◌≤◌, ◌<◌}
use native.Mathlib.Numerals.{add-one}
use native.Mathlib.Omega.{arith}
use borrow.Author.Tests.{eqb-true, eqb-false, eq-eqb, ltb-true, ltb-false}
use lib.Dec.{eqb, ltb}
use lib.ListN.{length, get_or, set, drop, replicate, length-set, get_or-replicate}
use lib.Seq.{get_or-set_same, get_or-set_other, drop-cons}
use Rattle.rules.specs.Every.{times}
use Rattle.rules.proofs.Times.{times_append}
use Rattle.rules.proofs.Branches.{by_test}
use Rattle.walk.specs.Walk.{over}
use Rattle.walk.proofs.Shorter.{stands_empty, stands_longer, stands_still}
use Rattle.query.specs.Inside.{Gathered, Adds}

-- ---- one number
module _ (n : ℕ) (recent list : List ℕ) (count k i : ℕ) (h : k < 1024) (l : i < n) where
  -- that is remembered
  pub adds_known : i < 65535 → get_or recent k 0 ≡ i → Adds n (i ∷ []) recent list count recent list count
  adds_known few e all g =
      record {
        stood = λ j m b. omega (arith, times_append (get_or recent j 0) all (i ∷ []), g.stood j m b);
        size = g.size;
        most = g.most;
        listed = λ c. stands_still n all list count (g.listed c) i l (rw e at (g.stood k h (rw e few)));
      }

  -- that is remembered from then on, and put behind the list if that has room
  pub adds_new : (list' : List ℕ) (count' : ℕ) → length recent ≡ 1024 → (count < 2048 → (count' ≡ count + 1) × (list' ≡ set list count i))
      → (2048 ≤ count → (count' ≡ 2049) × (list' ≡ list)) → Adds n (i ∷ []) recent list count (set recent k i) list' count'
  unfolding times
  adds_new list' count' size room full all g =
      by_test (ltb count 2048)
      (λ t.
      let c = ltb-true count 2048 t in
      let p = room c in
      rw (p.0, p.1)
      (record {
        stood = stood;
        size = length-set list count i ∙ g.size;
        most = omega arith;
        listed = λ _. stands_longer n all list count (g.listed (omega arith)) i l (omega (arith, g.size));
      }))
      (λ t.
      let c = ltb-false count 2048 t in
      let p = full c in
      rw (p.0, p.1) (record { stood = stood; size = g.size; most = omega arith; listed = λ e. absurd (omega arith) }))
    where
      here : times i (i ∷ []) ≡ 1
      here = rw (eq-eqb i i refl) (omega arith)

      stood : (j : ℕ) → j < 1024 → get_or (set recent k i) j 0 < 65535 → 0 < times (get_or (set recent k i) j 0) (all ++ (i ∷ []))
      stood j m b =
          by_test (eqb j k)
          (λ e.
          let q : get_or (set recent k i) j 0 ≡ i = rw (eqb-true j k e) (get_or-set_same recent k i 0 (omega arith)) in
          rw q (omega (arith, times_append i all (i ∷ []), here)))
          (λ e.
          let q : get_or (set recent k i) j 0 ≡ get_or recent j 0 = get_or-set_other recent k j i 0 (eqb-false j k e) in
          rw q (omega (arith, times_append (get_or recent j 0) all (i ∷ []), g.stood j m (rw q at b))))

-- ---- numbers one after the other: `rest` is left of `whole`, which began with the first of each pair of tables and counts
pub record Going (n : ℕ) (whole rest recent₀ list₀ : List ℕ) (count₀ : ℕ) (recent list : List ℕ) (count : ℕ) : Type 0 where
  pub done : List ℕ
  pub split : done ++ rest ≡ whole
  pub adds : Adds n done recent₀ list₀ count₀ recent list count

module _ {n : ℕ} {whole recent₀ list₀ : List ℕ} {count₀ : ℕ} where
  pub going_starts : Going n whole whole recent₀ list₀ count₀ recent₀ list₀ count₀
  going_starts = record { done = []; split = refl; adds = λ all g. rw (append-nil all) g }

  pub going_turns : (rest one rest' : List ℕ) {recent list recent' list' : List ℕ} {count count' : ℕ} → rest ≡ one ++ rest'
      → Adds n one recent list count recent' list' count' → Going n whole rest recent₀ list₀ count₀ recent list count
      → Going n whole rest' recent₀ list₀ count₀ recent' list' count'
  going_turns rest one rest' e a g =
      record {
        done = g.done ++ one;
        split = append_assoc g.done one rest' ∙ ap (λ (l : List ℕ). g.done ++ l) (sym e) ∙ g.split;
        adds = λ all f. rw (← append_assoc all g.done one) (a (all ++ g.done) (g.adds all f));
      }

  pub going_ends : (rest : List ℕ) {recent list : List ℕ} {count : ℕ} → rest ≡ [] → Going n whole rest recent₀ list₀ count₀ recent list count
      → Adds n whole recent₀ list₀ count₀ recent list count
  going_ends rest e g =
      let d : g.done ≡ whole = sym (append-nil g.done) ∙ ap (λ (l : List ℕ). g.done ++ l) (sym e) ∙ g.split in
      rw d at g.adds

-- what is left of a list, and of a range
pub drop_next : (ms : List ℕ) (j : ℕ) → j < length ms → drop j ms ≡ (get_or ms j 0 ∷ []) ++ drop (j + 1) ms
drop_next ms j h = rw (add-one j) (drop-cons ms j 0 h)

pub over_next : (f : ℕ → List ℕ) (a b : ℕ) → a < b → over f a (b - a) ≡ f a ++ over f (a + 1) (b - (a + 1))
unfolding over
over_next f a b h = let e : b - a ≡ suc (b - (a + 1)) = omega arith in rw e

pub over_none : (f : ℕ → List ℕ) (a b : ℕ) → b ≤ a → over f a (b - a) ≡ []
unfolding over
over_none f a b h = let e : b - a ≡ 0 = omega arith in rw e

-- ---- where a question begins: nothing is gone through, and nothing is remembered
pub gathered_none : (n : ℕ) (list : List ℕ) → length list ≡ 2048 → Gathered n [] (replicate 1024 65535) list 0
gathered_none n list s =
    record {
      stood = λ k h below. absurd (omega (arith, get_or-replicate {A = ℕ} 1024 k 65535 0 h));
      size = s;
      most = omega arith;
      listed = λ _. stands_empty n list;
    }
