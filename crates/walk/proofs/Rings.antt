-- The rings of a walk over any step: what is left of a ring, run from where it stands, gives what the whole gave from where it began.
use mathlib.Core.Bool.{Bool, true, false, not}
use mathlib.Core.List.{List, [], ◌∷◌, ◌++◌}
use mathlib.Core.Path.{◌≡◌, refl, ap, sym, ◌∙◌}
use Prim.Native.Nat.{ℕ, zero, suc, ◌+◌, ◌-◌, ◌^◌, ◌≤◌, ◌<◌}
use native.Mathlib.Numerals.{add-one}
use native.Mathlib.Omega.{arith}
use borrow.Author.Tests.{eq-eqb, eqb-true, not-true, not-false}
use lib.Dec.{eqb}
use lib.ListN.{length, get_or, set, drop, length-set, drop_of_length-le}
use lib.Seq.{drop-cons, set-get_or}
use Rattle.rules.proofs.Branches.{either, taken, left}
use Rattle.walk.specs.Walk.{Walk, over, fold}
use Rattle.walk.specs.Inside.{look, strike, struck, unmarked, Below, Room}

-- ---- a fold over a list taken apart
module _ {W : Type 0} (s : W → ℕ → W) where
  pub fold_append : (xs ys : List ℕ) (w : W) → fold s w (xs ++ ys) ≡ fold s (fold s w xs) ys
  unfolding fold
  fold_append [] ys w = refl
  fold_append (x ∷ xs) ys w = fold_append xs ys (s w x)

  -- r is what the whole gives: it is what is left gives, at each turn and at the end
  fold_next : (ms : List ℕ) (j : ℕ) (w w' r : W) → j < length ms → fold s w (drop j ms) ≡ r → w' ≡ s w (get_or ms j 0) → fold s w' (drop (j + 1) ms) ≡ r
  unfolding fold
  fold_next ms j w w' r h i e = rw (add-one j, e) (rw (drop-cons ms j 0 h) at i)

  fold_end : (ms : List ℕ) (j : ℕ) (w r : W) → length ms ≤ j → fold s w (drop j ms) ≡ r → w ≡ r
  unfolding fold
  fold_end ms j w r h i = rw (drop_of_length-le ms h) at i

  over_next : (f : ℕ → List ℕ) (a b : ℕ) → a < b → over f a (b - a) ≡ f a ++ over f (a + 1) (b - (a + 1))
  unfolding over
  over_next f a b h = let e : b - a ≡ suc (b - (a + 1)) = omega arith in rw e

  over_end : (f : ℕ → List ℕ) (a b : ℕ) → b ≤ a → over f a (b - a) ≡ []
  unfolding over
  over_end f a b h = let e : b - a ≡ 0 = omega arith in rw e

  ring_next : (f : ℕ → List ℕ) (a b : ℕ) (w w' r : W) → a < b → fold s w (over f a (b - a)) ≡ r → w' ≡ fold s w (f a)
      → fold s w' (over f (a + 1) (b - (a + 1))) ≡ r
  ring_next f a b w w' r h i e =
      ap (λ (u : W). fold s u (over f (a + 1) (b - (a + 1)))) e ∙ sym (fold_append (f a) _ w) ∙ (rw (over_next f a b h) at i)

  ring_end : (f : ℕ → List ℕ) (a b : ℕ) (w r : W) → b ≤ a → fold s w (over f a (b - a)) ≡ r → w ≡ r
  unfolding fold
  ring_end f a b w r h i = rw (over_end f a b h) at i

-- ---- what a walk keeps: the number of marks, and the count with what is left unmarked
pub record Kept {A : Type 0} (stamp : ℕ) (w w' : Walk A) : Type 0 where
  pub size : length w'.marks ≡ length w.marks
  pub room : w'.count + unmarked stamp w'.marks ≡ w.count + unmarked stamp w.marks

pub kept_same : {A : Type 0} (stamp : ℕ) (w : Walk A) → Kept stamp w w
kept_same stamp w = record { size = refl; room = refl }

pub kept_trans : {A : Type 0} {stamp : ℕ} {w w' w'' : Walk A} → Kept stamp w w' → Kept stamp w' w'' → Kept stamp w w''
kept_trans k l = record { size = l.size ∙ k.size; room = l.room ∙ k.room }

pub kept_room : {A : Type 0} {stamp : ℕ} {w w' : Walk A} → Kept stamp w w' → Room stamp w → Room stamp w'
kept_room k r = omega (arith, r, k.room)

pub unmarked_set : (stamp : ℕ) (ms : List ℕ) (i : ℕ) → i < length ms → eqb (get_or ms i 0) stamp ≡ false → unmarked stamp (set ms i stamp) + 1 ≡ unmarked stamp ms
unfolding unmarked
unmarked_set s [] i h e = absurd (omega arith)
unmarked_set s (m ∷ ms) zero h e = simp (e, eq-eqb s s refl) (omega arith)
unmarked_set s (m ∷ ms) (suc i) h e = let r = unmarked_set s ms i (omega arith) e in omega arith

pub unmarked_length : (stamp : ℕ) (ms : List ℕ) → unmarked stamp ms ≤ length ms
unfolding unmarked
unmarked_length s [] = omega arith
unmarked_length s (m ∷ ms) =
    let r = unmarked_length s ms in
    either (λ (k : ℕ). k + unmarked s ms ≤ suc (length ms)) (eqb m s) 0 1 (λ e. omega arith) (λ e. omega arith)

-- setting an entry to what it is
pub set_same : (l : List ℕ) (i v : ℕ) → get_or l i 0 ≡ v → l ≡ set l i v
set_same l i v e = sym (ap (set l i) (sym e) ∙ set-get_or l i 0)

-- ---- one member
module _ {A : Type 0} (stamp : ℕ) (step : A → ℕ → A) (w : Walk A) (i : ℕ) where
  pub look_keeps : i < length w.marks → Kept stamp w (look stamp step w i)
  unfolding look
  look_keeps h =
      either (λ (u : Walk A). Kept stamp w u) (eqb (get_or w.marks i 0) stamp) w (struck stamp step w i)
      (λ e. kept_same stamp w)
      (λ e. let u = unmarked_set stamp w.marks i h e in record { size = length-set w.marks i stamp; room = omega arith })

  -- where the mark was the stamp already, nothing changes, also not by setting it again
  pub look_again : eqb (get_or w.marks i 0) stamp ≡ true → record { marks = set w.marks i stamp; count = w.count; value = w.value } ≡ look stamp step w i
  unfolding look
  look_again e =
      let m = set_same w.marks i stamp (eqb-true (get_or w.marks i 0) stamp e) in
      taken _ _ _ _ e (ap (λ (l : List ℕ). record { marks = l; count = w.count; value = w.value }) (sym m))

  pub look_first : eqb (get_or w.marks i 0) stamp ≡ false → (v : A) → v ≡ step w.value i
      → record { marks = set w.marks i stamp; count = w.count + 1; value = v } ≡ look stamp step w i
  unfolding look
  look_first e v p = left _ _ _ _ e (ap (λ (u : A). record { marks = set w.marks i stamp; count = w.count + 1; value = u }) p)

fresh_new : (stamp : ℕ) (marks : List ℕ) (i : ℕ) (f : Bool) → f ≡ not (eqb (get_or marks i 0) stamp) → not f ≡ false → eqb (get_or marks i 0) stamp ≡ false
fresh_new stamp marks i f a n = not-true _ (sym a ∙ not-false f n)

-- a triangle that is fresh has room in the count
pub fresh_room : (stamp : ℕ) (marks : List ℕ) (count i : ℕ) (f : Bool) → f ≡ not (eqb (get_or marks i 0) stamp) → not f ≡ false → i < length marks
    → count + unmarked stamp marks < 2 ^ 32 → count + 1 < 2 ^ 32
fresh_room stamp marks count i f a n h r =
    let u = unmarked_set stamp marks i h (fresh_new stamp marks i f a n) in omega arith

-- the same from what a call of `fresh` ensures: f is its answer, m' the marks that it left
module _ {A : Type 0} (stamp : ℕ) (step : A → ℕ → A) (w : Walk A) (i : ℕ) (f : Bool) (m' : List ℕ) (a : f ≡ not (eqb (get_or w.marks i 0) stamp))
    (b : m' ≡ set w.marks i stamp) where
  pub fresh_again : not f ≡ true → record { marks = m'; count = w.count; value = w.value } ≡ look stamp step w i
  fresh_again n =
      ap (λ (l : List ℕ). record { marks = l; count = w.count; value = w.value }) b ∙ look_again stamp step w i (not-false _ (sym a ∙ not-true f n))

  pub fresh_first : not f ≡ false → (v : A) → v ≡ step w.value i → record { marks = m'; count = w.count + 1; value = v } ≡ look stamp step w i
  fresh_first n v p =
      ap (λ (l : List ℕ). record { marks = l; count = w.count + 1; value = v }) b ∙ look_first stamp step w i (fresh_new stamp w.marks i f a n) v p

module _ (stamp : ℕ) (blocks : ℕ → Bool) where
  pub strike_is : (w : Walk Bool) (i : ℕ) (w' : Walk Bool) → w.value ≡ true → w' ≡ look stamp (λ _ k. not (blocks k)) w i → w' ≡ strike stamp blocks w i
  unfolding strike
  strike_is w i w' c e = taken _ _ _ _ c e

  pub strike_keeps : (w : Walk Bool) (i : ℕ) → i < length w.marks → Kept stamp w (strike stamp blocks w i)
  unfolding strike
  strike_keeps w i h =
      either (λ (u : Walk Bool). Kept stamp w u) w.value _ w (λ _. look_keeps stamp (λ _ k. not (blocks k)) w i h) (λ _. kept_same stamp w)

  -- once stopped, nothing changes
  pub stopped : (ms : List ℕ) (w r : Walk Bool) → w.value ≡ false → fold (strike stamp blocks) w ms ≡ r → w ≡ r
  unfolding fold strike
  stopped [] w r p i = i
  stopped (m ∷ ms) w r p i =
      stopped ms w r p (ap (λ (u : Walk Bool). fold (strike stamp blocks) u ms) (left w.value w _ w p refl) ∙ i)

-- what every member keeps a list keeps
pub fold_keeps : {A : Type 0} (stamp : ℕ) (s : Walk A → ℕ → Walk A) → ((w : Walk A) (i : ℕ) → i < length w.marks → Kept stamp w (s w i))
    → (ms : List ℕ) (w : Walk A) → Below (length w.marks) ms → Kept stamp w (fold s w ms)
unfolding fold
fold_keeps stamp s one [] w b = kept_same stamp w
fold_keeps stamp s one (m ∷ ms) w b =
    let k = one w m (b 0 (omega arith)) in
    kept_trans k (fold_keeps stamp s one ms (s w m) (λ n h. rw k.size (b (suc n) (omega arith))))

-- what a walk over a list keeps
pub cell_keeps : {A : Type 0} (stamp : ℕ) (step : A → ℕ → A) (ms : List ℕ) {w w' : Walk A} → w' ≡ fold (look stamp step) w ms
    → Below (length w.marks) ms → Kept stamp w w'
cell_keeps stamp step ms {w} e b = rw e (fold_keeps stamp (look stamp step) (look_keeps stamp step) ms w b)

-- ---- a ring that began at w₀ with the numbers all before it, and stands at w with the numbers rest left; s is `look stamp step` or `strike stamp blocks`
pub record Going {A : Type 0} (stamp : ℕ) (s : Walk A → ℕ → Walk A) (w₀ : Walk A) (all : List ℕ) (w : Walk A) (rest : List ℕ) : Type 0 where
  pub same : fold s w rest ≡ fold s w₀ all
  pub kept : Kept stamp w₀ w

module _ {A : Type 0} {stamp : ℕ} {s : Walk A → ℕ → Walk A} {w₀ : Walk A} {all : List ℕ} where
  pub going_starts : Going stamp s w₀ all w₀ all
  going_starts = record { same = refl; kept = kept_same stamp w₀ }

  -- the ring over the members, at member j: a turn, and the end
  pub member_turns : (j : ℕ) {w w' : Walk A} → j < length all → Kept stamp w (s w (get_or all j 0)) → Going stamp s w₀ all w (drop j all)
      → w' ≡ s w (get_or all j 0) → Going stamp s w₀ all w' (drop (j + 1) all)
  member_turns j {w} {w'} h k g e =
      record { same = fold_next s all j w w' _ h g.same e; kept = kept_trans g.kept (rw e k) }

  pub members_end : (j : ℕ) {w : Walk A} → length all ≤ j → Going stamp s w₀ all w (drop j all) → w ≡ fold s w₀ all
  members_end j {w} h g = fold_end s all j w _ h g.same

  -- a ring over a .. b, with the numbers f a at a: a turn, in which the ring inside went to its end, and the end
  module _ (f : ℕ → List ℕ) (a b : ℕ) {w : Walk A} where
    pub ring_turns : {w' : Walk A} → a < b → Kept stamp w w' → Going stamp s w₀ all w (over f a (b - a)) → w' ≡ fold s w (f a)
        → Going stamp s w₀ all w' (over f (a + 1) (b - (a + 1)))
    ring_turns {w'} h k g e = record { same = ring_next s f a b w w' _ h g.same e; kept = kept_trans g.kept k }

    pub ring_ends : b ≤ a → Going stamp s w₀ all w (over f a (b - a)) → w ≡ fold s w₀ all
    ring_ends h g = ring_end s f a b w _ h g.same

-- ---- the way out of all three rings: a blocker at member j, and inside a ring
module _ {stamp : ℕ} (blocks : ℕ → Bool) {w₀ : Walk Bool} {all : List ℕ} where
  pub member_blocks : (j : ℕ) {w w' : Walk Bool} → j < length all → Going stamp (strike stamp blocks) w₀ all w (drop j all)
      → w' ≡ strike stamp blocks w (get_or all j 0) → w'.value ≡ false → w' ≡ fold (strike stamp blocks) w₀ all
  member_blocks j {w} {w'} h g e c =
      stopped stamp blocks (drop (j + 1) all) w' _ c (fold_next (strike stamp blocks) all j w w' _ h g.same e)

  pub ring_blocks : (f : ℕ → List ℕ) (a b : ℕ) {w w' : Walk Bool} → a < b → Going stamp (strike stamp blocks) w₀ all w (over f a (b - a))
      → w' ≡ fold (strike stamp blocks) w (f a) → w'.value ≡ false → w' ≡ fold (strike stamp blocks) w₀ all
  ring_blocks f a b {w} {w'} h g e c =
      stopped stamp blocks _ w' _ c (ring_next (strike stamp blocks) f a b w w' _ h g.same e)
