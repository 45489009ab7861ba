-- Halving over a stack: the pieces that wait, taken from where the search stands, give what the whole run's pieces give from its start.
use mathlib.Core.Bool.{Bool, true, false, cond, not}
use mathlib.Core.List.{List, [], ◌∷◌, ◌++◌, append_assoc, append-nil}
use mathlib.Core.Logic.{◌⊎◌, inl, inr, ⊎_elim}
use mathlib.Core.Path.{◌≡◌, refl, sym, ap, ◌∙◌}
use Prim.Native.Nat.{ℕ, zero, suc, ◌+◌, ◌-◌, ◌≤◌, ◌<◌}
use native.Mathlib.Numerals.{add-one}
use native.Mathlib.Omega.{arith}
use borrow.Author.Tests.{eq-eqb, ne_eqb, eqb-true, eqb-false}
use lib.Dec.{eqb}
use lib.Ieee.{Float, nan, le}
use lib.ListN.{length, get_or, set, length-set}
use lib.Seq.{get_or-set_same, get_or-set_other}
use Rattle.numbers.specs.Reals.{num}
use Rattle.runs.specs.declared.Run.{Run}
use Rattle.runs.specs.Runs.{length_of}
use Rattle.runs.specs.Pieces.{Piece, piece, pieces_of, first_half, second_half}
use Rattle.runs.specs.Inside.{Work, taken_by, taken_all}
use Rattle.probe.specs.Inside.{splits_of}

clash : {A : Type 0} → true ≡ false → A
clash e = let z : ◌≡◌ {A = ℕ} (cond true 1 0) (cond false 1 0) = ap {B = ℕ} (λ b. cond b 1 0) e in absurd (omega arith)

-- where a waiting piece ends, and how often it may still be halved
pub record End : Type 0 where
  pub x : Float
  pub y : Float
  pub left : ℕ

-- the stack, its top first
unfoldable pub stack_of : List Float → List Float → List ℕ → ℕ → List End
stack_of bx by left zero = []
stack_of bx by left (suc t) = record { x = num bx t; y = num by t; left = get_or left t 0 } ∷ stack_of bx by left t

abbrev pub from : Float → Float → Float → End → Run
from ax ay z e = record { ax = ax; ay = ay; bx = e.x; by = e.y; z = z }

-- how many turns a stack takes at most
unfoldable pub nodes : ℕ → ℕ
nodes zero = 1
nodes (suc n) = 1 + nodes n + nodes n

unfoldable pub weight : List End → ℕ
weight [] = 0
weight (e ∷ es) = nodes e.left + weight es

on_or_off : (b : Bool) → (b ≡ true) ⊎ (b ≡ false)
on_or_off true = inl refl
on_or_off false = inr refl

nodes_some : (n : ℕ) → 0 < nodes n
unfolding nodes
nodes_some zero = omega arith
nodes_some (suc n) = omega arith

nodes_more : (n : ℕ) → 0 < n → nodes n ≡ 1 + nodes (n - 1) + nodes (n - 1)
unfolding nodes
nodes_more zero h = absurd (omega arith)
nodes_more (suc n) h = let e : suc n - 1 ≡ n = omega arith in rw e

stack_same : (bx by bx' by' : List Float) (left left' : List ℕ) (t : ℕ) → ((i : ℕ) → i < t → num bx' i ≡ num bx i) → ((i : ℕ) → i < t → num by' i ≡ num by i)
    → ((i : ℕ) → i < t → get_or left' i 0 ≡ get_or left i 0) → stack_of bx' by' left' t ≡ stack_of bx by left t
unfolding stack_of
stack_same bx by bx' by' left left' zero p q r = refl
stack_same bx by bx' by' left left' (suc t) p q r =
    rw (
      p t (omega arith),
      q t (omega arith),
      r t (omega arith),
      stack_same bx by bx' by' left left' t (λ i h. p i (omega arith)) (λ i h. q i (omega arith)) (λ i h. r i (omega arith)),
    )

module _ (clear : Run → Bool) (least : Float) (z : Float) where
  -- the pieces of all that wait, the first from (ax, ay)
  unfoldable pub waiting : Float → Float → List End → List Piece
  waiting ax ay [] = []
  waiting ax ay (e ∷ es) = pieces_of clear least e.left (from ax ay z e) ++ waiting e.x e.y es

-- the three arrays and the stack in them
pub record Stacked (bx by : List Float) (left : List ℕ) (top : ℕ) : Type 0 where
  pub xs : length bx ≡ 33
  pub ys : length by ≡ 33
  pub ls : length left ≡ 33
  pub deep : (i : ℕ) → i < top → i + get_or left i 0 ≤ 32

-- a piece that is not halved, and one that is
module _ (clear : Run → Bool) (least : Float) where
  pub pieces_one : (k : ℕ) (r : Run) → splits_of (clear r) least k r ≡ false → pieces_of clear least k r ≡ piece r (clear r) ∷ []
  unfolding pieces_of splits_of
  pieces_one zero r e = refl
  pieces_one (suc k) r e = by (clear r) (le (length_of r) least) e
    where
      by : (b c : Bool) → cond b false (cond (eqb (suc k) 0) false (not c)) ≡ false → cond b (piece r true ∷ [])
          (cond c (piece r false ∷ []) (pieces_of clear least k (first_half r) ++ pieces_of clear least k (second_half r))) ≡ piece r b ∷ []
      by true c p = refl
      by false true p = refl
      by false false p = clash (rw (ne_eqb (suc k) 0 (λ q. omega arith)) at p)

  pub pieces_two : (k : ℕ) (r : Run) → splits_of (clear r) least k r ≡ true
      → (0 < k) × (pieces_of clear least k r ≡ pieces_of clear least (k - 1) (first_half r) ++ pieces_of clear least (k - 1) (second_half r))
  unfolding pieces_of splits_of
  pieces_two zero r e = by (clear r) e
    where
      by : (b : Bool) → cond b false (cond (eqb 0 0) false (not (le (length_of r) least))) ≡ true
          → (0 < 0) × (piece r b ∷ [] ≡ pieces_of clear least (0 - 1) (first_half r) ++ pieces_of clear least (0 - 1) (second_half r))
      by true p = clash (sym p)
      by false p = clash (sym (rw (eq-eqb 0 0 refl) at p))
  pieces_two (suc k) r e = (omega arith, rw m (by (clear r) (le (length_of r) least) e))
    where
      m : suc k - 1 ≡ k
      m = omega arith

      by : (b c : Bool) → cond b false (cond (eqb (suc k) 0) false (not c)) ≡ true
          → cond b (piece r true ∷ []) (cond c (piece r false ∷ []) (pieces_of clear least k (first_half r) ++ pieces_of clear least k (second_half r)))
          ≡ pieces_of clear least k (first_half r) ++ pieces_of clear least k (second_half r)
      by true c p = clash (sym p)
      by false true p = clash (sym (rw (ne_eqb (suc k) 0 (λ q. omega arith)) at p))
      by false false p = refl

-- ---- one turn

module _ (clear : Run → Bool) (least z : Float) (bx by : List Float) (left : List ℕ) (t : ℕ) (ax ay : Float) where
  abbrev k : ℕ
  k = get_or left t 0

  abbrev r : Run
  r = record { ax = ax; ay = ay; bx = num bx t; by = num by t; z = z }

  -- the piece on top is taken, and the next begins where it ends
  pub stack_takes : (w w' : Work) (all : Work) → splits_of (clear r) least k r ≡ false → taken_all w (waiting clear least z ax ay (stack_of bx by left (t + 1)))
      ≡ all → w' ≡ taken_by w.table w.tally r (clear r) → taken_all w' (waiting clear least z (num bx t) (num by t) (stack_of bx by left t)) ≡ all
  unfolding stack_of waiting taken_all
  stack_takes w w' all e g p =
      let g' : taken_all w (pieces_of clear least k r ++ waiting clear least z (num bx t) (num by t) (stack_of bx by left t)) ≡ all = rw (add-one t) at g in
      let o = pieces_one clear least k r e in
      ap (λ (v : Work). taken_all v (waiting clear least z (num bx t) (num by t) (stack_of bx by left t))) p
      ∙ ap (λ (ps : List Piece). taken_all w (ps ++ waiting clear least z (num bx t) (num by t) (stack_of bx by left t))) (sym o)
      ∙ g'

  pub takes_less : weight (stack_of bx by left t) < weight (stack_of bx by left (t + 1))
  unfolding stack_of weight
  takes_less = rw (add-one t) (let n = nodes_some k in omega arith)

  -- the piece on top is halved
  module _ (top : ℕ) (e : top ≡ t + 1) (s : Stacked bx by left top) (h : splits_of (clear r) least k r ≡ true) where
    pub some_left : 0 < k
    some_left = (pieces_two clear least k r h).0

    deep_here : t + k ≤ 32
    deep_here = s.deep t (omega arith)

    abbrev bx' : List Float
    bx' = set bx top (first_half r).bx

    abbrev by' : List Float
    by' = set by top (first_half r).by

    abbrev left' : List ℕ
    left' = set (set left t (k - 1)) top (k - 1)

    pub split_fits : top < 33
    split_fits = omega (arith, some_left, deep_here)

    left_top : get_or left' top 0 ≡ k - 1
    left_top = get_or-set_same (set left t (k - 1)) top (k - 1) 0 (rw (length-set left t (k - 1)) (omega (arith, split_fits, s.ls)))

    left_t : get_or left' t 0 ≡ k - 1
    left_t = get_or-set_other (set left t (k - 1)) top t (k - 1) 0 (λ q. omega arith) ∙ get_or-set_same left t (k - 1) 0 (omega (arith, split_fits, s.ls))

    left_else : (i : ℕ) → i < t → get_or left' i 0 ≡ get_or left i 0
    left_else i l = get_or-set_other (set left t (k - 1)) top i (k - 1) 0 (λ q. omega arith) ∙ get_or-set_other left t i (k - 1) 0 (λ q. omega arith)

    pub split_stacked : Stacked bx' by' left' (top + 1)
    split_stacked =
        record {
          xs = length-set bx top _ ∙ s.xs;
          ys = length-set by top _ ∙ s.ys;
          ls = length-set (set left t (k - 1)) top (k - 1) ∙ length-set left t (k - 1) ∙ s.ls;
          deep = λ i l.
              ⊎_elim
              (λ (q : eqb i top ≡ true). let w = eqb-true i top q in rw (w, left_top) (omega (arith, some_left, deep_here)))
              (λ (q : eqb i top ≡ false).
              let w = eqb-false i top q in
              ⊎_elim
              (λ (u : eqb i t ≡ true). let v = eqb-true i t u in rw (v, left_t) (omega (arith, some_left, deep_here)))
              (λ (u : eqb i t ≡ false). let v = eqb-false i t u in rw (left_else i (omega arith)) (s.deep i (omega arith)))
              (on_or_off (eqb i t)))
              (on_or_off (eqb i top));
        }

    split_stack : stack_of bx' by' left' (top + 1)
        ≡ record { x = (first_half r).bx; y = (first_half r).by; left = k - 1 } ∷ record { x = num bx t; y = num by t; left = k - 1 } ∷ stack_of bx by left t
    unfolding stack_of
    split_stack =
        let u : top + 1 ≡ suc (suc t) = omega arith in
        let v : suc t ≡ top = omega arith in
        rw (
          u,
          v,
          get_or-set_same bx top (first_half r).bx nan (omega (arith, split_fits, s.xs)),
          get_or-set_same by top (first_half r).by nan (omega (arith, split_fits, s.ys)),
          left_top,
          get_or-set_other bx top t (first_half r).bx nan (λ q. omega arith),
          get_or-set_other by top t (first_half r).by nan (λ q. omega arith),
          left_t,
          stack_same bx by bx' by' left left' t (λ i l. get_or-set_other bx top i (first_half r).bx nan (λ q. omega arith))
              (λ i l. get_or-set_other by top i (first_half r).by nan (λ q. omega arith)) left_else,
        )

    pub stack_splits : (w all : Work) → taken_all w (waiting clear least z ax ay (stack_of bx by left top)) ≡ all
        → taken_all w (waiting clear least z ax ay (stack_of bx' by' left' (top + 1))) ≡ all
    unfolding stack_of waiting
    stack_splits w all g =
        let g' : taken_all w (pieces_of clear least k r ++ waiting clear least z (num bx t) (num by t) (stack_of bx by left t)) ≡ all = rw (e, add-one t) at g in
        let o = (pieces_two clear least k r h).1 in
        ap (λ (es : List End). taken_all w (waiting clear least z ax ay es)) split_stack
        ∙ ap (taken_all w) (sym (append_assoc (pieces_of clear least (k - 1) (first_half r)) (pieces_of clear least (k - 1) (second_half r))
        (waiting clear least z (num bx t) (num by t) (stack_of bx by left t))))
        ∙ ap (λ (ps : List Piece). taken_all w (ps ++ waiting clear least z (num bx t) (num by t) (stack_of bx by left t))) (sym o)
        ∙ g'

    pub splits_less : weight (stack_of bx' by' left' (top + 1)) < weight (stack_of bx by left top)
    unfolding weight
    splits_less =
        let n = nodes_more k some_left in
        rw (split_stack, e, add-one t) (unfold stack_of in omega arith)

-- ---- the first and the last turn

pub stack_ends : (clear : Run → Bool) (least z : Float) (bx by : List Float) (left : List ℕ) (top : ℕ) (ax ay : Float) (w all : Work) → top ≡ 0
    → taken_all w (waiting clear least z ax ay (stack_of bx by left top)) ≡ all → w ≡ all
unfolding stack_of waiting taken_all
stack_ends clear least z bx by left top ax ay w all e g = rw e at g

pub waiting_first : (clear : Run → Bool) (least : Float) (r : Run) (bx by : List Float) (left : List ℕ) → num bx 0 ≡ r.bx → num by 0 ≡ r.by
    → get_or left 0 0 ≡ 32 → waiting clear least r.z r.ax r.ay (stack_of bx by left 1) ≡ pieces_of clear least 32 r
unfolding stack_of waiting
waiting_first clear least r bx by left p q s = rw (p, q, s) (append-nil (pieces_of clear least 32 r))

pub stacked_less : (bx by : List Float) (left : List ℕ) (top t : ℕ) → t ≤ top → Stacked bx by left top → Stacked bx by left t
stacked_less bx by left top t h s = record { xs = s.xs; ys = s.ys; ls = s.ls; deep = λ i l. s.deep i (omega arith) }

-- the stack's top, counted from the entry below it
pub falls : (bx by : List Float) (left : List ℕ) (top t : ℕ) → top ≡ t + 1 → weight (stack_of bx by left t) < weight (stack_of bx by left (t + 1))
    → weight (stack_of bx by left t) < weight (stack_of bx by left top)
falls bx by left top t e h = rw e h

pub one_more : (clear : Run → Bool) (least z : Float) (bx by : List Float) (left : List ℕ) (top t : ℕ) (ax ay : Float) (w all : Work) → top ≡ t + 1
    → taken_all w (waiting clear least z ax ay (stack_of bx by left top)) ≡ all → taken_all w (waiting clear least z ax ay (stack_of bx by left (t + 1))) ≡ all
one_more clear least z bx by left top t ax ay w all e g = rw e at g
