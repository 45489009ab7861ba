-- The pieces of a run lead from its first point to its last, however often it is halved.
use mathlib.Core.Bool.{Bool, true, false}
use mathlib.Core.List.{List, [], ◌∷◌, ◌++◌, append_assoc}
use mathlib.Core.Path.{◌≡◌, refl, sym, ap, subst}
use Prim.Native.Nat.{ℕ, zero, suc}
use lib.Ieee.{Float, le}
use Rattle.rules.proofs.Branches.{either, by_test, no}
use Rattle.fives.specs.Groups.{grouping, grouped, Each}
use Rattle.fives.proofs.Grouping.{each_parts}
use Rattle.runs.specs.Runs.{length_of, touches_of, lengthened, joined_of}
use Rattle.runs.specs.Pieces.{Piece, piece, pieces_of, first_half, second_half, kept_of}
use Rattle.runs.specs.Chains.{Point, first_of, last_of, Chained, EachKept, Whole, Joins, LieIn, MadeOf}
use Rattle.runs.specs.declared.Run.{Run}

pub chained_append : (ps qs : List Piece) (a m b : Point) → Chained a ps m → Chained m qs b → Chained a (ps ++ qs) b
unfolding Chained
chained_append [] qs a m b c d = subst (λ (x : Point). Chained x qs b) (sym c) d
chained_append (p ∷ ps) qs a m b c d = (c.0, chained_append ps qs (last_of p.run) m b c.1 d)

module _ (P : Run → Type 0) where
  pub each_append : (ps qs : List Piece) → EachKept P ps → EachKept P qs → EachKept P (ps ++ qs)
  unfolding EachKept
  each_append [] qs c d = d
  each_append (p ∷ ps) qs c d = (c.0, each_append ps qs c.1 d)

  pub each_more : (Q : Run → Type 0) → ((r : Run) → P r → Q r) → (ps : List Piece) → EachKept P ps → EachKept Q ps
  unfolding EachKept
  each_more Q f [] c = tt
  each_more Q f (p ∷ ps) c = ((λ k. f p.run (c.0 k)), each_more Q f ps c.1)

  pub each_both : (Q : Run → Type 0) (ps : List Piece) → EachKept P ps → EachKept Q ps → EachKept (λ r. P r × Q r) ps
  unfolding EachKept
  each_both Q [] c d = tt
  each_both Q (p ∷ ps) c d = ((λ k. (c.0 k, d.0 k)), each_both Q ps c.1 d.1)

  -- what a run hands on to both its halves, it hands on to its pieces
  pub handed_on : ((r : Run) → P r → P (first_half r) × P (second_half r))
      → (clear : Run → Bool) (least : Float) (left : ℕ) (r : Run) → P r → EachKept P (pieces_of clear least left r)
  unfolding pieces_of EachKept
  handed_on f clear least zero r p = ((λ _. p), tt)
  handed_on f clear least (suc left) r p =
      let h = f r p in
      let halves =
      each_append (pieces_of clear least left (first_half r)) (pieces_of clear least left (second_half r))
      (handed_on f clear least left (first_half r) h.0) (handed_on f clear least left (second_half r) h.1) in
      either (EachKept P) (clear r) _ _ (λ _. ((λ _. p), tt)) (λ _. either (EachKept P) (le (length_of r) least) _ _ (λ _. ((λ _. p), tt)) (λ _. halves))

module _ (clear : Run → Bool) (least : Float) where
  one : (r : Run) (k : Bool) → (k ≡ true → clear r ≡ true) → Whole clear r (piece r k ∷ [])
  unfolding Chained EachKept
  one r k f = record { chained = (refl, refl); kept = (f, tt) }

  both : (r : Run) (ps qs : List Piece) → Whole clear (first_half r) ps → Whole clear (second_half r) qs → Whole clear r (ps ++ qs)
  both r ps qs f s =
      record {
        chained = chained_append ps qs (first_of r) (last_of (first_half r)) (last_of r) f.chained s.chained;
        kept = each_append (λ q. clear q ≡ true) ps qs f.kept s.kept;
      }

  pub whole : (left : ℕ) (r : Run) → Whole clear r (pieces_of clear least left r)
  unfolding pieces_of
  whole zero r = one r (clear r) (λ k. k)
  whole (suc left) r =
      let halves = both r (pieces_of clear least left (first_half r)) (pieces_of clear least left (second_half r)) (whole left (first_half r))
      (whole left (second_half r)) in
      by_test (clear r)
      (λ (c : clear r ≡ true). rw c (one r true (λ k. c)))
      (λ (c : clear r ≡ false).
      by_test (le (length_of r) least)
      (λ (s : le (length_of r) least ≡ true). rw (c, s) (one r false (λ k. absurd (no k))))
      (λ (s : le (length_of r) least ≡ false). rw (c, s) halves))

-- ---- what joining does to a list

joins_more : (g : Run) (rs : List Run) (j r : Run) → Joins g rs j → touches_of j r ≡ true → Joins g (rs ++ r ∷ []) (lengthened j r)
unfolding Joins
joins_more g [] j r e t = (subst (λ (x : Run). touches_of x r ≡ true) (sym e) t, ap (λ (x : Run). lengthened x r) e)
joins_more g (s ∷ rs) j r e t = (e.0, joins_more (lengthened g s) rs j r e.1 t)

-- the runs r and rs make g, which is open
opened_lie : (bs : List Run) (r : Run) (rs : List Run) (g : Run) → Joins r rs g → LieIn (r ∷ rs ++ bs) (grouping touches_of lengthened (λ r. r) g bs)
unfolding grouping
opened_lie [] r rs g e = LieIn.part r rs [] g [] e LieIn.none
opened_lie (b ∷ bs) r rs g e =
    let grown : touches_of g b ≡ true → LieIn (r ∷ (rs ++ b ∷ []) ++ bs) (grouping touches_of lengthened (λ r. r) (lengthened g b) bs) =
    λ t. opened_lie bs r (rs ++ b ∷ []) (lengthened g b) (joins_more r rs g b e t) in
    let next = opened_lie bs b [] b (unfold Joins in refl) in
    by_test (touches_of g b)
    (λ (t : touches_of g b ≡ true). rw t
    (subst (λ (l : List Run). LieIn (r ∷ l) (grouping touches_of lengthened (λ r. r) (lengthened g b) bs)) (append_assoc rs (b ∷ []) bs) (grown t)))
    (λ (t : touches_of g b ≡ false). rw t (LieIn.part r rs (b ∷ bs) g _ e next))

pub joined_lie : (rs : List Run) → LieIn rs (joined_of rs)
unfolding joined_of grouped
joined_lie [] = LieIn.none
joined_lie (r ∷ rs) = opened_lie rs r [] r (unfold Joins in refl)

-- and what is said of every kept piece, is said of the runs that make a joined one
module _ (P : Run → Type 0) where
  pub kept_each : (ps : List Piece) → EachKept P ps → Each P (kept_of ps)
  unfolding EachKept kept_of Each
  kept_each [] c = tt
  kept_each (p ∷ ps) c = either (Each P) p.kept (p.run ∷ kept_of ps) (kept_of ps) (λ k. (c.0 k, kept_each ps c.1)) (λ _. kept_each ps c.1)

  pub lie_made : (rs js : List Run) → LieIn rs js → Each P rs → Each (MadeOf P) js
  unfolding Each
  lie_made rs js LieIn.none a = tt
  lie_made rs js (LieIn.part r ts rest j ks e l) a =
      let b = each_parts P ts rest a.1 in
      (record { first = r; rest = ts; joins = e; each = (a.0, b.0) }, lie_made rest ks l b.1)
