-- A row walked sample by sample, and what it takes.
use mathlib.Core.Bool.{Bool, true, false, not, ◌||◌}
use mathlib.Core.List.{List, [], ◌∷◌, ◌++◌, map, map-append, append_assoc, append-nil}
use mathlib.Core.Path.{◌≡◌, refl, sym, ap, ◌∙◌}
use Prim.Native.Nat.{ℕ, suc, ◌+◌, ◌-◌, ◌≤◌, ◌<◌}
use native.Mathlib.Omega.{arith}
use borrow.Author.Tests.{lt-ltb, le-ltb}
use lib.Ieee.{Float}
use Rattle.rules.proofs.Branches.{no}
use Rattle.runs.specs.declared.Run.{Run}
use Rattle.runs.specs.Pieces.{Piece, pieces_of}
use Rattle.runs.specs.Inside.{Work, work, taken_all}
use Rattle.runs.proofs.Tallying.{taken_append}
use Rattle.halving.specs.declared.Stand.{Stand}
use Rattle.rows.specs.declared.Lane.{Lane}
use Rattle.rows.specs.Lanes.{between}
use Rattle.rows.specs.Stretches.{Ends, sampled, ended_at, stretches_from, stretches_of}
use Rattle.probe.specs.declared.Aim.{Aim}
use Rattle.probe.specs.Probe.{on_level, clear}
use Rattle.row_runs.specs.declared.Walked.{Walked}
use Rattle.row_runs.specs.Search.{pieces_along, empty}
use Rattle.row_runs.specs.Inside.{number_of, numbered, Ended, Advanced, Trodden}

sampled_next : (f : ℕ → Bool) (a s : ℕ) → a ≤ s → sampled f a (s + 1 - a) ≡ f a ∷ sampled f (a + 1) (s + 1 - (a + 1))
unfolding sampled
sampled_next f a s h = let e : s + 1 - a ≡ suc (s + 1 - (a + 1)) = omega arith in rw e

from_on : (k j : ℕ) (fs : List Bool) (b : Bool) → b ≡ true → stretches_from k j (b ∷ fs) ≡ stretches_from (k + 1) (j + 1) fs
unfolding stretches_from
from_on k j fs b e = rw e

from_off : (k j : ℕ) (fs : List Bool) (b : Bool) → b ≡ false → stretches_from k j (b ∷ fs) ≡ ended_at k j ++ stretches_from 0 (j + 1) fs
unfolding stretches_from
from_off k j fs b e = rw e

from_end : (k j s : ℕ) (f : ℕ → Bool) → s + 1 ≤ j → stretches_from k j (sampled f j (s + 1 - j)) ≡ ended_at k j
unfolding stretches_from sampled
from_end k j s f h = let e : s + 1 - j ≡ 0 = omega arith in rw e

-- ---- whether there is a stretch

pub empty_map : (f : Ends → Ends) (es : List Ends) → empty (map f es) ≡ empty es
unfolding empty
empty_map f [] = refl
empty_map f (e ∷ es) = refl

-- there was one before, or there is one in the list
abbrev had : Bool → List Ends → Bool
had b es = b || not (empty es)

had_append : (b : Bool) (xs ys : List Ends) → had b (xs ++ ys) ≡ had (had b xs) ys
unfolding empty
had_append true xs ys = refl
had_append false [] ys = refl
had_append false (x ∷ xs) ys = refl

had_none : (b : Bool) → b ≡ (b || false)
had_none true = refl
had_none false = refl

had_one : (b : Bool) → true ≡ (b || true)
had_one true = refl
had_one false = refl

module _ (under : Run → Float) (a : Aim) (l : Lane) where
  along_append : (xs ys : List Ends) → pieces_along under a l (xs ++ ys) ≡ pieces_along under a l xs ++ pieces_along under a l ys
  unfolding pieces_along
  along_append [] ys = refl
  along_append (x ∷ xs) ys =
      let q = pieces_of (clear under a) a.least 32 (between l x.from x.to) in
      ap (λ (ps : List Piece). q ++ ps) (along_append xs ys) ∙ sym (append_assoc q (pieces_along under a l xs) (pieces_along under a l ys))

  module _ (forward : Bool) where
    abbrev on : ℕ → Bool
    on j = on_level under a l (number_of forward l.samples j)

    abbrev far : List Ends → List Ends
    far es = map (numbered forward l.samples) es

    -- stretches taken
    abbrev took : Work → List Ends → Work
    took w es = taken_all w (pieces_along under a l (far es))

    took_append : (xs ys : List Ends) (w : Work) → took w (xs ++ ys) ≡ took (took w xs) ys
    took_append xs ys w =
        ap (λ (es : List Ends). taken_all w (pieces_along under a l es)) (map-append (numbered forward l.samples) xs ys)
        ∙ ap (taken_all w) (along_append (far xs) (far ys))
        ∙ taken_append (pieces_along under a l (far xs)) (pieces_along under a l (far ys)) w

    -- ---- a stretch that is too short, and one that is taken

    module _ (w : Walked) (t : List Float) (j : ℕ) where
      pub short_row : w.k ≤ 1 → Ended under a l forward j w t (record { k = 0; some = w.some; stand = w.stand }) t
      unfolding ended_at pieces_along taken_all empty
      short_row h = let e = le-ltb 1 w.k h in record { number = refl; some = rw e (had_none w.some); taken = rw e }

      pub long_row : (t' : List Float) (first last : ℕ) (r : Run) (s : Stand) → 1 < w.k → first ≡ number_of forward l.samples (j - w.k)
          → last ≡ number_of forward l.samples (j - 1) → r ≡ between l first last
          → work t' s.tally ≡ taken_all (work t w.stand.tally) (pieces_of (clear under a) a.least 32 r)
          → Ended under a l forward j w t (record { k = 0; some = true; stand = s }) t'
      unfolding ended_at pieces_along empty
      long_row t' first last r s h p q d x =
          let e = lt-ltb 1 w.k h in
          record {
            number = refl;
            some = rw e (had_one w.some);
            taken = x ∙ ap (taken_all (work t w.stand.tally)) (sym (append-nil (pieces_of (clear under a) a.least 32 r))) ∙ (rw (e, d, p, q));
          }

    -- ---- one sample, on the level and off it

    module _ (j : ℕ) (w : Walked) (t : List Float) (w' : Walked) (t' : List Float) (i : ℕ) (o : Bool) (p : i ≡ number_of forward l.samples j)
        (q : o ≡ on_level under a l i) where
      seen : on j ≡ o
      seen = ap (on_level under a l) (sym p) ∙ sym q

      pub advanced_on : o ≡ true → w'.k ≡ w.k + 1 → w'.some ≡ w.some → work t' w'.stand.tally ≡ work t w.stand.tally
          → Advanced under a l forward j w t w' t'
      advanced_on e x y z = record { on = λ _. (x, y, z); off = λ f. absurd (no (sym f ∙ seen ∙ e)) }

      pub advanced_off : (stamp : ℕ) → o ≡ false → Ended under a l forward j
          (record { k = w.k; some = w.some; stand = record { tally = w.stand.tally; stamp = stamp } }) t w' t' → Advanced under a l forward j w t w' t'
      advanced_off stamp e
          x = record { on = λ f. absurd (no (sym e ∙ sym seen ∙ f)); off = λ _. record { number = x.number; some = x.some; taken = x.taken } }

    -- ---- the whole row

    module _ (w₀ : Work) where
      -- what is left of the row, taken from where it stands, gives what the whole row gives from its start
      pub record Rowing (t : List Float) (w : Walked) (j : ℕ) : Type 0 where
        pub same : took (work t w.stand.tally) (stretches_from w.k j (sampled on j (l.samples + 1 - j))) ≡ took w₀ (stretches_of on l.samples)
        pub some : had w.some (stretches_from w.k j (sampled on j (l.samples + 1 - j))) ≡ not (empty (stretches_of on l.samples))
        pub low : w.k ≤ j

      module _ (t t' : List Float) (w w' : Walked) (j : ℕ) (h : j ≤ l.samples) (g : Rowing t w j) (v : Advanced under a l forward j w t w' t') where
        abbrev w₁ : Work
        w₁ = work t w.stand.tally

        abbrev rest : List Bool
        rest = sampled on (j + 1) (l.samples + 1 - (j + 1))

        next_on : on j ≡ true → stretches_from w.k j (sampled on j (l.samples + 1 - j)) ≡ stretches_from (w.k + 1) (j + 1) rest
        next_on e = ap (stretches_from w.k j) (sampled_next on j l.samples h) ∙ from_on w.k j rest (on j) e

        next_off : on j ≡ false → stretches_from w.k j (sampled on j (l.samples + 1 - j)) ≡ ended_at w.k j ++ stretches_from 0 (j + 1) rest
        next_off e = ap (stretches_from w.k j) (sampled_next on j l.samples h) ∙ from_off w.k j rest (on j) e

        pub rowing_goes : Rowing t' w' (j + 1)
        rowing_goes = by (on j) refl
          where
            by : (b : Bool) → on j ≡ b → Rowing t' w' (j + 1)
            by true e =
                let q = v.on e in
                record {
                  same =
                      ap (λ (x : Work). took x (stretches_from w'.k (j + 1) rest)) q.2
                      ∙ ap (λ (k : ℕ). took w₁ (stretches_from k (j + 1) rest)) q.0
                      ∙ ap (took w₁) (sym (next_on e))
                      ∙ g.same;
                  some =
                      ap (λ (b : Bool). had b (stretches_from w'.k (j + 1) rest)) q.1
                      ∙ ap (λ (k : ℕ). had w.some (stretches_from k (j + 1) rest)) q.0
                      ∙ ap (had w.some) (sym (next_on e))
                      ∙ g.some;
                  low = omega (arith, q.0, g.low);
                }
            by false e =
                let q = v.off e in
                record {
                  same =
                      ap (λ (x : Work). took x (stretches_from w'.k (j + 1) rest)) q.taken
                      ∙ ap (λ (k : ℕ). took (took w₁ (ended_at w.k j)) (stretches_from k (j + 1) rest)) q.number
                      ∙ sym (took_append (ended_at w.k j) (stretches_from 0 (j + 1) rest) w₁)
                      ∙ ap (took w₁) (sym (next_off e))
                      ∙ g.same;
                  some =
                      ap (λ (b : Bool). had b (stretches_from w'.k (j + 1) rest)) q.some
                      ∙ ap (λ (k : ℕ). had (had w.some (ended_at w.k j)) (stretches_from k (j + 1) rest)) q.number
                      ∙ sym (had_append w.some (ended_at w.k j) (stretches_from 0 (j + 1) rest))
                      ∙ ap (had w.some) (sym (next_off e))
                      ∙ g.some;
                  low = omega (arith, q.number, g.low);
                }

    pub rowing_starts : (t : List Float) (s : Stand) → Rowing (work t s.tally) t (record { k = 0; some = false; stand = s }) 0
    unfolding stretches_of
    rowing_starts t s = let e : l.samples + 1 - 0 ≡ l.samples + 1 = omega arith in record { same = rw e; some = rw e; low = omega arith }

    pub rowing_ends : (t₀ : List Float) (s : Stand) (t t' : List Float) (w w' : Walked) (j : ℕ) → l.samples + 1 ≤ j → Rowing (work t₀ s.tally) t w j
        → Ended under a l forward j w t w' t' → Trodden under a l (far (stretches_of on l.samples)) t₀ s t' w'
    rowing_ends t₀ s t t' w w' j h g e =
        let q = from_end w.k j l.samples on h in
        record {
          some = e.some ∙ ap (had w.some) (sym q) ∙ g.some ∙ ap not (sym (empty_map (numbered forward l.samples) (stretches_of on l.samples)));
          taken = e.taken ∙ ap (took (work t w.stand.tally)) (sym q) ∙ g.same;
        }
