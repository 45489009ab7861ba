-- Laws of the tally: what stands in the table and in the tally once some pieces are taken.
use mathlib.Core.Bool.{Bool, true, false, cond}
use mathlib.Core.List.{List, [], ◌∷◌, ◌++◌, map, append_assoc, append-nil}
use mathlib.Core.Logic.{◌⊎◌, inl, inr, ⊎_elim}
use mathlib.Core.Path.{◌≡◌, refl, sym, ap, ◌∙◌}
use Prim.Native.Nat.{ℕ, ◌+◌, ◌*◌, ◌/◌, ◌≤◌, ◌<◌, min}
use native.Mathlib.Omega.{arith}
use borrow.Author.Tests.{lt-leb, leb-true, leb-false}
use lib.Dec.{leb}
use lib.Ieee.{Float}
use lib.ListN.{length, length-append}
use Rattle.numbers.specs.Reals.{◌⊕◌, f0}
use Rattle.rules.proofs.Branches.{left}
use Rattle.fives.specs.Tables.{room_of, put_at, written}
use Rattle.fives.specs.Groups.{grouped}
use Rattle.fives.proofs.Writing.{written_more, written_length}
use Rattle.fives.proofs.Grouping.{Opened, opened_first, opened_joins, opened_next, opened_ends}
use Rattle.runs.specs.Runs.{length_of, touches_of, lengthened, joined_of, summed, cut_of, five_of}
use Rattle.runs.specs.Pieces.{Piece, piece, kept_of, dropped_by}
use Rattle.runs.specs.Inside.{Work, work, on_to, closed_of, kept_by, left_by, taken_by, taken_all, begun}
use Rattle.runs.specs.declared.Run.{Run}
use Rattle.runs.specs.declared.Tally.{Tally}

on_or_off : (b : Bool) → (b ≡ true) ⊎ (b ≡ false)
on_or_off true = inl refl
on_or_off false = inr refl

pub closed_is : (t t' : List Float) (y : Tally) (more : ℕ) (len : Float) → y.some ≡ true
    → t' ≡ put_at t y.count (five_of y.last) → more ≡ on_to (room_of t) y.count → len ≡ length_of y.last
    → work t' (record { some = false; last = y.last; count = more; cut = y.cut ⊕ len; dropped = y.dropped }) ≡ closed_of t y
unfolding closed_of
closed_is t t' y more len e p q r = rw (e, p, q, r)

pub closed_none : (t : List Float) (y : Tally) → y.some ≡ false → work t y ≡ closed_of t y
unfolding closed_of
closed_none t y e = left _ _ _ _ e refl

pub taken_append : (ps qs : List Piece) (w : Work) → taken_all w (ps ++ qs) ≡ taken_all (taken_all w ps) qs
unfolding taken_all
taken_append [] qs w = refl
taken_append (p ∷ ps) qs w = taken_append ps qs (taken_by w.table w.tally p.run p.kept)

summed_more : (sum : Float) (rs : List Run) (r : Run) → summed sum (rs ++ r ∷ []) ≡ summed sum rs ⊕ length_of r
unfolding summed
summed_more sum [] r = refl
summed_more sum (s ∷ rs) r = summed_more (sum ⊕ length_of s) rs r

kept_append : (ps qs : List Piece) → kept_of (ps ++ qs) ≡ kept_of ps ++ kept_of qs
unfolding kept_of
kept_append [] qs = refl
kept_append (p ∷ ps) qs = by p.kept (kept_append ps qs)
  where
    by : (b : Bool) → kept_of (ps ++ qs) ≡ kept_of ps ++ kept_of qs
        → cond b (p.run ∷ kept_of (ps ++ qs)) (kept_of (ps ++ qs)) ≡ cond b (p.run ∷ kept_of ps) (kept_of ps) ++ kept_of qs
    by true r = ap (λ (l : List Run). p.run ∷ l) r
    by false r = r

dropped_append : (sum : Float) (ps : List Piece) (q : Piece)
    → dropped_by sum (ps ++ q ∷ []) ≡ cond q.kept (dropped_by sum ps) (dropped_by sum ps ⊕ length_of q.run)
unfolding dropped_by
dropped_append sum [] q = refl
dropped_append sum (p ∷ ps) q = dropped_append (cond p.kept sum (sum ⊕ length_of p.run)) ps q

-- what stands after the pieces ps: the runs `done` are written, and the open one, if there is one, is the last
pub record Tallied (t₀ : List Float) (ps : List Piece) (w : Work) : Type 0 where
  pub done : List Run
  pub table : w.table ≡ written (map five_of done) t₀
  pub count : w.tally.count ≡ min (length done) (room_of t₀ + 1)
  pub cut : w.tally.cut ≡ summed f0 done
  pub dropped : w.tally.dropped ≡ dropped_by f0 ps
  pub last : cond w.tally.some (Opened touches_of lengthened (λ r. r) (kept_of ps) done w.tally.last) ((kept_of ps ≡ []) × (done ≡ []))

pub tallied_starts : (t₀ : List Float) → Tallied t₀ [] (work t₀ begun)
unfolding written summed dropped_by kept_of
tallied_starts t₀ = record { done = []; table = refl; count = omega arith; cut = refl; dropped = refl; last = (refl, refl) }

-- what stands once the open run is written too
pub record Written (t₀ : List Float) (ps : List Piece) (w : Work) : Type 0 where
  pub table : w.table ≡ written (map five_of (joined_of (kept_of ps))) t₀
  pub count : w.tally.count ≡ min (length (joined_of (kept_of ps))) (room_of t₀ + 1)
  pub cut : w.tally.cut ≡ cut_of (joined_of (kept_of ps))
  pub dropped : w.tally.dropped ≡ dropped_by f0 ps

module _ (t₀ : List Float) where
  -- one run more in the table, as long as there is room
  room_kept : (done : List Run) (t : List Float) → t ≡ written (map five_of done) t₀ → room_of t ≡ room_of t₀
  room_kept done t e = ap (λ (n : ℕ). n / 5) (ap length e ∙ written_length five_of (λ _. refl) done t₀)

  put_past : (t : List Float) (m n : ℕ) (v : List Float) → room_of t ≤ m → room_of t ≤ n → put_at t m v ≡ put_at t n v
  unfolding put_at
  put_past t m n v h k =
      rw (lt-leb (m * 5 + 5) (length t) (omega arith), lt-leb (n * 5 + 5) (length t) (omega arith))

  pub written_next : (done : List Run) (r : Run) (t : List Float) (count : ℕ) → t ≡ written (map five_of done) t₀ → count ≡ min (length done) (room_of t₀ + 1) →
      (put_at t count (five_of r) ≡ written (map five_of (done ++ r ∷ [])) t₀) × (on_to (room_of t) count ≡ min (length (done ++ r ∷ [])) (room_of t₀ + 1))
  unfolding on_to
  written_next done r t count e c =
      let k = room_kept done t e in
      let m = written_more five_of (λ _. refl) done r t₀ in
      let n = length-append done (r ∷ []) in
      ⊎_elim
      (λ (p : leb count (room_of t) ≡ true).
      let q : count ≤ room_of t = leb-true count (room_of t) p in
      let d : count ≡ length done = omega arith in
      (rw (m, d, e), rw p (omega arith)))
      (λ (p : leb count (room_of t) ≡ false).
      let q : room_of t < count = leb-false count (room_of t) p in
      (rw m (put_past t count (length done) (five_of r) (omega arith) (omega arith) ∙ (rw e)), rw p (omega arith)))
      (on_or_off _)

  abbrev tally : Bool → Run → ℕ → Float → Float → Tally
  tally b l n c d = record { some = b; last = l; count = n; cut = c; dropped = d }

  module _ (ps : List Piece) (t : List Float) (l : Run) (n : ℕ) (c d : Float) (r : Run) where
    kept_more : kept_of (ps ++ piece r true ∷ []) ≡ kept_of ps ++ r ∷ []
    unfolding kept_of
    kept_more = kept_append ps (piece r true ∷ [])

    left_more : kept_of (ps ++ piece r false ∷ []) ≡ kept_of ps
    unfolding kept_of
    left_more = kept_append ps (piece r false ∷ []) ∙ append-nil (kept_of ps)

    -- a run dropped
    drops : (b : Bool) → Tallied t₀ ps (work t (tally b l n c d)) → Tallied t₀ (ps ++ piece r false ∷ []) (work t (left_by (tally b l n c d) r))
    unfolding left_by
    drops b g =
        record {
          done = g.done;
          table = g.table;
          count = g.count;
          cut = g.cut;
          dropped = ap (λ (x : Float). x ⊕ length_of r) g.dropped ∙ sym (dropped_append f0 ps (piece r false));
          last = rw left_more g.last;
        }

    -- the first run kept
    begins : Tallied t₀ ps (work t (tally false l n c d)) → Tallied t₀ (ps ++ piece r true ∷ []) (work t (tally true r n c d))
    begins g =
        record {
          done = [];
          table = g.table ∙ ap (λ (x : List Run). written (map five_of x) t₀) g.last.1;
          count = g.count ∙ ap (λ (x : List Run). min (length x) (room_of t₀ + 1)) g.last.1;
          cut = g.cut ∙ ap (summed f0) g.last.1;
          dropped = g.dropped ∙ sym (dropped_append f0 ps (piece r true));
          last = rw (kept_more, g.last.0) (opened_first touches_of lengthened (λ r. r) r);
        }

    -- a run that touches the open one, and one that does not
    grows : Tallied t₀ ps (work t (tally true l n c d)) → touches_of l r ≡ true
        → Tallied t₀ (ps ++ piece r true ∷ []) (work t (tally true (lengthened l r) n c d))
    grows g e =
        record {
          done = g.done;
          table = g.table;
          count = g.count;
          cut = g.cut;
          dropped = g.dropped ∙ sym (dropped_append f0 ps (piece r true));
          last = rw kept_more (opened_joins touches_of lengthened (λ r. r) (kept_of ps) g.done l r g.last e);
        }

    opens : Tallied t₀ ps (work t (tally true l n c d)) → touches_of l r ≡ false
        → Tallied t₀ (ps ++ piece r true ∷ []) (work (put_at t n (five_of l)) (tally true r (on_to (room_of t) n) (c ⊕ length_of l) d))
    opens g e =
        let w = written_next g.done l t n g.table g.count in
        record {
          done = g.done ++ l ∷ [];
          table = w.0;
          count = w.1;
          cut = ap (λ (x : Float). x ⊕ length_of l) g.cut ∙ sym (summed_more f0 g.done l);
          dropped = g.dropped ∙ sym (dropped_append f0 ps (piece r true));
          last = rw kept_more (opened_next touches_of lengthened (λ r. r) (kept_of ps) g.done l r g.last e);
        }

    keeps : (b : Bool) → Tallied t₀ ps (work t (tally b l n c d)) → Tallied t₀ (ps ++ piece r true ∷ []) (kept_by t (tally b l n c d) r)
    unfolding kept_by closed_of
    keeps false g = begins g
    keeps true g = by (touches_of l r) refl
      where
        by : (b : Bool) → touches_of l r ≡ b → Tallied t₀ (ps ++ piece r true ∷ [])
            (cond b (work t (tally true (lengthened l r) n c d)) (work (put_at t n (five_of l)) (tally true r (on_to (room_of t) n) (c ⊕ length_of l) d)))
        by true e = grows g e
        by false e = opens g e

  -- one piece more
  pub tallied_goes : (ps : List Piece) (w : Work) (r : Run) (b : Bool) → Tallied t₀ ps w → Tallied t₀ (ps ++ piece r b ∷ []) (taken_by w.table w.tally r b)
  unfolding taken_by
  tallied_goes ps w r true g = keeps ps w.table w.tally.last w.tally.count w.tally.cut w.tally.dropped r w.tally.some g
  tallied_goes ps w r false g = drops ps w.table w.tally.last w.tally.count w.tally.cut w.tally.dropped r w.tally.some g

  pub tallied_all : (ps qs : List Piece) (w : Work) → Tallied t₀ ps w → Tallied t₀ (ps ++ qs) (taken_all w qs)
  unfolding taken_all
  tallied_all ps [] w g = rw (append-nil ps) g
  tallied_all ps (q ∷ qs) w g = rw (← (append_assoc ps (q ∷ []) qs)) (tallied_all (ps ++ q ∷ []) qs _ (tallied_goes ps w q.run q.kept g))

  ends : (ps : List Piece) (t : List Float) (l : Run) (n : ℕ) (c d : Float) (b : Bool) → Tallied t₀ ps (work t (tally b l n c d))
      → Written t₀ ps (closed_of t (tally b l n c d))
  unfolding closed_of joined_of
  ends ps t l n c d false g =
      let e : joined_of (kept_of ps) ≡ g.done = ap joined_of g.last.0 ∙ (unfold grouped in sym g.last.1) in
      record { table = rw e g.table; count = rw e g.count; cut = rw e g.cut; dropped = g.dropped }
  ends ps t l n c d true g =
      let e : joined_of (kept_of ps) ≡ g.done ++ l ∷ [] = opened_ends touches_of lengthened (λ r. r) (kept_of ps) g.done l g.last in
      let w = written_next g.done l t n g.table g.count in
      record {
        table = rw e w.0;
        count = rw e w.1;
        cut = rw e (ap (λ (x : Float). x ⊕ length_of l) g.cut ∙ sym (summed_more f0 g.done l));
        dropped = g.dropped;
      }

  -- the search's end
  pub tallied_ends : (ps : List Piece) (w : Work) → Tallied t₀ ps w → Written t₀ ps (closed_of w.table w.tally)
  tallied_ends ps w g = ends ps w.table w.tally.last w.tally.count w.tally.cut w.tally.dropped w.tally.some g
