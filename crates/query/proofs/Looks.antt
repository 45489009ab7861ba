-- How often a triangle stands in the list that a walk looks at.
use mathlib.Core.Bool.{Bool, true, false, cond}
use mathlib.Core.List.{List, [], ◌∷◌}
use mathlib.Core.Logic.{⊎_elim}
use mathlib.Core.Path.{◌≡◌, refl, ap, sym, ◌∙◌}
use Prim.Native.Nat.{ℕ, zero, suc, ◌+◌, ◌-◌, ◌*◌, ◌≤◌, ◌<◌}
use native.Mathlib.Nat.{eq-or-lt_of_le}
use native.Mathlib.Omega.{arith}
use borrow.Author.Tests.{eqb-true, eqb-false, ne_eqb}
use lib.Dec.{eqb}
use lib.ListN.{length, get_or, set, length-set, get_or-replicate}
use lib.Seq.{get_or-set_same, get_or-set_other}
use Rattle.walk.proofs.Marks.{ready_length}
use Rattle.rules.proofs.Times.{times_append}
use Rattle.rules.proofs.Branches.{either, by_test}
use Rattle.cells.specs.Cover.{Cover, members_of}
use Rattle.rules.specs.Every.{times, weight}
use Rattle.cells.proofs.Reading.{once}
use Rattle.walk.specs.Walk.{over, cell, row, block, looked, next_stamp, ready_marks}
use Rattle.grid.specs.Index.{Index, covers_of, SoundIndex}
use Rattle.query.specs.declared.Patch.{Patch}
use Rattle.query.specs.Usable.{usable}
use Rattle.query.specs.Looked.{looked_in, SharesCell, Shares, EachOnce, LooksOnce, UsablePromise}
use Rattle.rules.proofs.Testing.{in_rows}
use Rattle.query.proofs.Using.{usable_member}
use Rattle.query.proofs.Passing.{sound_usable}

pub over_has : (f : ℕ → List ℕ) (a n i k : ℕ) → a ≤ k → k < a + n → 0 < times i (f k) → 0 < times i (over f a n)
unfolding over
over_has f a zero i k h l t = absurd (omega arith)
over_has f a (suc n) i k h l t =
    let e = times_append i (f a) (over f (a + 1) n) in
    ⊎_elim (λ q. omega (arith, e, here q)) (λ q. omega (arith, e, over_has f (a + 1) n i k (omega arith) (omega arith) t)) (eq-or-lt_of_le h)
  where
    here : a ≡ k → 0 < times i (f a)
    here q = rw q t

pub record In (f : ℕ → List ℕ) (a n i : ℕ) : Type 0 where
  pub at : ℕ
  pub from : a ≤ at
  pub past : at < a + n
  pub stands : 0 < times i (f at)

pub over_in : (f : ℕ → List ℕ) (a n i : ℕ) → 0 < times i (over f a n) → In f a n i
unfolding over times
over_in f a zero i t = absurd (omega arith)
over_in f a (suc n) i t =
    by_test (eqb (times i (f a)) 0)
    (λ e.
    let r = over_in f (a + 1) n i (omega (arith, times_append i (f a) (over f (a + 1) n), eqb-true (times i (f a)) 0 e)) in
    record { at = r.at; from = omega (arith, r.from); past = omega (arith, r.past); stands = r.stands })
    (λ e. record { at = a; from = omega arith; past = omega arith; stands = omega (arith, eqb-false (times i (f a)) 0 e) })

-- ---- the triangles looked at, of the numbers ms
module _ (stamp i : ℕ) where
  -- one that does not stand in ms
  pub looked_none : (ms marks : List ℕ) → times i ms ≡ 0 → times i (looked stamp marks ms) ≡ 0
  unfolding looked times
  looked_none [] marks e = refl
  looked_none (x ∷ xs) marks e =
      by_test (eqb (get_or marks x 0) stamp) (looked_none xs marks (omega arith)) (looked_none xs (set marks x stamp) (omega arith))
    where
      by_test : (b : Bool) → times i (looked stamp marks xs) ≡ 0 → times i (looked stamp (set marks x stamp) xs) ≡ 0
          → times i (cond b (looked stamp marks xs) (x ∷ looked stamp (set marks x stamp) xs)) ≡ 0
      by_test true p q = p
      by_test false p q = omega arith

  -- one whose mark is the stamp
  looked_marked : (ms marks : List ℕ) → get_or marks i 0 ≡ stamp → times i (looked stamp marks ms) ≡ 0
  unfolding looked times
  looked_marked [] marks e = refl
  looked_marked (x ∷ xs) marks e =
      either (λ (l : List ℕ). times i l ≡ 0) (eqb (get_or marks x 0) stamp) _ _ (λ t. looked_marked xs marks e)
      (λ t.
      let n : i ≡ x → ⊥ = λ q. eqb-false (get_or marks x 0) stamp t (rw q at e) in
      let r = looked_marked xs (set marks x stamp) (get_or-set_other marks x i stamp 0 n ∙ e) in
      rw (ne_eqb i x n) (omega arith))

  -- one that stands there and whose mark is not the stamp
  pub looked_once : (ms marks : List ℕ) → i < length marks → (get_or marks i 0 ≡ stamp → ⊥) → 0 < times i ms → times i (looked stamp marks ms) ≡ 1
  unfolding looked times
  looked_once [] marks l n t = absurd (omega arith)
  looked_once (x ∷ xs) marks l n t =
      by_test (eqb i x)
      (λ p.
      let q = eqb-true i x p in
      let m = looked_marked xs (set marks x stamp) (rw q (get_or-set_same marks x stamp 0 (rw q at l))) in
      either (λ (k : List ℕ). times i k ≡ 1) (eqb (get_or marks x 0) stamp) _ _
      (λ e. absurd (n (rw q (eqb-true (get_or marks x 0) stamp e)))) (λ e. rw p (omega arith)))
      (λ p.
      let u : 0 < times i xs = omega (arith, rw p at t) in
      let r = looked_once xs (set marks x stamp) (rw (length-set marks x stamp) l) (λ z. n (sym (get_or-set_other marks x i stamp 0 (eqb-false i x p)) ∙ z)) u in
      either (λ (k : List ℕ). times i k ≡ 1) (eqb (get_or marks x 0) stamp) _ _ (λ e. looked_once xs marks l n u) (λ e. rw p (omega arith)))

-- a number that stands in a list has a place there
pub record Place (i : ℕ) (ms : List ℕ) : Type 0 where
  pub at : ℕ
  pub inside : at < length ms
  pub is : get_or ms at 0 ≡ i

pub place_of : (i : ℕ) (ms : List ℕ) → 0 < times i ms → Place i ms
unfolding times
place_of i [] t = absurd (omega arith)
place_of i (x ∷ xs) t =
    by_test (eqb i x) (λ e. record { at = 0; inside = omega arith; is = sym (eqb-true i x e) })
    (λ e.
    let r = place_of i xs (omega (arith, rw e at t)) in
    record { at = suc r.at; inside = omega (arith, r.inside); is = r.is })

positive : (k : ℕ) → (k ≡ 0 → ⊥) → 0 < k
positive zero n = absurd (n refl)
positive (suc k) n = omega arith

-- no mark that is not above the handed stamp is the new one
ready_fresh : (marks : List ℕ) (stamp i : ℕ) → i < length marks → get_or marks i 0 ≤ stamp → get_or (ready_marks marks stamp) i 0 ≡ next_stamp stamp → ⊥
unfolding ready_marks next_stamp
ready_fresh marks stamp i l h =
    by_test (eqb stamp 4294967295)
    (λ e. rw e (λ z. omega (arith, z, get_or-replicate {A = ℕ} (length marks) i 0 0 l)))
    (λ e. rw e (λ z. omega (arith, z, h)))

-- ---- demand 3, first half, over any cover: a cell's stretch holds the triangles that cover it, and each member of the question's cells has a mark that is not
-- above the handed stamp
module _ (on : Cover) (n columns rows : ℕ) (starts members marks : List ℕ) (stamp : ℕ) (p : Patch)
    (is : (c : ℕ) → c < rows * columns → cell starts members c ≡ members_of on n c)
    (passes : (x y k : ℕ) → p.x0 ≤ x → x < p.x1 → p.y0 ≤ y → y < p.y1 → k < length (cell starts members (y * columns + x))
    → (get_or (cell starts members (y * columns + x)) k 0 < n) × (get_or marks (get_or (cell starts members (y * columns + x)) k 0) 0 ≤ stamp))
    (marked : n ≤ length marks) (right : p.x1 ≤ columns) (top : p.y1 ≤ rows)
  where
    abbrev numbers : List ℕ
    numbers = block starts members columns p.x0 p.x1 p.y0 p.y1

    in_cells : (x y : ℕ) → x < p.x1 → y < p.y1 → y * columns + x < rows * columns
    in_cells x y a b = omega (arith, in_rows columns (x + 1) y rows (omega arith) (omega arith))

    -- in a cell of the question a triangle stands once if it covers the cell, and else not
    in_cell : (i x y : ℕ) → x < p.x1 → y < p.y1 → i < n → times i (cell starts members (y * columns + x)) ≡ weight (on i (y * columns + x))
    in_cell i x y a b l = ap (times i) (is (y * columns + x) (in_cells x y a b)) ∙ once on (y * columns + x) n i l

    stands : (i : ℕ) → SharesCell on n columns p i → 0 < times i numbers
    stands i s =
        let t : times i (cell starts members (s.y * columns + s.x)) ≡ 1 = rw (in_cell i s.x s.y s.column.1 s.row.1 s.triangle, s.covers) in
        over_has (row starts members columns p.x0 p.x1) p.y0 (p.y1 - p.y0) i s.y s.row.0 (omega arith)
        (over_has (λ x. cell starts members (s.y * columns + x)) p.x0 (p.x1 - p.x0) i s.x s.column.0 (omega arith) (omega arith))

    -- and where it stands, the two share that cell
    shares : (i : ℕ) → 0 < times i numbers → SharesCell on n columns p i
    shares i t =
        let b = over_in (row starts members columns p.x0 p.x1) p.y0 (p.y1 - p.y0) i t in
        let a = over_in (λ x. cell starts members (b.at * columns + x)) p.x0 (p.x1 - p.x0) i b.stands in
        let k = place_of i (cell starts members (b.at * columns + a.at)) a.stands in
        let x1 : a.at < p.x1 = omega arith in
        let y1 : b.at < p.y1 = omega arith in
        let m = (passes a.at b.at k.at a.from x1 b.from y1 k.inside).0 in
        let l : i < n = rw k.is at m in
        record {
          triangle = l;
          x = a.at;
          y = b.at;
          column = (a.from, x1);
          row = (b.from, y1);
          covers = some (on i (b.at * columns + a.at)) (rw (in_cell i a.at b.at x1 y1 l) at a.stands);
        }
      where
        some : (b : Bool) → 0 < weight b → b ≡ true
        some true l = refl
        some false l = absurd (omega arith)

    -- its mark is not the new stamp
    not_marked : (i : ℕ) → 0 < times i numbers → (i < length marks) × (get_or (ready_marks marks stamp) i 0 ≡ next_stamp stamp → ⊥)
    not_marked i t =
        let s = shares i t in
        let k = place_of i (cell starts members (s.y * columns + s.x))
        (omega (arith, rw s.covers at (in_cell i s.x s.y s.column.1 s.row.1 s.triangle))) in
        let m = (passes s.x s.y k.at s.column.0 s.column.1 s.row.0 s.row.1 k.inside).1 in
        let l : i < length marks = omega (arith, s.triangle, marked) in
        (l, ready_fresh marks stamp i l (rw k.is at m))

    pub each_once : EachOnce (SharesCell on n columns p) (looked (next_stamp stamp) (ready_marks marks stamp) numbers)
    each_once =
        record {
          each = λ i s.
              let t = stands i s in
              let n = not_marked i t in
              looked_once (next_stamp stamp) i numbers (ready_marks marks stamp) (rw (ready_length marks stamp) n.0) n.1 t;
          no_other = λ i n.
              looked_none (next_stamp stamp) i numbers (ready_marks marks stamp)
              (by_test (eqb (times i numbers) 0) (λ e. eqb-true _ _ e) (λ e. absurd (n (shares i (positive (times i numbers) (eqb-false _ _ e))))));
        }

    -- and one that stands in the list is one of those that share a cell
    pub once_shared : (i : ℕ) → 0 < times i (looked (next_stamp stamp) (ready_marks marks stamp) numbers) → SharesCell on n columns p i
    once_shared i t =
        by_test (eqb (times i numbers) 0)
        (λ e. absurd (omega (arith, t, looked_none (next_stamp stamp) i numbers (ready_marks marks stamp) (eqb-true _ _ e))))
        (λ e. shares i (positive (times i numbers) (eqb-false _ _ e)))

-- ---- the same of an index
module _ (ix : Index) (marks : List ℕ) (stamp : ℕ) (p : Patch) (d : SoundIndex ix) (u : usable ix marks stamp p ≡ true)
    (nine : length ix.mesh ≡ length marks * 9) (right : p.x1 ≤ ix.header.columns) (top : p.y1 ≤ ix.header.rows) where
  member : (x y k : ℕ) → p.x0 ≤ x → x < p.x1 → p.y0 ≤ y → y < p.y1 → k < length (cell ix.starts ix.members (y * ix.header.columns + x))
      → (get_or (cell ix.starts ix.members (y * ix.header.columns + x)) k 0 < ix.header.n)
      × (get_or marks (get_or (cell ix.starts ix.members (y * ix.header.columns + x)) k 0) 0 ≤ stamp)
  member x y k a b c e l = let m = usable_member ix marks stamp p u x y k a b c e l in (m.below, m.mark)

  as_many : ix.header.n ≤ length marks
  as_many = omega (arith, d.nine, nine)

  pub looks_once : LooksOnce ix p (looked_in ix marks stamp p)
  unfolding looked_in
  looks_once = each_once (covers_of ix) ix.header.n ix.header.columns ix.header.rows ix.starts ix.members marks stamp p
      d.cell member as_many right top

  pub looks_shared : (i : ℕ) → 0 < times i (looked_in ix marks stamp p) → Shares ix p i
  unfolding looked_in
  looks_shared = once_shared (covers_of ix) ix.header.n ix.header.columns ix.header.rows ix.starts ix.members marks stamp p
      d.cell member as_many right top

-- what the test r of a question promises, which found what refusal 7 tests
pub usable_promise : (ix : Index) (marks : List ℕ) (stamp : ℕ) (p : Patch) (r : Bool) → r ≡ usable ix marks stamp p → length ix.mesh ≡ length marks * 9
    → p.x1 ≤ ix.header.columns → p.y1 ≤ ix.header.rows → UsablePromise ix marks stamp p r
usable_promise ix marks stamp p r e nine right top =
    record {
      passes = λ d same low. e ∙ sound_usable ix d marks stamp same low p right top;
      looks = λ d t. looks_once ix marks stamp p d (sym e ∙ t) nine right top;
    }
