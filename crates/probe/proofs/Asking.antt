-- Questions asked one after the other with the search's own marks: each has the answer that it has with wiped marks.
use mathlib.Core.Bool.{Bool, true, false, cond}
use mathlib.Core.List.{List, [], ◌∷◌, ◌++◌, append-nil}
use mathlib.Core.Logic.{◌⊎◌, inl, inr, ⊎_elim}
use mathlib.Core.Path.{◌≡◌, refl, sym, ap, ◌∙◌}
use Prim.Native.Nat.{ℕ, ◌+◌, ◌≤◌, ◌<◌}
use native.Mathlib.Omega.{arith}
use borrow.Author.Tests.{eqb-true, eqb-false, eq-eqb, ne_eqb, ltb-true, ltb-false}
use lib.Dec.{eqb, ltb}
use lib.Ieee.{Float, lt}
use lib.ListN.{length, get_or, set, replicate, length-set, length-replicate, get_or-replicate, get_or-eq_default}
use lib.Seq.{get_or-set_same, get_or-set_other, set_out}
use Rattle.rules.proofs.Branches.{by_test}
use Rattle.plane.specs.declared.Best.{Best}
use Rattle.walk.specs.Walk.{Walk, looked, marked, fold, walked, next_stamp, ready_marks}
use Rattle.grid.specs.Index.{Index}
use Rattle.query.specs.Looked.{within}
use Rattle.ask.specs.Ask.{at_floor, begun}
use Rattle.height.specs.Sweep.{Sweep, sweep, patch_for, capsule_for, disk_step, capsule_walk, sweep_walk}
use Rattle.height.proofs.Heights.{stays_above}
use Rattle.walk.proofs.Rings.{fold_append}
use Rattle.walk.proofs.Lists.{walk_is}
use Rattle.crests.specs.Inside.{Passed}
use Rattle.crests.proofs.Settling.{fold_fair}
use Rattle.crests.proofs.Passing.{fair_start}
use Rattle.runs.specs.declared.Run.{Run}
use Rattle.probe.specs.Probe.{height_under}
use Rattle.probe.specs.Inside.{Marked, Decides}

on_or_off : (b : Bool) → (b ≡ true) ⊎ (b ≡ false)
on_or_off true = inl refl
on_or_off false = inr refl

zeros : (n i : ℕ) → ◌≡◌ {A = ℕ} (get_or (replicate n 0) i 0) 0
zeros n i =
    ⊎_elim
    (λ (e : ltb i n ≡ true). get_or-replicate n i 0 0 (ltb-true i n e))
    (λ (e : ltb i n ≡ false). get_or-eq_default (replicate n 0) 0 (rw (length-replicate {A = ℕ} n 0) (ltb-false i n e)))
    (on_or_off (ltb i n))

-- ---- what a walk looks at turns only on which marks hold its stamp

pub record Alike (s : ℕ) (m : List ℕ) (t : ℕ) (k : List ℕ) : Type 0 where
  pub size : length m ≡ length k
  pub same : (i : ℕ) → eqb (get_or m i 0) s ≡ eqb (get_or k i 0) t

alike_set : (s : ℕ) (m : List ℕ) (t : ℕ) (k : List ℕ) (i : ℕ) → Alike s m t k → Alike s (set m i s) t (set k i t)
alike_set s m t k i a =
    record {
      size = length-set m i s ∙ a.size ∙ sym (length-set k i t);
      same = λ j.
          ⊎_elim
          (λ (e : eqb j i ≡ true).
          let q : j ≡ i = eqb-true j i e in
          ⊎_elim
          (λ (l : ltb i (length m) ≡ true).
          let h : i < length m = ltb-true i (length m) l in
          rw (q, get_or-set_same m i s 0 h, get_or-set_same k i t 0 (omega (arith, a.size))) (eq-eqb s s refl ∙ sym (eq-eqb t t refl)))
          (λ (l : ltb i (length m) ≡ false).
          let h : length m ≤ i = ltb-false i (length m) l in
          rw (set_out m i s h, set_out k i t (omega (arith, a.size))) (a.same j))
          (on_or_off _))
          (λ (e : eqb j i ≡ false). rw (get_or-set_other m i j s 0 (eqb-false j i e), get_or-set_other k i j t 0 (eqb-false j i e)) (a.same j))
          (on_or_off (eqb j i));
    }

pub looked_same : (s : ℕ) (m : List ℕ) (t : ℕ) (k : List ℕ) (ms : List ℕ) → Alike s m t k → looked s m ms ≡ looked t k ms
unfolding looked
looked_same s m t k [] a = refl
looked_same s m t k (i ∷ ms) a =
    by (eqb (get_or m i 0) s) (eqb (get_or k i 0) t) (a.same i) (looked_same s m t k ms a) (looked_same s (set m i s) t (set k i t) ms (alike_set s m t k i a))
  where
    by : (b d : Bool) → b ≡ d → looked s m ms ≡ looked t k ms → looked s (set m i s) ms ≡ looked t (set k i t) ms
        → cond b (looked s m ms) (i ∷ looked s (set m i s) ms) ≡ cond d (looked t k ms) (i ∷ looked t (set k i t) ms)
    by b d e p q = rw (e, p, q)

-- marks that are not above the stamp, made ready for the next walk, and wiped ones
pub ready_alike : (n stamp : ℕ) (marks : List ℕ) → Marked n stamp marks
    → Alike (next_stamp stamp) (ready_marks marks stamp) (next_stamp 0) (ready_marks (replicate n 0) 0)
unfolding next_stamp ready_marks
ready_alike n stamp marks m =
    by (eqb stamp 4294967295) refl
  where
    by : (b : Bool) → eqb stamp 4294967295 ≡ b → Alike (cond b 1 (stamp + 1)) (cond b (replicate (length marks) 0) marks) (0 + 1) (replicate n 0)
    by true e = record {
      size = rw (length-replicate {A = ℕ} (length marks) 0, length-replicate {A = ℕ} n 0) m.size;
      same =
          λ i. rw (zeros (length marks) i, zeros n i);
    }
    by false e =
        record {
          size = rw (length-replicate {A = ℕ} n 0) m.size;
          same = λ i. rw (zeros n i) (ne_eqb (get_or marks i 0) (stamp + 1) (λ q. omega (arith, m.below i)));
        }

-- ---- the marks afterwards

pub marked_below : (s n : ℕ) (is m : List ℕ) → length m ≡ n → ((i : ℕ) → get_or m i 0 ≤ s) → Marked n s (marked s m is)
unfolding marked
marked_below s n [] m l b = record { size = l; below = b }
marked_below s n (i ∷ is) m l b =
    marked_below s n is (set m i s) (length-set m i s ∙ l)
    (λ j.
    ⊎_elim
    (λ (e : eqb j i ≡ true).
    let q : j ≡ i = eqb-true j i e in
    ⊎_elim
    (λ (h : ltb i (length m) ≡ true). rw (q, get_or-set_same m i s 0 (ltb-true i (length m) h)) (omega arith))
    (λ (h : ltb i (length m) ≡ false). rw (set_out m i s (ltb-false i (length m) h)) (b j))
    (on_or_off _))
    (λ (e : eqb j i ≡ false). rw (get_or-set_other m i j s 0 (eqb-false j i e)) (b j))
    (on_or_off (eqb j i)))

pub ready_below : (n stamp : ℕ) (marks : List ℕ) → Marked n stamp marks
    → (length (ready_marks marks stamp) ≡ n) × ((i : ℕ) → get_or (ready_marks marks stamp) i 0 ≤ next_stamp stamp)
unfolding next_stamp ready_marks
ready_below n stamp marks m = by (eqb stamp 4294967295)
  where
    by : (b : Bool) → (length (cond b (replicate (length marks) 0) marks) ≡ n)
        × ((i : ℕ) → get_or (cond b (replicate (length marks) 0) marks) i 0 ≤ cond b 1 (stamp + 1))
    by true = (length-replicate {A = ℕ} (length marks) 0 ∙ m.size, (λ i. rw (zeros (length marks) i) (omega arith)))
    by false = (m.size, (λ i. omega (arith, m.below i)))

-- ---- a list looked at in two parts

pub looked_append : (s : ℕ) (xs m ys : List ℕ) → looked s m (xs ++ ys) ≡ looked s m xs ++ looked s (marked s m (looked s m xs)) ys
unfolding looked marked
looked_append s [] m ys = refl
looked_append s (x ∷ xs) m ys =
    by_test (eqb (get_or m x 0) s)
    (λ e. rw e (looked_append s xs m ys))
    (λ e. rw e (ap (λ (l : List ℕ). x ∷ l) (looked_append s xs (set m x s) ys)))

-- ---- a sweep

module _ (ix : Index) (stamp : ℕ) (marks : List ℕ) (m : Marked ix.header.n stamp marks) (r : Run) where
  abbrev under : Sweep
  under = sweep r.ax r.ay r.bx r.by ix.header.r

  pub swept_value : (sweep_walk ix marks stamp under).value.height ≡ height_under ix r
  unfolding height_under sweep_walk capsule_walk walked
  swept_value =
      ap (λ (is : List ℕ). (fold (disk_step ix.mesh ix.boxes (capsule_for ix.header under))
      (record { height = ix.header.floor; triangle = 0; kind = 0; which = 0 }) is).height)
      (looked_same _ _ _ _ _ (ready_alike ix.header.n stamp marks m))

  pub swept_marks : Marked ix.header.n (next_stamp stamp) (sweep_walk ix marks stamp under).marks
  unfolding sweep_walk capsule_walk walked
  swept_marks = let b = ready_below ix.header.n stamp marks m in marked_below (next_stamp stamp) ix.header.n _ (ready_marks marks stamp) b.0 b.1

-- ---- a sweep that passes over low cells and may be left above a limit

module _ (ix : Index) (r : Run) where
  abbrev asked : Sweep
  asked = sweep r.ax r.ay r.bx r.by ix.header.r

  abbrev step : Best → ℕ → Best
  step = disk_step ix.mesh ix.boxes (capsule_for ix.header asked)

  -- the height is that of the list, one after the other
  one_by_one : height_under ix r ≡ (fold step (at_floor ix.header.floor) (within ix (patch_for ix.header asked))).height
  unfolding height_under sweep_walk capsule_walk
  one_by_one =
      let n = ix.header.n in
      let w : Walk Best = begun (replicate n 0) 0 (at_floor ix.header.floor) in
      let ms = within ix (patch_for ix.header asked) in
      let fair = fair_start step (replicate n 0) (ready_marks (replicate n 0) 0) 0 (next_stamp 0) 0 (at_floor ix.header.floor)
      (λ i. rw (zeros n i) (omega arith)) refl refl in
      ap (λ (u : Walk Best). u.value.height) (sym (walk_is (next_stamp 0) step ms w))
      ∙ ap (λ (v : Best). v.height) (fold_fair ix.mesh ix.boxes (capsule_for ix.header asked) (next_stamp 0) ms w fair).0

  pub passed_decides : (limit : Float) (v : Best) → Passed step (at_floor ix.header.floor) (within ix (patch_for ix.header asked)) limit v
      → Decides limit (height_under ix r) v.height
  passed_decides limit v h =
      let first = at_floor ix.header.floor in
      let whole = one_by_one ∙ ap (λ (ms : List ℕ). (fold step first ms).height) h.whole in
      ⊎_elim
      (λ e. inl (ap (λ (b : Best). b.height) h.value
      ∙ sym (whole ∙ ap (λ (ms : List ℕ). (fold step first ms).height) (ap (λ (ms : List ℕ). h.front ++ ms) e ∙ append-nil h.front))))
      (λ l.
      let on : lt limit (fold step v h.rest).height ≡ true = stays_above ix.mesh ix.boxes (capsule_for ix.header asked) h.rest v limit l in
      let same : fold step first (h.front ++ h.rest) ≡ fold step v h.rest = fold_append step h.front h.rest first
      ∙ ap (λ (b : Best). fold step b h.rest) (sym h.value) in
      inr (l, ap (lt limit) whole ∙ (ap (λ (b : Best). lt limit b.height) same ∙ on)))
      h.why

pub marked_is : (n s t : ℕ) (m k : List ℕ) → s ≡ t → m ≡ k → Marked n t k → Marked n s m
marked_is n s t m k p q g = rw (p, q) g
