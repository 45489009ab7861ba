-- What the code of `max_height` knows and owes.
use mathlib.Core.Bool.{Bool, true}
use mathlib.Core.List.{List}
use mathlib.Core.Path.{◌≡◌, refl, ap, sym, ◌∙◌}
use Prim.Native.Nat.{ℕ, ◌*◌, ◌≤◌}
use native.Mathlib.Omega.{arith}
use borrow.Author.Tests.{eq-eqb}
use lib.ListN.{length}
use Rattle.rules.proofs.Branches.{taken}
use Rattle.plane.specs.declared.Best.{Best}
use Rattle.walk.specs.Walk.{Walk, walked, next_stamp, ready_marks}
use Rattle.grid.specs.Index.{Index, index_of}
use Rattle.query.specs.declared.Patch.{Patch}
use Rattle.query.proofs.Using.{walkable, usable_head}
use Rattle.capsule.specs.declared.Capsule.{Capsule}
use Rattle.ask.specs.Ask.{Answer}
use Rattle.ask.specs.Ask.{refusal_of, ended, refused_by, answered_by, answer_of, asked_height}
use Rattle.ask.proofs.Narrowing.{Narrow}
use Rattle.ask.proofs.Answers.{passed, marks_all, height_refused}
use Rattle.height.specs.Sweep.{Sweep, patch_for, capsule_for, disk_step, capsule_walk}
use Rattle.height.specs.Inside.{Sweepable}
use Rattle.height.specs.Height.{is_sweep, max_height_of}
use Rattle.height.specs.Demand.{DiskPromise}
use Rattle.height.proofs.Demanding.{disk_promise}

-- p, a and n are the cells, the test of the numbers and the refusal that the code found
module _ (ix : Index) (marks : List ℕ) (stamp : ℕ) (p : Patch) (a : Bool) (n : ℕ) (e : n ≡ refusal_of a true ix marks stamp p) where
  module _ {starts members : List ℕ} {q : Patch} (w : Narrow ix p starts members q) (z : n ≡ 0) where
    -- what the walk of an accepted question may rely on, over the tables and the cells that stand for its own
    pub may_sweep : p.x1 ≤ ix.header.columns → p.y1 ≤ ix.header.rows
        → (length ix.mesh ≡ length marks * 9) × (length marks ≤ 65536)
        × Sweepable (index_of ix.mesh ix.header starts members ix.boxes) (length marks) q × (length ix.boxes ≡ length marks * 5)
    may_sweep right top =
        let b = passed _ _ _ _ _ _ (sym e ∙ z) in
        let k = b.marked in
        let d : length ix.mesh ≡ ix.header.n * 9 = (usable_head ix marks stamp p b.index_stands).nine in
        let s : length marks ≡ ix.header.n = omega (arith, k.nine) in
        (k.nine, k.few, rw s (w.walkable (walkable ix marks stamp p b.index_stands right top)), b.five)

    -- and what it finds
    pub sweep_narrow : (c : Capsule) → capsule_walk (index_of ix.mesh ix.header starts members ix.boxes) marks stamp c q ≡ capsule_walk ix marks stamp c p
    unfolding capsule_walk walked
    sweep_narrow c =
        let m = w.same (next_stamp stamp) (ready_marks marks stamp) (marks_all a true ix marks stamp p n e (ready_marks marks stamp) z refl) in
        rw m

  module _ (s : Sweep) (f : p ≡ patch_for ix.header s) (g : a ≡ is_sweep s) where
    -- the answer, and what is promised beside it
    tells : (x : Answer) (m : List ℕ) → ended x m ≡ asked_height a true (disk_step ix.mesh ix.boxes (capsule_for ix.header s)) ix marks stamp p
        → (ended x m ≡ max_height_of ix marks stamp s) × DiskPromise ix marks stamp s x
    tells x m i =
        let k : ended x m ≡ max_height_of ix marks stamp s = unfold max_height_of in (i ∙ (rw (f, g))) in
        (k, disk_promise ix marks stamp s x m k)

    pub refused : (n ≡ 0 → ⊥) → (ended (refused_by n stamp) marks ≡ max_height_of ix marks stamp s) × DiskPromise ix marks stamp s (refused_by n stamp)
    refused z = tells (refused_by n stamp) marks (height_refused a true ix marks stamp p n e _ z)

    walk_told : n ≡ 0 → (w : Walk Best) → w ≡ capsule_walk ix marks stamp (capsule_for ix.header s) p → ended (answered_by w (next_stamp stamp)) w.marks
        ≡ asked_height a true (disk_step ix.mesh ix.boxes (capsule_for ix.header s)) ix marks stamp p
    unfolding asked_height answer_of capsule_walk
    walk_told z w v =
        taken _ _ _ _ (eq-eqb _ 0 (sym e ∙ z)) (ap (λ (u : Walk Best). ended (answered_by u (next_stamp stamp)) u.marks) v)

    pub answered : n ≡ 0 → (q : Capsule) (w : Walk Best) (next : ℕ) → q ≡ capsule_for ix.header s → w ≡ capsule_walk ix marks stamp q p
        → next ≡ next_stamp stamp → (ended (answered_by w next) w.marks ≡ max_height_of ix marks stamp s) × DiskPromise ix marks stamp s (answered_by w next)
    answered z q w next b c d =
        tells (answered_by w next) w.marks
        (ap (λ (k : ℕ). ended (answered_by w k) w.marks) d ∙ walk_told z w (c ∙ ap (λ (k : Capsule). capsule_walk ix marks stamp k p) b))
