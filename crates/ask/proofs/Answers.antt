-- What a question's code knows and owes, for any question: what an accepted one may rely on, and its answer on each way.
use mathlib.Core.Bool.{Bool, true, false, cond}
use mathlib.Core.List.{List}
use mathlib.Core.Path.{◌≡◌, refl, ap, sym, ◌∙◌}
use Prim.Native.Nat.{ℕ, ◌*◌, ◌/◌, ◌≤◌}
use native.Mathlib.Omega.{arith}
use borrow.Author.Tests.{leb-true, eqb-true, eq-eqb, ne_eqb}
use lib.Dec.{eqb, leb, lit<}
use lib.Ieee.{Float}
use lib.ListN.{length}
use Rattle.walk.proofs.Marks.{ready_length}
use Rattle.rules.proofs.Branches.{taken, left, both_true}
use Rattle.plane.specs.declared.Best.{Best}
use Rattle.walk.specs.Walk.{Walk, block, next_stamp, ready_marks, fold, walked, chased}
use Rattle.walk.specs.Inside.{Room, Walkable, seen, judged, look, strike}
use Rattle.walk.specs.declared.Seen.{Seen}
use Rattle.walk.specs.declared.Verdict.{Verdict}
use Rattle.walk.proofs.Rings.{unmarked_length}
use Rattle.walk.proofs.Lists.{walk_is, chase_is}
use Rattle.grid.specs.declared.Header.{Header}
use Rattle.grid.specs.Boxes.{is_boxed}
use Rattle.grid.specs.Index.{Index, SoundIndex}
use Rattle.rules.proofs.Ladder.{demanded, demand_next}
use Rattle.query.specs.declared.Patch.{Patch}
use Rattle.query.specs.Asked.{is_marked}
use Rattle.query.specs.Patch.{patch_of}
use Rattle.query.specs.Usable.{usable}
use Rattle.query.proofs.Patches.{patch_inside}
use Rattle.query.specs.Looked.{within}
use Rattle.query.proofs.Using.{walkable, usable_head}
use Rattle.query.proofs.Passing.{sound_boxed, sound_marked, sound_usable}
use Rattle.ask.specs.Ask.{at_floor, refusal_of, begun, ended, refused_by, answered_by, answer_of, asked_height}
use Rattle.ask.specs.Ask.{refused_chord, blocked_early, ruled_by, ruling_of, asked_chord}
use Rattle.ask.specs.Demand.{GoodQuestion}
use Rattle.ask.proofs.Narrowing.{Narrow, narrow_walk, narrow_chase}
use Rattle.ask.specs.Ask.{Finding}
use Rattle.ask.specs.Ask.{Clear, Blocked}

pub record Marked (mesh : List Float) (marks : List ℕ) : Type 0 where
  pub few : length marks ≤ 65536
  pub nine : length mesh ≡ length marks * 9

pub marked_is : (mesh : List Float) (marks : List ℕ) → is_marked mesh marks ≡ true → Marked mesh marks
unfolding is_marked
marked_is mesh marks e =
    let a = both_true (leb (length marks) 65536) (eqb (length mesh) (length marks * 9)) e in
    record { few = leb-true _ _ a.0; nine = eqb-true _ _ a.1 }

pub boxed_is : (mesh boxes : List Float) (marks : List ℕ) → Marked mesh marks → is_boxed mesh boxes ≡ true → length boxes ≡ length marks * 5
unfolding is_boxed
boxed_is mesh boxes marks m e = omega (arith, m.nine, eqb-true (length boxes) (length mesh / 9 * 5) e)

-- ---- a question that was not refused
pub record Passed (ix : Index) (marks : List ℕ) (stamp : ℕ) (p : Patch) : Type 0 where
  pub marked : Marked ix.mesh marks
  pub five : length ix.boxes ≡ length marks * 5
  pub index_stands : usable ix marks stamp p ≡ true

module _ (numbers tool : Bool) (ix : Index) (marks : List ℕ) (stamp : ℕ) (p : Patch) where
  pub passed : refusal_of numbers tool ix marks stamp p ≡ 0 → Passed ix marks stamp p
  unfolding refusal_of
  passed e =
      let a = demanded (is_marked ix.mesh marks) 1 _ (lit< tt) e in
      let d = demanded (is_boxed ix.mesh ix.boxes) 23 _ (lit< tt) a.1 in
      let b = demanded numbers 2 _ (lit< tt) d.1 in
      let c = demanded tool 8 _ (lit< tt) b.1 in
      let m = marked_is ix.mesh marks a.0 in
      record { marked = m; five = boxed_is ix.mesh ix.boxes marks m d.0; index_stands = (demanded (usable ix marks stamp p) 7 _ (lit< tt) c.1).0 }

  -- a good question over a sound index is not
  pub good_passes : SoundIndex ix → GoodQuestion numbers tool ix marks stamp → p.x1 ≤ ix.header.columns → p.y1 ≤ ix.header.rows
      → refusal_of numbers tool ix marks stamp p ≡ 0
  unfolding refusal_of
  good_passes d g right top =
      sym (demand_next _ _ _ _ (sound_marked ix d marks stamp g.marked g.low)
      (demand_next _ _ _ _ (sound_boxed ix d)
      (demand_next _ _ _ _ g.numbers_in_range
      (demand_next _ _ _ _ g.tool_in_range
      (demand_next _ _ _ _ (sound_usable ix d marks stamp g.marked g.low p right top) refl)))))

-- a question's cells are in the grid
pub inside : (h : Header) (px py qx qy reach : Float) (p : Patch) → p ≡ patch_of h px py qx qy reach → (p.x1 ≤ h.columns) × (p.y1 ≤ h.rows)
inside h px py qx qy reach p e = rw e (patch_inside h px py qx qy reach)

-- n is the refusal that the code found
module _ (numbers tool : Bool) (ix : Index) (marks : List ℕ) (stamp : ℕ) (p : Patch) (n : ℕ) (e : n ≡ refusal_of numbers tool ix marks stamp p) where
  -- its marks are one for each triangle
  pub marks_all : (m : List ℕ) → n ≡ 0 → m ≡ ready_marks marks stamp → length m ≡ ix.header.n
  marks_all m z f =
      let a = passed _ _ _ _ _ _ (sym e ∙ z) in
      let l : length m ≡ length marks = ap length f ∙ ready_length marks stamp in
      let d : length ix.mesh ≡ ix.header.n * 9 = (usable_head ix marks stamp p a.index_stands).nine in
      omega (arith, a.marked.nine)

  -- where the walk of an accepted question begins, with the marks m, over the tables and the cells that stand for its own
  pub ready : {A : Type 0} (next : ℕ) (m : List ℕ) (v : A) → n ≡ 0 → m ≡ ready_marks marks stamp → (p.x1 ≤ ix.header.columns) × (p.y1 ≤ ix.header.rows)
      → {starts members : List ℕ} {q : Patch} → Narrow ix p starts members q
      → (length ix.mesh ≡ length m * 9) × Walkable starts members (length m) ix.header.columns q.x0 q.x1 q.y0 q.y1
      × Room next (record { marks = m; count = 0; value = v }) × (length ix.boxes ≡ length m * 5)
  ready next m v z f i w =
      let a = passed _ _ _ _ _ _ (sym e ∙ z) in
      let k = a.marked in
      let l : length m ≡ length marks = ap length f ∙ ready_length marks stamp in (
        omega (arith, k.nine),
        rw (marks_all m z f) (w.walkable (walkable ix marks stamp p a.index_stands i.0 i.1)),
        omega (arith, unmarked_length next m, k.few),
        omega (arith, a.five),
      )

  -- ---- a height question
  module _ (step : Best → ℕ → Best) where
    pub height_refused : (n ≡ 0 → ⊥) → ended (refused_by n stamp) marks ≡ asked_height numbers tool step ix marks stamp p
    unfolding asked_height answer_of
    height_refused z = left _ _ _ _ (ne_eqb _ 0 (λ k. z (e ∙ k))) (ap (λ (j : ℕ). ended (refused_by j stamp) marks) e)

    pub height_answered : {starts members : List ℕ} {q : Patch} → Narrow ix p starts members q → (next : ℕ) (m m' : List ℕ) (s : Seen Best) → n ≡ 0
        → next ≡ next_stamp stamp → m ≡ ready_marks marks stamp
        → seen m' s ≡ fold (look next step) (seen m (record { count = 0; best = at_floor ix.header.floor }))
        (block starts members ix.header.columns q.x0 q.x1 q.y0 q.y1)
        → ended (answered_by (seen m' s) next) m' ≡ asked_height numbers tool step ix marks stamp p
    unfolding asked_height answer_of
    height_answered h next m m' s z f g w =
        let v : Walk Best = walked (next_stamp stamp) step (begun marks stamp (at_floor ix.header.floor)) (within ix p) in
        let i : seen m' s ≡ v = w ∙ narrow_walk h next step _ (marks_all m z g) ∙ walk_is next step _ _ ∙ (rw (g, f)) in
        taken _ _ _ _ (eq-eqb _ 0 (sym e ∙ z))
        (ap (λ (u : Walk Best). ended (answered_by u next) u.marks) i ∙ ap (λ (k : ℕ). ended (answered_by v k) v.marks) f)

  -- ---- a chord question
  module _ (early : Bool) (blocks : ℕ → Bool) where
    pub chord_refused : (n ≡ 0 → ⊥) → ended (refused_chord n stamp) marks ≡ asked_chord numbers tool early blocks ix marks stamp p
    unfolding asked_chord ruling_of
    chord_refused z = left _ _ _ _ (ne_eqb _ 0 (λ k. z (e ∙ k))) (ap (λ (j : ℕ). ended (refused_chord j stamp) marks) e)

    pub chord_early : n ≡ 0 → early ≡ true → ended (blocked_early stamp) marks ≡ asked_chord numbers tool early blocks ix marks stamp p
    unfolding asked_chord ruling_of
    chord_early z b = taken _ _ _ _ (eq-eqb _ 0 (sym e ∙ z)) (taken _ _ _ _ b refl)

    pub chord_ruled : {starts members : List ℕ} {q : Patch} → Narrow ix p starts members q → (next : ℕ) (m m' : List ℕ) (v : Verdict) (f : Finding) → n ≡ 0
        → early ≡ false → next ≡ next_stamp stamp → m ≡ ready_marks marks stamp
        → judged m' v ≡ fold (strike next blocks) (judged m (record { count = 0; clear = true }))
        (block starts members ix.header.columns q.x0 q.x1 q.y0 q.y1) → f ≡ cond v.clear Clear Blocked
        → ended (record { refusal = 0; finding = f; count = v.count; stamp = next }) m' ≡ asked_chord numbers tool early blocks ix marks stamp p
    unfolding asked_chord ruling_of
    chord_ruled h next m m' v f z b g k w r =
        let u : Walk Bool = chased (next_stamp stamp) blocks (begun marks stamp true) (within ix p) in
        let i : judged m' v ≡ u = w ∙ narrow_chase h next blocks _ refl (marks_all m z k) ∙ chase_is next blocks _ _ refl ∙ (rw (k, g)) in
        taken _ _ _ _ (eq-eqb _ 0 (sym e ∙ z))
        (left _ _ _ _ b
        (ap (λ (x : Finding). ended (record { refusal = 0; finding = x; count = v.count; stamp = next }) m') r
        ∙ ap (λ (x : Walk Bool). ended (ruled_by x next) x.marks) i
        ∙ ap (λ (x : ℕ). ended (ruled_by u x) u.marks) g))
