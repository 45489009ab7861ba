-- A chord question with what its code found out, and one triangle of its walk.
use mathlib.Core.Bool.{Bool, true, false, cond}
use mathlib.Core.List.{List}
use mathlib.Core.Path.{◌≡◌, refl, ap, sym, ◌∙◌}
use Prim.Native.Nat.{ℕ, ◌*◌, ◌≤◌, ◌<◌}
use native.Mathlib.Omega.{arith}
use lib.Ieee.{Float}
use lib.ListN.{length}
use Rattle.rules.proofs.Branches.{taken, left}
use Rattle.walk.specs.declared.Verdict.{Verdict}
use Rattle.walk.specs.Walk.{Walk, fold, chased, next_stamp, ready_marks}
use Rattle.walk.specs.Inside.{judged, strike, Room, Walkable}
use Rattle.walk.proofs.Rings.{Kept, strike_keeps, unmarked_length}
use Rattle.walk.proofs.Lists.{chase_is}
use Rattle.grid.specs.Index.{Index, index_of}
use Rattle.query.specs.declared.Patch.{Patch}
use Rattle.query.specs.Patch.{patch_of}
use Rattle.query.specs.Looked.{within}
use Rattle.walk.proofs.Marks.{ready_length}
use Rattle.query.proofs.Using.{walkable, usable_head}
use Rattle.ask.proofs.Narrowing.{Narrow}
use Rattle.ask.proofs.Answers.{passed, marks_all}
use Rattle.reach.specs.declared.Chord.{Chord}
use Rattle.ask.specs.Ask.{Ruling}
use Rattle.ask.specs.Ask.{Finding}
use Rattle.ask.specs.Ask.{Clear, Blocked}
use Rattle.ask.specs.Ask.{is_corner, refusal_of, begun, Outcome, ended, blocked_early, ruled_by, ruling_of, asked_chord}
use Rattle.tool.specs.Tool.{sections_in, is_tool, widest_of, lowest_of}
use Rattle.chords.proofs.Ruling.{chord_demand, chord_told}
use Rattle.chords.specs.Chords.{is_chord, blocked_at_once, bull_blocks_at, is_ride, bull_chord_of, BullChordPromise}
use Rattle.chords.specs.Chords.{tool_blocks_at, sections_chord_of, SectionsChordPromise}
use Rattle.chords.specs.Inside.{ruled_chord}

-- what one member keeps
pub struck_keeps : (stamp : ℕ) (blocks : ℕ → Bool) (w w' : Walk Bool) (i : ℕ) → i < length w.marks → w' ≡ strike stamp blocks w i → Kept stamp w w'
struck_keeps stamp blocks w w' i h e = rw e (strike_keeps stamp blocks w i h)

module _ (ix : Index) (marks : List ℕ) (stamp : ℕ) (c : Ruling) (o : List ℕ) (m : Chord) where
  -- what is promised follows from the answer
  pub tool_promise : (table : List Float) → ended c o ≡ sections_chord_of ix marks stamp m table → SectionsChordPromise ix marks stamp m table c
  unfolding sections_chord_of
  tool_promise table = chord_demand _ _ ix marks stamp m.ax m.ay m.bx m.by _ o _ _ c

  -- the answer, and what is promised beside it
  module _ (p : Patch) (a b : Bool) where
    pub bull_answers : (r rc : Float) → p ≡ patch_of ix.header m.ax m.ay m.bx m.by r → a ≡ is_ride m r → b ≡ is_corner r rc
        → ended c o ≡ asked_chord a b (blocked_at_once ix.header.floor m) (bull_blocks_at ix.mesh ix.boxes m r rc) ix marks stamp p
        → (ended c o ≡ bull_chord_of ix marks stamp m r rc) × BullChordPromise ix marks stamp m r rc c
    unfolding bull_chord_of
    bull_answers r rc = chord_told _ _ ix marks stamp m.ax m.ay m.bx m.by r o _ _ c p a b

    pub tool_answers : (reach low : Float) (table : List Float) → reach ≡ widest_of table (sections_in table)
        → low ≡ lowest_of table (sections_in table) → p ≡ patch_of ix.header m.ax m.ay m.bx m.by reach → a ≡ is_chord m → b ≡ is_tool table
        → ended c o ≡ asked_chord a b (blocked_at_once ix.header.floor m) (tool_blocks_at ix.mesh ix.boxes m low table) ix marks stamp p
        → (ended c o ≡ sections_chord_of ix marks stamp m table) × SectionsChordPromise ix marks stamp m table c
    unfolding sections_chord_of
    tool_answers reach low table r l e f g i =
        chord_told _ _ ix marks stamp m.ax m.ay m.bx m.by _ o _ _ c p a b (e
        ∙ ap (patch_of ix.header m.ax m.ay m.bx m.by) r) f g (rw l at i)

-- ---- where nothing is left to refuse
module _ (early : Bool) (blocks : ℕ → Bool) (ix : Index) (marks : List ℕ) (stamp : ℕ) (p : Patch) where
  pub ruled_early : early ≡ true → ended (blocked_early stamp) marks ≡ ruled_chord early blocks ix marks stamp p
  unfolding ruled_chord ruling_of
  ruled_early b = taken _ _ _ _ b refl

  pub ruled_chased : (next : ℕ) (m m' : List ℕ) (v : Verdict) (f : Finding) → early ≡ false → next ≡ next_stamp stamp → m ≡ ready_marks marks stamp
      → judged m' v ≡ fold (strike next blocks) (judged m (record { count = 0; clear = true })) (within ix p) → f ≡ cond v.clear Clear Blocked
      → ended (record { refusal = 0; finding = f; count = v.count; stamp = next }) m' ≡ ruled_chord early blocks ix marks stamp p
  unfolding ruled_chord ruling_of
  ruled_chased next m m' v f b g k w r =
      let u : Walk Bool = chased (next_stamp stamp) blocks (begun marks stamp true) (within ix p) in
      let i : judged m' v ≡ u = w ∙ chase_is next blocks _ _ refl ∙ (rw (k, g)) in
      left _ _ _ _ b
      (ap (λ (x : Finding). ended (record { refusal = 0; finding = x; count = v.count; stamp = next }) m') r
      ∙ ap (λ (x : Walk Bool). ended (ruled_by x next) x.marks) i
      ∙ ap (λ (x : ℕ). ended (ruled_by u x) u.marks) g)

  -- a question that was not refused is ruled so
  pub ruled_asked : (numbers tool : Bool) (n : ℕ) (o : Outcome Ruling) → n ≡ refusal_of numbers tool ix marks stamp p → n ≡ 0
      → o ≡ ruled_chord early blocks ix marks stamp p → o ≡ asked_chord numbers tool early blocks ix marks stamp p
  unfolding ruled_chord asked_chord
  ruled_asked numbers tool n o e z r = r
      ∙ ap (λ (k : ℕ). ruling_of k early marks stamp (chased (next_stamp stamp) blocks (begun marks stamp true) (within ix p))) (sym z ∙ e)

-- what an accepted question may rely on, over the tables and the cells that stand for its own
module _ (numbers tool : Bool) (ix : Index) (marks : List ℕ) (stamp : ℕ) (p : Patch) (n : ℕ) (e : n ≡ refusal_of numbers tool ix marks stamp p) (z : n ≡ 0)
    {starts members : List ℕ} {q : Patch} (w : Narrow ix p starts members q) where
  pub accepted_ready : (p.x1 ≤ ix.header.columns) × (p.y1 ≤ ix.header.rows) → (length ix.mesh ≡ length marks * 9) × (length marks ≤ 65536)
      × Walkable starts members (length marks) ix.header.columns q.x0 q.x1 q.y0 q.y1 × (length ix.boxes ≡ length marks * 5)
  accepted_ready i =
      let a = passed numbers tool ix marks stamp p (sym e ∙ z) in
      let k = a.marked in
      let d : length ix.mesh ≡ ix.header.n * 9 = (usable_head ix marks stamp p a.index_stands).nine in
      let s : length marks ≡ ix.header.n = omega (arith, k.nine) in
      (k.nine, k.few, rw s (w.walkable (walkable ix marks stamp p a.index_stands i.0 i.1)), a.five)

  -- and how it is ruled there
  pub ruled_narrow : (early : Bool) (blocks : ℕ → Bool)
      → ruled_chord early blocks (index_of ix.mesh ix.header starts members ix.boxes) marks stamp q ≡ ruled_chord early blocks ix marks stamp p
  unfolding ruled_chord chased
  ruled_narrow early blocks =
      let m = w.same (next_stamp stamp) (ready_marks marks stamp) (marks_all numbers tool ix marks stamp p n e (ready_marks marks stamp) z refl) in
      rw m

-- the marks of a walk that begins, from those that the question was asked with
pub begins : (ix : Index) (marks : List ℕ) (stamp next : ℕ) (m : List ℕ) (p : Patch) → m ≡ ready_marks marks stamp → (length ix.mesh ≡ length marks * 9)
    × (length marks ≤ 65536) × Walkable ix.starts ix.members (length marks) ix.header.columns p.x0 p.x1 p.y0 p.y1
    × (length ix.boxes ≡ length marks * 5) → (length ix.mesh ≡ length m * 9) × Walkable ix.starts ix.members (length m) ix.header.columns
    p.x0 p.x1 p.y0 p.y1 × Room next (record { marks = m; count = 0; value = true }) × (length ix.boxes ≡ length m * 5)
begins ix marks stamp next m p f r =
    let l : length m ≡ length marks = ap length f ∙ ready_length marks stamp in
    (omega (arith, r.0), rw l r.2, omega (arith, unmarked_length next m, r.1), omega (arith, r.3))

-- an answer that a call made
pub ended_is : (a b : Ruling) (m : List ℕ) (o : Outcome Ruling) → a ≡ b → ended b m ≡ o → ended a m ≡ o
ended_is a b m o e p = ap (λ (x : Ruling). ended x m) e ∙ p
