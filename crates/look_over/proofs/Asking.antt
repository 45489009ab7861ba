-- A move's question, asked with the look's own marks after 7 was tested over the whole grid, has the answer that the question gives by itself.
use mathlib.Core.Bool.{Bool, true, false, cond}
use mathlib.Core.List.{List}
use mathlib.Core.Path.{◌≡◌, refl, ap, sym}
use Prim.Native.Nat.{ℕ, ◌*◌, ◌/◌, ◌≤◌}
use borrow.Author.Tests.{eqb-true}
use native.Mathlib.Omega.{arith}
use lib.ListN.{length, replicate}
use Rattle.walk.specs.Walk.{chased, clear_of, up_to, next_stamp, ready_marks}
use Rattle.walk.specs.Inside.{Walkable}
use Rattle.grid.specs.Boxes.{is_boxed}
use Rattle.grid.specs.Index.{Index}
use Rattle.rules.proofs.Ladder.{demand_next}
use Rattle.query.specs.declared.Patch.{Patch}
use Rattle.query.specs.Usable.{usable_whole}
use Rattle.query.specs.Looked.{within}
use Rattle.whole.proofs.Wholly.{whole_head, whole_walkable}
use Rattle.ask.specs.Ask.{Clear, Blocked}
use Rattle.ask.specs.Ask.{refusal_of, begun, ruling_of, asked_chord}
use Rattle.chords.specs.Inside.{ruled_chord}
use Rattle.probe.specs.Inside.{Askable, Marked}
use Rattle.probe.proofs.Asking.{looked_same, ready_alike, marked_below, ready_below}
use Rattle.plan.proofs.Losing.{patch_passes, marked as mesh-marked}
use Rattle.look_over.specs.Inside.{Indexed}

-- ---- what 7 lets pass over the whole grid
module _ (ix : Index) (x : Indexed ix) where
  abbrev u : usable_whole ix ≡ true
  u = x.whole

  pub askable : Askable ix
  unfolding is_boxed
  askable =
      let w = whole_head ix u in
      record {
        nine = w.nine;
        five = omega (arith, w.nine, eqb-true (length ix.boxes) (length ix.mesh / 9 * 5) x.boxed);
        few = w.ranged.few;
        walkable = whole_walkable ix u;
      }

  -- the cells p can be walked with the look's own marks
  pub walk_ready : (stamp : ℕ) (marks : List ℕ) → Marked ix.header.n stamp marks → (p : Patch)
      → (p.x1 ≤ ix.header.columns) × (p.y1 ≤ ix.header.rows) → (length ix.mesh ≡ length marks * 9) × (length marks ≤ 65536)
      × Walkable ix.starts ix.members (length marks) ix.header.columns p.x0 p.x1 p.y0 p.y1 × (length ix.boxes ≡ length marks * 5)
  walk_ready stamp marks m p i = (
    omega (arith, askable.nine, m.size),
    omega (arith, askable.few, m.size),
    rw m.size (askable.walkable _ _ _ _ i.0 i.1),
    omega (arith, askable.five, m.size),
  )

  -- a chord question over the cells p whose numbers and tool are in their ranges is not refused with wiped marks
  pub asked_ruled : (numbers tool early : Bool) (blocks : ℕ → Bool) (p : Patch)
      → numbers ≡ true → tool ≡ true → (p.x1 ≤ ix.header.columns) × (p.y1 ≤ ix.header.rows)
      → asked_chord numbers tool early blocks ix (replicate ix.header.n 0) 0 p ≡ ruled_chord early blocks ix (replicate ix.header.n 0) 0 p
  unfolding asked_chord ruled_chord refusal_of
  asked_ruled numbers tool early blocks p a b i =
      let wiped : List ℕ = replicate ix.header.n 0 in
      let z : 0 ≡ refusal_of numbers tool ix wiped 0 p =
      demand_next _ 1 _ 0 (mesh-marked ix u x.boxed)
      (demand_next _ 23 _ 0 x.boxed
      (demand_next _ 2 _ 0 a
      (demand_next _ 8 _ 0 b
      (demand_next _ 7 0 0 (patch_passes ix u x.boxed p i.0 i.1) refl)))) in
      sym (ap (λ (k : ℕ). ruling_of k early wiped 0 (chased (next_stamp 0) blocks (begun wiped 0 true) (within ix p))) z)

-- ---- a chord ruled with the look's own marks, and with wiped ones
module _ (blocks : ℕ → Bool) (ix : Index) (stamp : ℕ) (marks : List ℕ) (m : Marked ix.header.n stamp marks) (p : Patch) where
  pub ruled_same : (early : Bool)
      → (ruled_chord early blocks ix marks stamp p).answer.finding ≡ (ruled_chord early blocks ix (replicate ix.header.n 0) 0 p).answer.finding
  unfolding ruled_chord ruling_of chased
  ruled_same true = refl
  ruled_same false = ap (λ (is : List ℕ). cond (clear_of blocks (up_to blocks is)) Clear Blocked)
      (looked_same _ _ _ _ (within ix p) (ready_alike ix.header.n stamp marks m))

  pub ruled_marks : (early : Bool)
      → Marked ix.header.n (ruled_chord early blocks ix marks stamp p).answer.stamp (ruled_chord early blocks ix marks stamp p).marks
  unfolding ruled_chord ruling_of chased
  ruled_marks true = m
  ruled_marks false = let b = ready_below ix.header.n stamp marks m in
      marked_below (next_stamp stamp) ix.header.n _ (ready_marks marks stamp) b.0 b.1
