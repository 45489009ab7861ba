-- The walk of a sweep: what it may rely on as it begins, and what it is as a list.
use mathlib.Core.List.{List}
use mathlib.Core.Path.{◌≡◌, ap, ◌∙◌}
use Prim.Native.Nat.{ℕ, ◌*◌, ◌≤◌}
use native.Mathlib.Omega.{arith}
use lib.ListN.{length}
use Rattle.plane.specs.declared.Best.{Best}
use Rattle.walk.specs.Walk.{Walk, fold, next_stamp, ready_marks}
use Rattle.walk.specs.Inside.{seen, look, Room, Tabled, FitsAll}
use Rattle.walk.proofs.Rings.{unmarked_length}
use Rattle.walk.proofs.Lists.{walk_is}
use Rattle.grid.specs.Index.{Index}
use Rattle.query.specs.declared.Patch.{Patch}
use Rattle.query.specs.Looked.{within}
use Rattle.walk.proofs.Marks.{ready_length, all_tabled}
use Rattle.capsule.specs.declared.Capsule.{Capsule}
use Rattle.ask.specs.Ask.{at_floor}
use Rattle.height.specs.Sweep.{disk_step, capsule_walk}
use Rattle.height.specs.Inside.{Sweepable}

module _ (ix : Index) (marks : List ℕ) (stamp : ℕ) (p : Patch) (m : List ℕ) (next : ℕ) (e : m ≡ ready_marks marks stamp) where
  pub sweep_ready : length ix.mesh ≡ length marks * 9 → length marks ≤ 65536 → Sweepable ix (length marks) p → length ix.boxes ≡ length marks * 5
      → Sweepable ix (length m) p × Room next (seen m (record { count = 0; best = at_floor ix.header.floor }))
      × FitsAll (Tabled ix.mesh ix.boxes) (length m)
  sweep_ready nine few walk five =
      let l : length m ≡ length marks = ap length e ∙ ready_length marks stamp in
      (rw l walk, omega (arith, unmarked_length next m), all_tabled _ _ _ (omega arith) (omega arith))

  pub sweep_is : (q : Capsule) (w : Walk Best) → next ≡ next_stamp stamp → w ≡ fold (look next (disk_step ix.mesh ix.boxes q))
      (seen m (record { count = 0; best = at_floor ix.header.floor })) (within ix p) → w ≡ capsule_walk ix marks stamp q p
  unfolding capsule_walk
  sweep_is q w n f = f ∙ walk_is next (disk_step ix.mesh ix.boxes q) _ _ ∙ (rw (e, n))
