-- Demand 3 follows from what `max_height` answers.
use mathlib.Core.Bool.{true}
use mathlib.Core.List.{List}
use mathlib.Core.Logic.{inl, inr, ⊎_elim}
use mathlib.Core.Path.{◌≡◌, ap}
use Prim.Native.Nat.{ℕ, ◌<◌}
use native.Mathlib.Omega.{arith}
use Rattle.rules.specs.Every.{times}
use Rattle.walk.specs.Walk.{walked}
use Rattle.plane.specs.declared.Bounds.{Bounds}
use Rattle.plane.specs.Mesh.{triangle_of, top_of, bounds_of}
use Rattle.spans.specs.Mesh.{box_of}
use Rattle.grid.specs.Boxes.{box_at}
use Rattle.grid.specs.Index.{Index, BuiltFrom}
use Rattle.grid.proofs.Indexing.{index_sound}
use Rattle.query.specs.Looked.{looked_in}
use Rattle.query.proofs.Patches.{patch_inside}
use Rattle.query.proofs.Using.{usable_head}
use Rattle.query.proofs.Looks.{looks_shared}
use Rattle.ask.specs.Ask.{Answer}
use Rattle.ask.specs.Ask.{at_floor, Outcome, ended, told_by}
use Rattle.ask.proofs.Answers.{passed}
use Rattle.ask.proofs.Demands.{height_walked, height_promise}
use Rattle.height.specs.Sweep.{Sweep, patch_for, capsule_for, disk_step}
use Rattle.height.specs.Height.{is_sweep, max_height_of}
use Rattle.height.specs.Demand.{Demand3, DiskPromise}
use Rattle.height.proofs.Heights.{coordinate_real, fold_is, fold_none}

module _ (ix : Index) (marks : List ℕ) (stamp : ℕ) (s : Sweep) (a : Answer) (m : List ℕ) (e : ended a m ≡ max_height_of ix marks stamp s) where
  demand-3 : BuiltFrom ix → a.refusal ≡ 0
      → Demand3 ix (patch_for ix.header s) (capsule_for ix.header s) (looked_in ix marks stamp (patch_for ix.header s)) a
  unfolding max_height_of walked looked_in
  demand-3 b z =
      let sound = index_sound ix b in
      let top_is : (k : ℕ) → k < ix.header.n → (box_at ix.boxes k).top ≡ top_of (triangle_of ix.mesh k) = λ k l. unfold box_of bounds_of in
      ap (λ (u : Bounds). u.top) (sound.boxed k l) in
      let p = patch_for ix.header s in
      let i = patch_inside ix.header s.px s.py s.qx s.qy s.r in
      let q = capsule_for ix.header s in
      let is = looked_in ix marks stamp p in
      let w = height_walked (is_sweep s) true ix marks stamp p i.0 i.1 (disk_step ix.mesh ix.boxes q) a m e z in
      let l = (height_promise (is_sweep s) true ix marks stamp p i.0 i.1 (disk_step ix.mesh ix.boxes q) a m e).looked b z in
      let c = passed _ _ _ _ _ _ w.0 in
      let u = c.index_stands in
      let shared = looks_shared ix marks stamp p sound u c.marked.nine i.0 i.1 in
      let real = coordinate_real ix.header.floor (usable_head ix marks stamp p u).ranged.floor in
      let v = ap (λ (o : Outcome Answer). told_by o.answer) w.1 in
      let y = ap (λ (o : Outcome Answer). o.answer.height) w.1 in
      record {
        looks = l.looks;
        count = l.all;
        height = rw v
            (⊎_elim inl
            (λ o. inr (record { above = o.above; of_them = shared _ o.looked; computed = o.computed }))
            (fold_is ix.mesh ix.boxes q is (at_floor ix.header.floor) real));
        none = λ k t z touch g above higher.
            let n : 0 < times k is = omega (arith, l.looks.each k t) in
            fold_none ix.mesh ix.boxes q is (at_floor ix.header.floor) real k n z touch g (rw (y, ← top_is k t.triangle) at above) (rw y at higher);
      }

  pub disk_promise : DiskPromise ix marks stamp s a
  unfolding max_height_of
  disk_promise =
      let i = patch_inside ix.header s.px s.py s.qx s.qy s.r in
      record {
        accepted = (height_promise (is_sweep s) true ix marks stamp (patch_for ix.header s) i.0 i.1 _ a m e).accepted;
        demand3 = demand-3;
      }
