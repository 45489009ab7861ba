-- What an accepted question has for the walks of a cutter: its tables, and marks of which none is the new stamp.
use mathlib.Core.Bool.{Bool, true}
use mathlib.Core.List.{List}
use mathlib.Core.Path.{◌≡◌, ap, sym, ◌∙◌, subst}
use Prim.Native.Nat.{ℕ, ◌+◌, ◌-◌, ◌*◌, ◌≤◌, ◌<◌}
use native.Mathlib.Omega.{arith}
use lib.Dec.{eqb}
use lib.ListN.{length, get_or, get_or-replicate}
use Rattle.numbers.specs.Reals.{f0}
use Rattle.rules.proofs.Branches.{by_test}
use Rattle.plane.specs.declared.Best.{Best}
use Rattle.walk.specs.Walk.{cell, row, next_stamp, ready_marks}
use Rattle.grid.specs.Index.{Index}
use Rattle.query.specs.declared.Patch.{Patch}
use Rattle.query.specs.Usable.{usable}
use Rattle.query.specs.Looked.{within}
use Rattle.query.proofs.Using.{usable_head, usable_member}
use Rattle.query.proofs.Looks.{over_in, place_of}
use Rattle.walk.proofs.Marks.{ready_length}
use Rattle.ask.specs.Ask.{at_floor, refusal_of}
use Rattle.ask.proofs.Narrowing.{Narrow}
use Rattle.ask.proofs.Answers.{passed, ready}
use Rattle.tips.specs.Inside.{Fresh, Ready}

ready_fresh : (marks : List ℕ) (stamp i : ℕ) → i < length marks → get_or marks i 0 ≤ stamp → get_or (ready_marks marks stamp) i 0 ≡ next_stamp stamp → ⊥
unfolding ready_marks next_stamp
ready_fresh marks stamp i l h =
    by_test (eqb stamp 4294967295)
    (λ e. rw e (λ z. omega (arith, z, get_or-replicate {A = ℕ} (length marks) i 0 0 l)))
    (λ e. rw e (λ z. omega (arith, z, h)))

module _ (ix : Index) (marks : List ℕ) (stamp : ℕ) (p : Patch) (u : usable ix marks stamp p ≡ true) (nine : length ix.mesh ≡ length marks * 9) where
  all_fresh : Fresh (next_stamp stamp) (ready_marks marks stamp) (within ix p)
  all_fresh i t =
      let b = over_in (row ix.starts ix.members ix.header.columns p.x0 p.x1) p.y0 (p.y1 - p.y0) i t in
      let a = over_in (λ x. cell ix.starts ix.members (b.at * ix.header.columns + x)) p.x0 (p.x1 - p.x0) i b.stands in
      let k = place_of i (cell ix.starts ix.members (b.at * ix.header.columns + a.at)) a.stands in
      let m = usable_member ix marks stamp p u a.at b.at k.at a.from (omega (arith, a.from, a.past)) b.from
      (omega (arith, b.from, b.past)) k.inside in
      let n : i < ix.header.n = rw k.is at m.below in
      let l : i < length marks = omega (arith, n, nine, (usable_head ix marks stamp p u).nine) in
      (rw (ready_length marks stamp) l, ready_fresh marks stamp i l (rw k.is at m.mark))

module _ (numbers tool : Bool) (ix : Index) (marks : List ℕ) (stamp : ℕ) (p : Patch) (n : ℕ) (e : n ≡ refusal_of numbers tool ix marks stamp p) where
  pub ready_walks : (next : ℕ) (m : List ℕ) → n ≡ 0 → next ≡ next_stamp stamp → m ≡ ready_marks marks stamp
      → (p.x1 ≤ ix.header.columns) × (p.y1 ≤ ix.header.rows) → {starts members : List ℕ} {q : Patch} → Narrow ix p starts members q
      → Ready ix.mesh ix.boxes starts members ix.header.columns q m next
  ready_walks next m z f g i w =
      let a = passed numbers tool ix marks stamp p (sym e ∙ z) in
      let r = ready numbers tool ix marks stamp p n e {A = Best} next m (at_floor f0) z g i w in
      record {
        tables = record { nine = r.0; five = r.3; few = omega (arith, ap length g, ready_length marks stamp, a.marked.few); cells = r.1 };
        fresh = λ k t.
            subst (λ (s : ℕ). Fresh s m (within ix p)) (sym f)
            (subst (λ (l : List ℕ). Fresh (next_stamp stamp) l (within ix p)) (sym g) (all_fresh ix marks stamp p a.index_stands a.marked.nine))
            k (w.inside k t);
      }
