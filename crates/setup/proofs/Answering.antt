-- The refusals, rung by rung, what an accepted question may rely on, and what is answered.
use mathlib.Core.Bool.{Bool, true, ◌&&◌}
use mathlib.Core.List.{List}
use mathlib.Core.Path.{◌≡◌, refl, ap, sym, ◌∙◌, subst⁻¹}
use Prim.Native.Nat.{ℕ, ◌*◌, ◌≤◌, ◌<◌}
use native.Mathlib.Nat.{mul-le-mul_right}
use native.Mathlib.Omega.{arith}
use borrow.Author.Tests.{eqb-true, leb-true, ltb-true, eq-eqb, ne_eqb}
use lib.Dec.{lit<, eqb, leb, ltb}
use lib.IntN.{ℤ}
use lib.ListN.{length, get_or}
use Rattle.rules.proofs.Branches.{both_true, taken, left}
use Rattle.walk.specs.Walk.{Walk, block, fold, next_stamp, ready_marks}
use Rattle.walk.specs.Inside.{look, Walkable}
use Rattle.walk.proofs.Lists.{walk_is}
use Rattle.rules.proofs.Ladder.{demanded}
use Rattle.query.specs.declared.Patch.{Patch}
use Rattle.query.specs.Usable.{cells_usable}
use Rattle.walk.proofs.Marks.{ready_length}
use Rattle.query.proofs.Stretches.{walkable_cells}
use Rattle.ask.specs.Ask.{ended}
use Rattle.um.specs.Index.{Index}
use Rattle.setup.specs.declared.Best.{Best}
use Rattle.setup.specs.declared.Reach.{Reach}
use Rattle.setup.specs.declared.Seen.{Seen}
use Rattle.setup.specs.declared.Question.{Question}
use Rattle.setup.specs.Question.{is_question, reach_of, step_of, patch_of}
use Rattle.setup.specs.Answer.{is_marked, triangle_usable, member_usable, tables_usable, refusal_of_tables}
use Rattle.std.specs.Prelude.{Result, Ok, Err}
use Rattle.refusals.specs.declared.Refusal.{Refusal}
use Rattle.refusals.specs.Numbers.{number_of}
use Rattle.refusals.proofs.Named.{not_zero}
use Rattle.setup.specs.declared.Answer.{Answer as Found}
use Rattle.setup.specs.Answer.{told, refusal_of, setup_walk, refused_by, answered_by, setup_height_of}
use Rattle.setup.specs.Inside.{seen, Small}
use Rattle.setup.proofs.Reaching.{small_reach, patch_inside}
use Rattle.setup.proofs.Heads.{Headed, headed_is}

pub marked_is : (mesh : List ℤ) (marks : List ℕ) → is_marked mesh marks ≡ true → (length marks ≤ 65536) × (length mesh ≡ length marks * 9)
unfolding is_marked
marked_is mesh marks e =
    let a = both_true (leb (length marks) 65536) (eqb (length mesh) (length marks * 9)) e in
    (leb-true _ _ a.0, eqb-true _ _ a.1)

pub member_is : (mesh : List ℤ) (n : ℕ) (marks : List ℕ) (stamp i : ℕ) → member_usable mesh n marks stamp i ≡ true → (i < n) × (get_or marks i 0 ≤ stamp)
unfolding member_usable
member_is mesh n marks stamp i e =
    let a = both_true (ltb i n) (triangle_usable mesh i && leb (get_or marks i 0) stamp) e in
    (ltb-true i n a.0, leb-true _ _ (both_true (triangle_usable mesh i) (leb (get_or marks i 0) stamp) a.1).1)

-- what the test of the question's cells asks, and what it told
module _ (ix : Index) (marks : List ℕ) (stamp : ℕ) (w : Reach) (p : Patch) (e : p ≡ patch_of ix.header w) where
  pub tables_ask : Headed ix.mesh ix.header ix.starts → length ix.mesh ≡ length marks * 9
      → (length ix.mesh ≡ ix.header.n * 9) × (length marks ≡ ix.header.n) × (p.x1 ≤ ix.header.columns)
      × (p.y1 * ix.header.columns < length ix.starts)
  tables_ask d nine =
      subst⁻¹ (λ (p : Patch). (length ix.mesh ≡ ix.header.n * 9) × (length marks ≡ ix.header.n) × (p.x1 ≤ ix.header.columns)
      × (p.y1 * ix.header.columns < length ix.starts)) e
      (let i = patch_inside ix.header w in (
        d.nine,
        omega (arith, d.nine, nine),
        i.0,
        omega (arith, mul-le-mul_right {m = (patch_of ix.header w).y1} {n = ix.header.rows} ix.header.columns i.1, d.room),
      ))

  pub tables_told : (r t : Bool) → r ≡ cells_usable (member_usable ix.mesh ix.header.n marks stamp) ix.starts ix.members ix.header.columns p
      → r ≡ t → tables_usable ix marks stamp w ≡ t
  unfolding tables_usable
  tables_told r t f h = sym (f ∙ ap (cells_usable (member_usable ix.mesh ix.header.n marks stamp) ix.starts ix.members ix.header.columns) e) ∙ h

pub told_height : (stamp : ℕ) (r : Refusal) (o : Result Found Refusal) → o ≡ Err r → (told o stamp).height < 4294967296
unfolding told
told_height stamp r o h = rw h (omega arith)

module _ (ix : Index) (marks : List ℕ) (stamp : ℕ) (q : Question) where
  pub record Passed : Type 0 where
    pub few : length marks ≤ 65536
    pub nine : length ix.mesh ≡ length marks * 9
    pub asked : is_question q ≡ true
    pub head : Headed ix.mesh ix.header ix.starts
    pub tables : tables_usable ix marks stamp (reach_of q) ≡ true

  pub passed : refusal_of ix marks stamp q ≡ 0 → Passed
  unfolding refusal_of refusal_of_tables
  passed e =
      let a = demanded _ 1 _ (lit< tt) e in
      let b = demanded _ 2 _ (lit< tt) a.1 in
      let c = demanded _ 7 _ (lit< tt) b.1 in
      let d = demanded _ 7 _ (lit< tt) c.1 in
      let m = marked_is ix.mesh marks a.0 in
      record { few = m.0; nine = m.1; asked = b.0; head = headed_is _ _ _ c.0; tables = d.0 }

  abbrev cells : Patch
  cells = patch_of ix.header (reach_of q)

  pub walkable : Passed → Walkable ix.starts ix.members ix.header.n ix.header.columns cells.x0 cells.x1 cells.y0 cells.y1
  unfolding tables_usable
  walkable b =
      let i = patch_inside ix.header (reach_of q) in
      walkable_cells (member_usable ix.mesh ix.header.n marks stamp) ix.starts ix.members ix.header.columns cells b.tables
      ix.header.n ix.header.rows
      (λ k t. (member_is ix.mesh ix.header.n marks stamp k t).0) b.head.room i.0 i.1

  -- n is the refusal that the code found
  module _ (n : ℕ) (e : n ≡ refusal_of ix marks stamp q) where
    pub refused : (n ≡ 0 → ⊥) → ended (refused_by n stamp) marks ≡ setup_height_of ix marks stamp q
    unfolding setup_height_of
    refused h = rw (← e) (left _ _ _ _ (ne_eqb n 0 h) refl)

    module _ (z : n ≡ 0) where
      pub stands : Passed
      stands = passed (sym e ∙ z)

      -- what the walk may rely on, with the marks m that it begins with and the reach w
      pub may_walk : (m : List ℕ) (w : Reach) → m ≡ ready_marks marks stamp → w ≡ reach_of q
          → (length ix.mesh ≡ length m * 9) × (length m ≤ 65536) × (ix.header.floor < 4294967296) × Small w × (ix.header.x < 4294967296)
          × (ix.header.y < 4294967296) × (0 < ix.header.cell)
          × Walkable ix.starts ix.members (length m) ix.header.columns (patch_of ix.header w).x0 (patch_of ix.header w).x1
          (patch_of ix.header w).y0 (patch_of ix.header w).y1
      may_walk m w f g =
          let b = stands in
          let r = b.head.ranged in
          let l : length m ≡ length marks = ap length f ∙ ready_length marks stamp in
          let s : length m ≡ ix.header.n = omega (arith, l, b.nine, b.head.nine) in
          subst⁻¹ (λ (w : Reach). (length ix.mesh ≡ length m * 9) × (length m ≤ 65536) × (ix.header.floor < 4294967296) × Small w
          × (ix.header.x < 4294967296) × (ix.header.y < 4294967296) × (0 < ix.header.cell)
          × Walkable ix.starts ix.members (length m) ix.header.columns (patch_of ix.header w).x0 (patch_of ix.header w).x1
          (patch_of ix.header w).y0 (patch_of ix.header w).y1) g
          (omega (arith, l, b.nine), omega (arith, l, b.few), r.floor, small_reach q b.asked, r.x, r.y, r.cell, rw s (walkable b))

      pub answered : (m m' : List ℕ) (w : Reach) (next : ℕ) (s : Seen) → m ≡ ready_marks marks stamp → next ≡ next_stamp stamp → w ≡ reach_of q
          → seen m' s ≡ fold (look next (step_of ix.mesh w)) (seen m (record { count = 0; height = ix.header.floor; met = 0 }))
          (block ix.starts ix.members ix.header.columns (patch_of ix.header w).x0 (patch_of ix.header w).x1 (patch_of ix.header w).y0
          (patch_of ix.header w).y1)
          → ended (answered_by (seen m' s) next) m' ≡ setup_height_of ix marks stamp q
      unfolding setup_height_of setup_walk
      answered m m' w next s f g h i =
          let k : seen m' s ≡ setup_walk ix marks stamp q = unfold setup_walk in (i ∙ walk_is next (step_of ix.mesh w) _ _ ∙ (rw (f, g, h))) in
          ap (λ (x : ℕ). ended (answered_by (seen m' s) x) m') g
          ∙ taken _ _ _ _ (eq-eqb _ 0 (sym e ∙ z)) (ap (λ (u : Walk Best). ended (answered_by u (next_stamp stamp)) u.marks) k)

  pub refused_err : (r : Refusal) → number_of r ≡ refusal_of ix marks stamp q → (o : Result Found Refusal) → o ≡ Err r
      → ended (told o stamp) marks ≡ setup_height_of ix marks stamp q
  unfolding told
  refused_err r a o h = rw h (refused (number_of r) a (not_zero r))
