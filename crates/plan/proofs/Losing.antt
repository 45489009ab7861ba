-- Nothing is lost between the halves: the pieces of each stretch lead from its first point to its last, and a kept one can be asked again.
use mathlib.Core.Bool.{Bool, true, false, ◌&&◌}
use mathlib.Core.List.{List, [], ◌∷◌}
use mathlib.Core.Path.{◌≡◌, refl, sym, ap, subst, ◌∙◌}
use Prim.Native.Nat.{ℕ, zero, suc, ◌+◌, ◌-◌, ◌*◌, ◌≤◌, ◌<◌}
use native.Mathlib.Omega.{arith}
use borrow.Author.Tests.{eq-eqb, le-leb, ltb-true, eqb-true, eqb-false}
use lib.Dec.{eqb, ltb, leb, lit<}
use lib.Ieee.{Float, lt, le}
use lib.ListN.{length, get_or, replicate, length-replicate}
use Rattle.numbers.specs.Reals.{◌⊕◌, f0, millionth, two_million, two_millionths}
use Rattle.rules.proofs.Branches.{both_true, by_test, no}
use Rattle.rules.specs.Every.{is_from, every, each}
use Rattle.plane.specs.Ranges.{is_coordinate, is_radius}
use Rattle.grid.specs.Index.{Index}
use Rattle.grid.specs.Header.{in_ranges}
use Rattle.rules.proofs.Ladder.{demand_next, demanded}
use Rattle.walk.specs.Walk.{cell}
use Rattle.header.specs.Head.{head_usable}
use Rattle.header.proofs.Ranges.{Headed, headed_is}
use Rattle.query.specs.declared.Patch.{Patch}
use Rattle.grid.specs.Boxes.{is_boxed}
use Rattle.query.specs.Asked.{is_marked}
use Rattle.query.specs.Usable.{triangle_usable, member_usable, cell_usable, row_usable, cells_usable, usable, usable_whole}
use Rattle.rules.proofs.Testing.{in_rows, every_at, every_all}
use Rattle.query.proofs.Patches.{patch_inside}
use Rattle.ask.specs.Ask.{refusal_of, answer_of, asked_height}
use Rattle.height.specs.Sweep.{Sweep, sweep, patch_for, capsule_walk, sweep_walk}
use Rattle.height.specs.Height.{is_sweep, max_height_of}
use Rattle.runs.specs.declared.Run.{Run}
use Rattle.fives.specs.Tables.{room_of}
use Rattle.runs.specs.Runs.{joined_of}
use Rattle.runs.specs.Pieces.{kept_of, dropped_by}
use Rattle.runs.specs.Chains.{EachKept, Whole}
use Rattle.runs.proofs.Chaining.{each_append, each_more, each_both, whole, joined_lie, kept_each, lie_made}
use Rattle.rows.specs.declared.Axis.{Axis}
use Rattle.parameters.specs.declared.Parameters.{Parameters}
use Rattle.parameters.specs.Terms.{are_terms, too_fine, any_of, refusal_of_levels}
use Rattle.probe.specs.Probe.{height_under}
use Rattle.row_runs.specs.Search.{Found}
use Rattle.row_runs.specs.Sampled.{clear_at, halves_of, halves_of_all}
use Rattle.row_runs.proofs.Sampling.{levels_halved}
use Rattle.plan.specs.Plan.{Planned}
use Rattle.plan.specs.Plan.{refusal_of_input, refusal_of_tables, levels_under, found_on, Outcome, outcome, worked_of, plan_of}
use Rattle.plan.specs.Lost.{asked_again, Safe, stretches_on, pieces_on, halves_on, NothingLost}
use Rattle.plan.proofs.Surveying.{survey_taken}
use Rattle.plan.proofs.Pointing.{Pointed, pieces_pointed}

-- ---- what 7 lets pass over the whole grid, it lets pass for every question with wiped marks

each_more_tests : (t u : ℕ → Bool) → ((i : ℕ) → t i ≡ true → u i ≡ true) → (is : List ℕ) → each t is ≡ true → each u is ≡ true
unfolding each
each_more_tests t u f [] e = refl
each_more_tests t u f (i ∷ is) e =
    let p = both_true (t i) (each t is) e in
    rw (f i p.0) (each_more_tests t u f is p.1)

zero_marks : (n i : ℕ) → get_or {A = ℕ} (replicate n 0) i 0 ≡ 0
zero_marks zero i = refl
zero_marks (suc n) zero = refl
zero_marks (suc n) (suc i) = zero_marks n i

skip : (a b : Bool) → (a && b) ≡ true → b ≡ true
skip true b e = e
skip false b e = absurd (no e)

module _ (ix : Index) (e : usable_whole ix ≡ true) (boxed : is_boxed ix.mesh ix.boxes ≡ true) where
  abbrev low : ℕ → Bool
  low i = ltb i ix.header.n

  abbrev passes : ℕ → Bool
  passes = member_usable ix.mesh ix.boxes ix.header.n (replicate ix.header.n 0) 0

  parts : (head_usable ix.mesh ix.header ix.starts ≡ true) × ((every (triangle_usable ix.mesh ix.boxes) 0 ix.header.n && every
      (cell_usable low ix.starts ix.members) 0 (ix.header.rows * ix.header.columns)) ≡ true)
  unfolding usable_whole
  parts = both_true (head_usable ix.mesh ix.header ix.starts) (every (triangle_usable ix.mesh ix.boxes) 0 ix.header.n && every
      (cell_usable low ix.starts ix.members) 0 (ix.header.rows * ix.header.columns)) e

  tables : (every (triangle_usable ix.mesh ix.boxes) 0 ix.header.n ≡ true)
      × (every (cell_usable low ix.starts ix.members) 0 (ix.header.rows * ix.header.columns) ≡ true)
  tables = both_true (every (triangle_usable ix.mesh ix.boxes) 0 ix.header.n)
      (every (cell_usable low ix.starts ix.members) 0 (ix.header.rows * ix.header.columns)) parts.1

  head : Headed ix.mesh ix.header ix.starts
  head = headed_is ix.mesh ix.header ix.starts parts.0

  member_passes : (i : ℕ) → low i ≡ true → passes i ≡ true
  unfolding member_usable
  member_passes i l = rw (
    l,
    every_at (triangle_usable ix.mesh ix.boxes) 0 ix.header.n i tables.0 (omega arith)
        (omega (arith, ltb-true i ix.header.n l)),
    zero_marks ix.header.n i,
  )

  cell_passes : (c : ℕ) → c < ix.header.rows * ix.header.columns → cell_usable passes ix.starts ix.members c ≡ true
  unfolding cell_usable
  cell_passes c l =
      let a = leb (get_or ix.starts c 0) (get_or ix.starts (c + 1) 0) in
      let b = leb (get_or ix.starts (c + 1) 0) (length ix.members) in
      let u = both_true a (b && each low (cell ix.starts ix.members c))
      (every_at (cell_usable low ix.starts ix.members) 0 (ix.header.rows * ix.header.columns) c tables.1 (omega arith) (omega arith)) in
      let v = both_true b (each low (cell ix.starts ix.members c)) u.1 in
      rw (u.0, v.0) (each_more_tests low passes member_passes (cell ix.starts ix.members c) v.1)

  pub patch_passes : (q : Patch) → q.x1 ≤ ix.header.columns → q.y1 ≤ ix.header.rows → usable ix (replicate ix.header.n 0) 0 q ≡ true
  unfolding usable cells_usable row_usable
  patch_passes q right top =
      rw parts.0
      (every_all (λ y. every (λ x. cell_usable passes ix.starts ix.members (y * ix.header.columns + x)) q.x0 (q.x1 - q.x0)) q.y0 (q.y1 - q.y0)
      (λ y a b.
      every_all (λ x. cell_usable passes ix.starts ix.members (y * ix.header.columns + x)) q.x0 (q.x1 - q.x0)
      (λ x c d.
      cell_passes (y * ix.header.columns + x) (omega (arith, in_rows ix.header.columns (x + 1) y ix.header.rows (omega arith) (omega arith))))))

  radius_fits : is_radius ix.header.r ≡ true
  unfolding head_usable in_ranges
  radius_fits =
      skip (lt f0 ix.header.eps && le ix.header.eps two_millionths) _
      (skip (is_from 1 1048576 (ix.header.rows * ix.header.columns)) _
      (skip (is_from 1 65536 ix.header.rows) _
      (skip (is_from 1 65536 ix.header.columns) _
      (skip (le millionth ix.header.cell && le ix.header.cell two_million) _
      (skip (is_coordinate ix.header.floor) _
      (skip (is_coordinate ix.header.origin_y) _
      (skip (is_coordinate ix.header.origin_x) _
      (skip (is_from 1 65536 ix.header.n) _ (both_true (in_ranges ix.header)
      (eqb (length ix.mesh) (ix.header.n * 9) && leb (ix.header.rows * ix.header.columns + 1) (length ix.starts)) parts.0).0))))))))

  pub marked : is_marked ix.mesh (replicate ix.header.n 0) ≡ true
  unfolding is_marked
  marked = rw (
    length-replicate {A = ℕ} ix.header.n 0,
    le-leb ix.header.n 65536 head.ranged.few,
    eq-eqb (length ix.mesh) (ix.header.n * 9) head.nine,
  )

  -- ---- a run asked again

  module _ (q : Run) where
    abbrev s : Sweep
    s = sweep q.ax q.ay q.bx q.by ix.header.r

    not_refused : Pointed q → refusal_of (is_sweep s) true ix (replicate ix.header.n 0) 0 (patch_for ix.header s) ≡ 0
    unfolding refusal_of is_sweep
    not_refused f =
        let i = patch_inside ix.header q.ax q.ay q.bx q.by ix.header.r in
        sym
        (demand_next _ 1 _ 0 marked
        (demand_next _ 23 _ 0 boxed
        (demand_next _ 2 _ 0 (rw (f, radius_fits))
        (demand_next true 8 _ 0 refl
        (demand_next _ 7 0 0 (patch_passes (patch_for ix.header s) i.0 i.1) refl)))))

    pub again_is : Pointed q → ((asked_again ix q).refusal ≡ 0) × ((asked_again ix q).height ≡ height_under ix q)
    unfolding asked_again max_height_of asked_height answer_of height_under sweep_walk capsule_walk
    again_is f =
        let z = not_refused f in (
          ap (λ (k : ℕ). (answer_of k (replicate ix.header.n 0) 0 (sweep_walk ix (replicate ix.header.n 0) 0 s)).answer.refusal) z,
          ap (λ (k : ℕ). (answer_of k (replicate ix.header.n 0) 0 (sweep_walk ix (replicate ix.header.n 0) 0 s)).answer.height) z,
        )

    safe : (tolerance : Float) → le (height_under ix q) (q.z ⊕ tolerance) ≡ true → Pointed q → Safe ix tolerance q
    safe tolerance e f = let a = again_is f in record { height = e; again = (a.0, subst (λ (x : Float). le x (q.z ⊕ tolerance) ≡ true) (sym a.1) e) }

  -- ---- all pieces of the plan

  module _ (p : Parameters) (axis : Axis) where
    abbrev under : Run → Float
    under = height_under ix

    stretch_whole : (s : Run) → Whole (clear_at under p ix.header.r) s (halves_on ix p axis s)
    unfolding halves_of
    stretch_whole s = whole (clear_at under p ix.header.r) _ 32 s

    abbrev Clear : Run → Type 0
    Clear q = clear_at under p ix.header.r q ≡ true

    each_clear : (ss : List Run) → EachKept Clear (halves_of_all under p ix.header.r ss)
    unfolding halves_of_all
    each_clear [] = unfold EachKept in tt
    each_clear (s ∷ ss) = each_append Clear (halves_of under p ix.header.r s) (halves_of_all under p ix.header.r ss)
        (stretch_whole s).kept (each_clear ss)

    clear_safe : (q : Run) → Clear q × Pointed q → Safe ix p.tolerance q
    unfolding clear_at
    clear_safe q e = safe q p.tolerance e.0 e.1

    pieces_are : pieces_on ix p axis ≡ halves_of_all under p ix.header.r (stretches_on ix p axis)
    unfolding found_on stretches_on halves_of_all
    pieces_are = ap (λ (f : Found). f.pieces) (levels_halved under p ix.header.r axis (levels_under ix p) (record { rows = 0; stretches = [] }))

    pieces_safe : any_of (too_fine p axis ix.header.r) (levels_under ix p) ≡ false → EachKept (Safe ix p.tolerance) (pieces_on ix p axis)
    pieces_safe coarse =
        let ps = halves_of_all under p ix.header.r (stretches_on ix p axis) in
        let both = each_both Clear Pointed ps (each_clear (stretches_on ix p axis)) (pieces_pointed ix p axis tables.0 radius_fits coarse) in
        subst (EachKept (Safe ix p.tolerance)) (sym pieces_are) (each_more (λ q. Clear q × Pointed q) (Safe ix p.tolerance) clear_safe ps both)

    pub nothing_lost : (a : Planned) → any_of (too_fine p axis ix.header.r) (levels_under ix p) ≡ false
        → a.dropped ≡ dropped_by f0 (pieces_on ix p axis) → NothingLost ix p axis a
    nothing_lost a coarse d =
        record {
          pieces = pieces_are;
          chained = λ s. (stretch_whole s).chained;
          kept = pieces_safe coarse;
          dropped = d;
          joined = joined_lie (kept_of (pieces_on ix p axis));
          runs = lie_made (Safe ix p.tolerance) _ _ (joined_lie (kept_of (pieces_on ix p axis)))
              (kept_each (Safe ix p.tolerance) (pieces_on ix p axis) (pieces_safe coarse));
        }

-- ---- an accepted plan

module _ (ix : Index) (marks : List ℕ) (levels runs : List Float) (p : Parameters) (axis : Axis) where
  abbrev planned : Outcome
  planned = plan_of ix marks levels runs p axis

  input_passed_all : refusal_of_input ix marks p ≡ 0 → (usable_whole ix ≡ true) × (is_boxed ix.mesh ix.boxes ≡ true)
  unfolding refusal_of_input
  input_passed_all z =
      let a = demanded (is_marked ix.mesh marks) 1 _ (lit< tt) z in
      let x = demanded (is_boxed ix.mesh ix.boxes) 23 _ (lit< tt) a.1 in
      let b = demanded (are_terms p ix.header.r ix.header.floor) 9 _ (lit< tt) x.1 in
      ((demanded (usable_whole ix) 7 0 (lit< tt) b.1).0, x.0)

  abbrev late : ℕ
  late = refusal_of_tables (room_of levels) (room_of runs) p axis ix.header.r (levels_under ix p) (joined_of (kept_of (pieces_on ix p axis)))

  -- what a plan that is not refused says of its levels and of its dropped length
  abbrev Worked : Outcome → Type 0
  Worked o = (any_of (too_fine p axis ix.header.r) (levels_under ix p) ≡ false) × (o.answer.dropped ≡ dropped_by f0 (pieces_on ix p axis))

  late_coarse : late ≡ 0 → any_of (too_fine p axis ix.header.r) (levels_under ix p) ≡ false
  unfolding refusal_of_tables
  late_coarse =
      let k = refusal_of_levels (room_of levels) p axis ix.header.r (levels_under ix p) in
      by_test (eqb k 0)
      (λ (t : eqb k 0 ≡ true). λ _. (survey_taken levels (levels_under ix p) p axis ix.header.r (eqb-true k 0 t)).coarse)
      (λ (t : eqb k 0 ≡ false). rw t (λ (z : k ≡ 0). absurd (eqb-false k 0 t z)))

  worked_dropped : (worked_of ix marks levels runs p axis).answer.refusal ≡ 0 → Worked (worked_of ix marks levels runs p axis)
  unfolding worked_of
  worked_dropped =
      by_test (eqb late 0)
      (λ (t : eqb late 0 ≡ true). rw t (λ _. (late_coarse (eqb-true late 0 t), refl)))
      (λ (t : eqb late 0 ≡ false). rw t (λ (z : late ≡ 0). absurd (eqb-false late 0 t z)))

  accepted : planned.answer.refusal ≡ 0 → ((usable_whole ix ≡ true) × (is_boxed ix.mesh ix.boxes ≡ true)) × Worked planned
  unfolding plan_of
  accepted =
      let k = refusal_of_input ix marks p in
      by_test (eqb k 0)
      (λ (t : eqb k 0 ≡ true). rw t (λ z. (input_passed_all (eqb-true k 0 t), worked_dropped z)))
      (λ (t : eqb k 0 ≡ false). rw t (λ (z : k ≡ 0). absurd (eqb-false k 0 t z)))

  -- what `plan` promises of the pieces
  pub lost_none : (a : Planned) (l r : List Float) (m : List ℕ) → outcome a l r m ≡ planned → a.refusal ≡ 0 → NothingLost ix p axis a
  lost_none a l r m e z =
      let n : planned.answer ≡ a = ap (λ (o : Outcome). o.answer) (sym e) in
      let c = accepted (ap (λ (x : Planned). x.refusal) n ∙ z) in
      nothing_lost ix c.0.0 c.0.1 p axis a c.1.0 (ap (λ (x : Planned). x.dropped) (sym n) ∙ c.1.1)
