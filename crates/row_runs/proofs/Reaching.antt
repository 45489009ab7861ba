-- The sampled stretches of levels that are not too fine have ends of a magnitude of at most 3e6, and so have their pieces: a middle lies between its two ends.
use mathlib.Core.Bool.{Bool, true, false, ◌||◌}
use mathlib.Core.List.{List, [], ◌∷◌}
use mathlib.Core.Path.{◌≡◌, refl, sym}
use Prim.Native.Nat.{ℕ, zero, suc, ◌+◌, ◌%◌, ◌≤◌}
use native.Mathlib.Omega.{arith}
use borrow.Author.Tests.{ltb-false}
use lib.Dec.{eqb, ltb}
use lib.IntN.{pos}
use lib.Ieee.{Float, binary64, of_bits, of_int, round}
use Rattle.numbers.specs.Reals.{◌⊕◌, f2}
use Rattle.rules.proofs.Branches.{either, no}
use Rattle.plane.specs.Ranges.{is_radius}
use Rattle.order.proofs.Whole.{Bounded, bounded_add, within_div}
use Rattle.fives.specs.Groups.{Each}
use Rattle.fives.proofs.Grouping.{each_append}
use Rattle.levels.specs.declared.Level.{Level}
use Rattle.levels.proofs.Boxes.{Boxed}
use Rattle.runs.specs.declared.Run.{Run}
use Rattle.runs.specs.Pieces.{middle, first_half, second_half}
use Rattle.runs.specs.Chains.{EachKept}
use Rattle.runs.proofs.Chaining.{each_append as kept_append, handed_on}
use Rattle.rows.specs.declared.Axis.{Axis}
use Rattle.rows.specs.declared.Lane.{Lane}
use Rattle.rows.specs.Lanes.{spread_of, intervals_of, step_of, samples_of, between}
use Rattle.rows.specs.Stretches.{Ends, stretches_of, backward}
use Rattle.rows.proofs.Reaching.{Reached, Inside, spread_reach, parts_some, between_reached, cross_reached, stretches_inside, backward_inside}
use Rattle.parameters.specs.declared.Parameters.{Parameters}
use Rattle.parameters.specs.Terms.{too_fine, any_of}
use Rattle.probe.specs.declared.Aim.{Aim}
use Rattle.probe.specs.Probe.{on_level}
use Rattle.row_runs.specs.Search.{empty, directed, aim_of, lane_of}
use Rattle.row_runs.specs.Sampled.{Sampled, stretches_along, row_sampled, rows_sampled, level_sampled, levels_sampled, clear_at, halves_of, halves_of_all}

-- every run of a row between two of its samples
abbrev Ready : Lane → Type 0
Ready l = (e : Ends) → Inside l.samples e → Reached (between l e.from e.to)

neither : (a b : Bool) → (a || b) ≡ false → (a ≡ false) × (b ≡ false)
neither false b e = (refl, e)
neither true b e = absurd (no (sym e))

-- ---- rows
along_reached : (l : Lane) → Ready l → (es : List Ends) → Each (Inside l.samples) es → Each Reached (stretches_along l es)
unfolding stretches_along Each
along_reached l f [] i = tt
along_reached l f (e ∷ es) i = (f e i.0, along_reached l f es i.1)

module _ (under : Run → Float) (a : Aim) where
  row_reached : (s : Sampled) (l : Lane) → Ready l → Each Reached s.stretches → Each Reached (row_sampled under a s l).stretches
  unfolding row_sampled directed
  row_reached s l f g =
      let es = stretches_of (on_level under a l) l.samples in
      let i = stretches_inside (on_level under a l) l.samples in
      let d = either (Each (Inside l.samples)) (eqb ((s.rows + 1) % 2) 0) (backward es) es (λ _. backward_inside l.samples es i) (λ _. i) in
      either (λ (t : Sampled). Each Reached t.stretches) (empty es) _ _ (λ _. g) (λ _. each_append Reached s.stretches _ g (along_reached l f _ d))

  rows_reached : (lane : ℕ → Lane) (m : ℕ) → ((row : ℕ) → row ≤ m → Ready (lane row))
      → (n : ℕ) (s : Sampled) (row : ℕ) → row + n ≤ m + 1 → Each Reached s.stretches → Each Reached (rows_sampled under a lane s row n).stretches
  unfolding rows_sampled
  rows_reached lane m f zero s row h g = g
  rows_reached lane m f (suc n) s row h g =
      rows_reached lane m f n (row_sampled under a s (lane row)) (row + 1) (omega arith) (row_reached s (lane row) (f row (omega arith)) g)

-- ---- levels
module _ (under : Run → Float) (p : Parameters) (axis : Axis) (r : Float) (e : is_radius r ≡ true) where
  lane_ready : (l : Level) → Boxed l → too_fine p axis r l ≡ false
      → (row : ℕ) → row ≤ intervals_of (spread_of axis r l) p.stepover → Ready (lane_of p axis r l row)
  unfolding lane_of too_fine
  lane_ready l b t row h ends i =
      let s = spread_of axis r l in
      let n = intervals_of s p.stepover in
      let k = samples_of s (step_of p.stepover r) in
      let c = neither (ltb 65535 n) (ltb 65535 k) t in
      let w = spread_reach r e axis l b in
      between_reached (lane_of p axis r l row) ends w (unfold samples_of in parts_some _ _) (ltb-false 65535 k c.1)
      (cross_reached s n row w (unfold intervals_of in parts_some _ _) (ltb-false 65535 n c.0) h) i

  pub levels_reached : (ls : List Level) (s : Sampled) → Each Boxed ls → any_of (too_fine p axis r) ls ≡ false
      → Each Reached s.stretches → Each Reached (levels_sampled under p axis r s ls).stretches
  unfolding levels_sampled level_sampled any_of Each
  levels_reached [] s b t g = g
  levels_reached (l ∷ ls) s b t g =
      let c = neither (too_fine p axis r l) (any_of (too_fine p axis r) ls) t in
      levels_reached ls (level_sampled under p axis r s l) b.1 c.1
      (rows_reached under (aim_of p r l) (lane_of p axis r l) (intervals_of (spread_of axis r l) p.stepover) (lane_ready l b.0 c.0) _ s 0 (omega arith) g)

-- ---- halves
middle_bounded : (a b : Float) → Bounded 3000000 a → Bounded 3000000 b → Bounded 3000000 (middle a b)
middle_bounded a b p q =
    let two : f2 ≡ of_int binary64 (pos 2) = unfold of_bits of_int round in refl in
    rw two
    (within_div (a ⊕ b) 6000000 6000000 2 (omega arith) (bounded_add a b 3000000 3000000 (omega arith) p q) 3000000 3000000
    (omega arith) (omega arith) (omega arith) (omega arith) (omega arith))

halves_reached : (q : Run) → Reached q → Reached (first_half q) × Reached (second_half q)
halves_reached q h =
    let x = middle_bounded q.ax q.bx h.ax h.bx in
    let y = middle_bounded q.ay q.by h.ay h.by in
    (record { ax = h.ax; ay = h.ay; bx = x; by = y }, record { ax = x; ay = y; bx = h.bx; by = h.by })

pub pieces_reached : (under : Run → Float) (p : Parameters) (r : Float) (ss : List Run) → Each Reached ss → EachKept Reached (halves_of_all under p r ss)
unfolding halves_of_all halves_of Each
pieces_reached under p r [] h = unfold EachKept in tt
pieces_reached under p r (s ∷ ss) h =
    kept_append Reached (halves_of under p r s) (halves_of_all under p r ss)
    (handed_on Reached halves_reached (clear_at under p r) _ 32 s h.0) (pieces_reached under p r ss h.1)
