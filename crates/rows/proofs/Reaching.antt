-- Where rows and samples lie. A level's box grown by the radius lies within 2e6. A row or a sample lies between its ends but for what rounding adds, which is
-- less than the number of steps + 1. So with at most 65,535 steps the ends of a row's runs have a magnitude of at most 3e6.
use Rattle.std.proofs.Common.{◌≡◌, ℕ, ◌+◌, ◌*◌, ◌/◌, ◌<◌, ◌≤◌, Bool, true, false, ltb, List, [], ◌∷◌, map, reverse, length, pos, sym, subst, add-mul, mul-le-mul, one-mul, div-le_self, div-mul-le_self, arith, ltb-true}
use mathlib.Core.List.{reverse-cons}
use native.Mathlib.Nat.{lt-div-mul-add}
use lib.Ieee.{Float, nan, inf, fin, lt, is_nan, to_unsigned, of_bits}
use Rattle.numbers.specs.Reals.{◌⊕◌, ◌⊖◌, ◌⊗◌, ◌⊘◌, f1, max_of, f1_is}
use Rattle.numbers.specs.Rounding.{round_up_of}
use Rattle.rules.proofs.Branches.{either, by_test, no}
use Rattle.plane.specs.Ranges.{is_radius}
use Rattle.order.proofs.Ranges.{cut_up}
use Rattle.order.proofs.Extremes.{not_below_lem}
use Rattle.order.proofs.Whole.{Within, Bounded, within_more, bounded_add, bounded_sub, within_mul, within_times}
use Rattle.order.proofs.Whole.{within_div, ahead, back, ahead_few, back_few, width_within, further}
use Rattle.bound.proofs.Small.{coordinate_bounded, radius_bounded}
use Rattle.fives.specs.Groups.{Each}
use Rattle.fives.proofs.Grouping.{each_append}
use Rattle.levels.specs.declared.Level.{Level}
use Rattle.levels.proofs.Boxes.{Side, Boxed}
use Rattle.runs.specs.declared.Run.{Run}
use Rattle.rows.specs.declared.Axis.{Axis}
use Rattle.rows.specs.declared.Axis.TheVariants.{X, Y}
use Rattle.rows.specs.declared.Spread.{Spread}
use Rattle.rows.specs.declared.Lane.{Lane}
use Rattle.rows.specs.Lanes.{real, spread_of, parts_of, cross_of, along_of, laid_of, between}
use Rattle.rows.specs.Stretches.{Ends, sampled, ended_at, stretches_from, stretches_of, turned, backward}
use Rattle.rows.proofs.Turning.{sampled_length}

-- ---- the box grown by the radius
abbrev pub Edge : Float → Float → Type 0
Edge low high = Bounded 2000000 low × Bounded 2000000 high

pub record Spreading (s : Spread) : Type 0 where
  pub along : Edge s.a0 s.a1
  pub across : Edge s.c0 s.c1

module _ (r : Float) (e : is_radius r ≡ true) where
  edge : (low high : Float) → Side low high → Edge (low ⊖ r) (high ⊕ r)
  edge low high s =
      let u = radius_bounded r e in (
        bounded_sub low r 1000000 1000000 (omega arith) (coordinate_bounded low s.0) u,
        bounded_add high r 1000000 1000000 (omega arith) (coordinate_bounded high s.1) u,
      )

  pub spread_reach : (axis : Axis) (l : Level) → Boxed l → Spreading (spread_of axis r l)
  unfolding spread_of
  spread_reach X l b = record { along = edge _ _ b.x; across = edge _ _ b.y }
  spread_reach Y l b = record { along = edge _ _ b.y; across = edge _ _ b.x }

-- ---- a width is parted into at least 1 step
cut_some : (x : Float) → is_nan x ≡ false → lt x f1 ≡ false → 0 < to_unsigned 64 x
unfolding is_nan lt to_unsigned
cut_some nan n l = absurd (no (sym n))
cut_some (inf true) n l = absurd (no (sym (rw f1_is at l)))
cut_some (inf false) n l = omega arith
cut_some (fin s m c) n l = cut_up 64 (fin false 1 (pos 0)) (fin s m c) tt tt (not_below_lem (fin s m c) (fin false 1 (pos 0)) tt tt (rw f1_is at l))

pub parts_some : (width step : Float) → 0 < parts_of width step
unfolding parts_of max_of
parts_some width step =
    let x = round_up_of (width ⊘ step) in
    by_test (is_nan x)
    (λ (n : is_nan x ≡ true). rw n one)
    (λ (n : is_nan x ≡ false). by_test (lt x f1) (λ (l : lt x f1 ≡ true). rw (n, l) one) (λ (l : lt x f1 ≡ false). rw (n, l) (cut_some x n l)))
  where
    one : 0 < to_unsigned 64 f1
    one = unfold of_bits to_unsigned in omega arith

-- ---- between two edges, in either order, with n steps, of which k are made
module _ (w n k : ℕ) (some : 0 < n) (inside : k ≤ n) where
  step_holds : w ≤ (w / n + 1) * n
  step_holds = omega (arith, lt-div-mul-add {a = w} {b = n} some, add-mul (w / n) 1 n, one-mul n)

  steps_end : (w / n + 1) * k ≤ w + n
  steps_end =
      let q = w / n + 1 in
      omega (arith, mul-le-mul {n₁ = q} {m₁ = k} {n₂ = q} {m₂ = n} (omega arith) inside, div-mul-le_self w n, add-mul (w / n) 1 n, one-mul n)

module _ (a b : Float) (e : Edge a b) (n k : ℕ) (some : 0 < n) (few : n ≤ 65535) (inside : k ≤ n) where
  abbrev on : ℕ
  on = ahead a b 2000000 e.0 e.1

  abbrev off : ℕ
  off = back a b 2000000 e.0 e.1

  on_few : on ≤ 4000001
  on_few = ahead_few a b 2000000 e.0 e.1

  off_few : off ≤ 4000001
  off_few = back_few a b 2000000 e.0 e.1

  width : Within off on (b ⊖ a)
  width = width_within a b 2000000 e.0 e.1 (omega arith)

  reach : (t : Float) (j : ℕ) → j ≤ 65535 → Within (off + j) (on + j) t → Bounded 3000000 (a ⊕ t)
  reach t j h u =
      within_more _ _ _ _ _ (omega arith) (omega arith) (further a b 2000000 e.0 e.1 t j (omega arith) u)

  pub row_reach : Bounded 3000000 (a ⊕ real k ⊗ ((b ⊖ a) ⊘ real n))
  row_reach =
      let p = off / n + 1 in
      let q = on / n + 1 in
      let i = steps_end off n k some inside in
      let j = steps_end on n k some inside in
      let pitch = within_div (b ⊖ a) off on n (omega arith) width p q some (omega (arith, off_few, div-le_self off n)) (omega (arith, on_few, div-le_self on n))
      (step_holds off n k some inside) (step_holds on n k some inside) in
      reach _ n few
      (within_more _ _ _ _ _ i j (within_times _ p q k (omega arith) pitch (omega (arith, off_few)) (omega (arith, on_few))))

  small : (w : ℕ) → w ≤ 4000001 → w * k ≤ 4000001 * 65535
  small w h = mul-le-mul {n₁ = w} {m₁ = k} {n₂ = 4000001} {m₂ = 65535} h (omega arith)

  pub sample_reach : Bounded 3000000 (a ⊕ (b ⊖ a) ⊗ real k ⊘ real n)
  sample_reach =
      let fewer : (w : ℕ) → w * k ≤ w * n = λ w. mul-le-mul {n₁ = w} {m₁ = k} {n₂ = w} {m₂ = n} (omega arith) inside in
      let s = within_mul (b ⊖ a) off on k (omega arith) width (omega (arith, small off off_few)) (omega (arith, small on on_few)) in
      let t = within_div _ (off * k) (on * k) n (omega arith) s off on some (omega (arith, off_few)) (omega (arith, on_few)) (fewer off) (fewer on) in
      reach _ 0 (omega arith) (within_more _ _ _ _ _ (omega arith) (omega arith) t)

-- ---- a row's runs
pub record Reached (r : Run) : Type 0 where
  pub ax : Bounded 3000000 r.ax
  pub ay : Bounded 3000000 r.ay
  pub bx : Bounded 3000000 r.bx
  pub by : Bounded 3000000 r.by

laid_reached : (axis : Axis) (a b c z : Float) → Bounded 3000000 a → Bounded 3000000 b → Bounded 3000000 c → Reached (laid_of axis a b c z)
unfolding laid_of
laid_reached X a b c z p q r = record { ax = p; ay = r; bx = q; by = r }
laid_reached Y a b c z p q r = record { ax = r; ay = p; bx = r; by = q }

-- the two samples of a stretch are among a row's
abbrev pub Inside : ℕ → Ends → Type 0
Inside n e = (e.from ≤ n) × (e.to ≤ n)

pub between_reached : (l : Lane) (e : Ends) → Spreading l.spread → 0 < l.samples → l.samples ≤ 65535
    → Bounded 3000000 l.cross → Inside l.samples e → Reached (between l e.from e.to)
unfolding between along_of
between_reached l e s some few c i =
    laid_reached l.axis _ _ _ _ (sample_reach _ _ s.along l.samples e.from some few i.0)
    (sample_reach _ _ s.along l.samples e.to some few i.1) c

pub cross_reached : (s : Spread) (n row : ℕ) → Spreading s → 0 < n → n ≤ 65535 → row ≤ n → Bounded 3000000 (cross_of s n row)
unfolding cross_of
cross_reached s n row e some few h = row_reach _ _ e.across n row some few h

-- ---- a row's stretches
ended_inside : (n k s : ℕ) → s ≤ n + 1 → Each (Inside n) (ended_at k s)
unfolding ended_at Each
ended_inside n k s h = either (Each (Inside n)) (ltb 1 k) _ _ (λ t. let l = ltb-true 1 k t in ((omega arith, omega arith), tt)) (λ _. tt)

from_inside : (n : ℕ) (fs : List Bool) (k s : ℕ) → s + length fs ≤ n + 1 → Each (Inside n) (stretches_from k s fs)
unfolding stretches_from
from_inside n [] k s h = ended_inside n k s (omega arith)
from_inside n (true ∷ fs) k s h = from_inside n fs (k + 1) (s + 1) (omega arith)
from_inside n (false ∷ fs) k s h =
    each_append (Inside n) (ended_at k s) (stretches_from 0 (s + 1) fs) (ended_inside n k s (omega arith)) (from_inside n fs 0 (s + 1) (omega arith))

pub stretches_inside : (on : ℕ → Bool) (n : ℕ) → Each (Inside n) (stretches_of on n)
unfolding stretches_of
stretches_inside on n = from_inside n (sampled on 0 (n + 1)) 0 0 (omega (arith, sampled_length on 0 (n + 1)))

turned_inside : (n : ℕ) (es : List Ends) → Each (Inside n) es → Each (Inside n) (map turned es)
unfolding Each
turned_inside n [] a = tt
turned_inside n (e ∷ es) a = ((a.0.1, a.0.0), turned_inside n es a.1)

reverse_inside : (n : ℕ) (es : List Ends) → Each (Inside n) es → Each (Inside n) (reverse es)
unfolding Each
reverse_inside n [] a = tt
reverse_inside n (e ∷ es) a =
    subst (Each (Inside n)) (sym (reverse-cons e es)) (each_append (Inside n) (reverse es) (e ∷ []) (reverse_inside n es a.1) (a.0, tt))

pub backward_inside : (n : ℕ) (es : List Ends) → Each (Inside n) es → Each (Inside n) (backward es)
unfolding backward
backward_inside n es a = turned_inside n (reverse es) (reverse_inside n es a)
