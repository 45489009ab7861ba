-- The search of a bull-nose's gap that breaks off where the cutter surely passes, and does not begin where the triangle is out of reach.
use Rattle.std.specs.Prelude.{None, Option}
use mathlib.Core.Bool.{Bool, true, false, ◌&&◌}
use mathlib.Core.Path.{◌≡◌, ap, sym, ◌∙◌}
use Prim.Native.Nat.{ℕ, ◌≤◌}
use native.Mathlib.Omega.{arith}
use lib.Dec.{T}
use lib.Ieee.{Float, binary64, lt, le, fits}
use Rattle.numbers.specs.Reals.{f0, max_of}
use Rattle.rules.proofs.Branches.{both_true}
use Rattle.plane.specs.declared.Triangle.{Triangle}
use Rattle.golden.specs.declared.Golden.{Golden}
use Rattle.golden.specs.Search.{rises, golden_at, best_of, golden_max}
use Rattle.caps.specs.Inside.{InnerOf, in_order}
use Rattle.caps.proofs.Boxes.{ordered}
use Rattle.caps.proofs.Inside.{largest_in}
use Rattle.caps.proofs.Narrow.{narrow_in}
use Rattle.cutters.specs.declared.Stretch.{Stretch}
use Rattle.reach.specs.declared.Chord.{Chord}
use Rattle.bull_pass.specs.Inside.{passes_of}
use Rattle.bull_pass.proofs.Passing.{never_above}
use Rattle.bull_gap.specs.Blocks.{bull_gap, bull_searched}

pub nowhere_blocks : (t : Triangle) (m : Chord) (r rc : Float) (s : Option Stretch) → s ≡ None → false ≡ bull_searched t m r rc s
unfolding bull_searched
nowhere_blocks t m r rc s e = rw e

module _ (t : Triangle) (m : Chord) (r rc lo hi : Float) (g₁ : T (fits binary64 lo)) (g₂ : T (fits binary64 hi)) where
  -- nowhere on a part that surely passes
  on_part : (a b : Float) → passes_of t m r rc a b ≡ true → (s : Float) → T (le a s) → T (le s b) → lt f0 (bull_gap t m r rc s) ≡ false
  unfolding bull_gap
  on_part a b p s h k = never_above t m r rc a b p s h k

  pub passed : (b : Bool) → b ≡ (in_order lo hi && passes_of t m r rc lo hi) → b ≡ true → false ≡ lt f0 (golden_max (bull_gap t m r rc) lo hi 40)
  passed b e h =
      let p = both_true (in_order lo hi) (passes_of t m r rc lo hi) (sym e ∙ h) in
      let o = ordered lo hi g₁ g₂ p.0 in
      sym (largest_in (bull_gap t m r rc) lo hi o.low o.high o.order (λ z. lt f0 z ≡ false) 40 (λ s i. on_part lo hi p.1 s i.low i.high))

  module _ (low high : Float) (asked : (low ≡ bull_gap t m r rc lo) × (high ≡ bull_gap t m r rc hi) × (lt f0 (max_of low high) ≡ false)) (n : ℕ) (g : Golden)
      (below : n ≤ 40) (here : g ≡ golden_at rises (bull_gap t m r rc) lo hi n) where
    ends : lt f0 (max_of (bull_gap t m r rc lo) (bull_gap t m r rc hi)) ≡ false
    ends = ap (lt f0) (ap (λ (z : Float). max_of z (bull_gap t m r rc hi)) (sym asked.0) ∙ ap (max_of low) (sym asked.1)) ∙ asked.2

    pub breaks_off : InnerOf g × (in_order g.a g.b ≡ true) × (passes_of t m r rc g.a g.b ≡ true)
        → false ≡ lt f0 (golden_max (bull_gap t m r rc) lo hi 40)
    breaks_off q =
        let i = q.0 in
        sym (narrow_in (bull_gap t m r rc) lo hi n 40 g below here i (ordered g.a g.b i.fit_a i.fit_b q.1) (λ z. lt f0 z ≡ false) ends
        (λ s j. on_part g.a g.b q.2 s j.low j.high))

    pub found : 40 ≤ n → (b : Float) → b ≡ best_of low high g.f1 g.f2 → lt f0 b ≡ lt f0 (golden_max (bull_gap t m r rc) lo hi 40)
    unfolding golden_max
    found d b e = let z : n ≡ 40 = omega arith in rw (e, asked.0, asked.1, here, z)
