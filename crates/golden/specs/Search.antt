-- Document 01, rows `golden_max`, `golden_argmin` and `golden_max_bound`: the golden-section search over any objective f, a function of one number.
use Rattle.std.specs.Prelude.{Bool, cond, ℕ, zero, suc, Float}
use Rattle.std.specs.Float.Ieee.{lt}
use Rattle.numbers.specs.Reals.{◌⊕◌, ◌⊖◌, ◌⊗◌, ◌⊘◌, f2, max_of}
use Rattle.golden.specs.Phi.{phi, phi60}
use Rattle.golden.specs.declared.Golden.{Golden}

-- The two inner points of a bracket a..b.
abbrev pub lower : Float → Float → Float
lower a b = b ⊖ phi ⊗ (b ⊖ a)

abbrev pub upper : Float → Float → Float
upper a b = a ⊕ phi ⊗ (b ⊖ a)

-- Which part a step drops: a search for the largest value drops the left one where f1 < f2, a search for the least where f1 > f2; else the right one goes.
abbrev pub rises : Golden → Bool
rises g = lt g.f1 g.f2

abbrev pub falls : Golden → Bool
falls g = lt g.f2 g.f1

-- The one new point that a step looks at. The other inner point is one that the search has already.
unfoldable pub probe_of : Bool → Golden → Float
probe_of left g = cond left (upper g.x1 g.b) (lower g.a g.x2)

-- The bracket after a step that found v at the new point p.
unfoldable pub narrowed_of : Bool → Golden → Float → Float → Golden
narrowed_of left g p v =
    cond left
    (record { a = g.x1; b = g.b; x1 = g.x2; x2 = p; f1 = g.f2; f2 = v })
    (record { a = g.a; b = g.x2; x1 = p; x2 = g.x1; f1 = v; f2 = g.f1 })

-- The bracket lo..hi before the first step.
unfoldable pub start_of : Float → Float → Float → Float → Golden
start_of lo hi v1 v2 = record { a = lo; b = hi; x1 = lower lo hi; x2 = upper lo hi; f1 = v1; f2 = v2 }

unfoldable pub golden_start : (Float → Float) → Float → Float → Golden
golden_start f lo hi = start_of lo hi (f (lower lo hi)) (f (upper lo hi))

-- One step of the search for the part that `left` drops.
unfoldable pub golden_step : (Golden → Bool) → (Float → Float) → Golden → Golden
golden_step left f g = narrowed_of (left g) g (probe_of (left g) g) (f (probe_of (left g) g))

-- The bracket after n steps.
unfoldable pub golden_at : (Golden → Bool) → (Float → Float) → Float → Float → ℕ → Golden
golden_at left f lo hi zero = golden_start f lo hi
golden_at left f lo hi (suc n) = golden_step left f (golden_at left f lo hi n)

-- The best of the values at both ends and at the last two inner points.
unfoldable pub best_of : Float → Float → Float → Float → Float
best_of va vb v1 v2 = max_of (max_of (max_of va vb) v1) v2

-- golden_max: the largest value of f found on lo..hi in n steps.
unfoldable pub golden_max : (Float → Float) → Float → Float → ℕ → Float
golden_max f lo hi n = let g = golden_at rises f lo hi n in best_of (f lo) (f hi) g.f1 g.f2

-- golden_argmin: where f is least on lo..hi, the middle of the last bracket.
unfoldable pub golden_argmin : (Float → Float) → Float → Float → ℕ → Float
golden_argmin f lo hi n = let g = golden_at falls f lo hi n in (g.a ⊕ g.b) ⊘ f2

-- golden_max_bound: 60 steps; the maximum lies in the last bracket, where f changes by at most lipschitz times its width.
unfoldable pub bound_of : Float → Float → Float → Float → Float
bound_of best lo hi lipschitz = best ⊕ lipschitz ⊗ ((hi ⊖ lo) ⊗ phi60)

unfoldable pub golden_max_bound : (Float → Float) → Float → Float → Float → Float
golden_max_bound f lo hi lipschitz = bound_of (golden_max f lo hi 60) lo hi lipschitz
