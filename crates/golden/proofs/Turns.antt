-- The search in a function's loop, for any objective f and either rule of what a step drops: where it starts, a step, a turn, and what it answers.
use mathlib.Core.Bool.{Bool}
use mathlib.Core.Path.{◌≡◌}
use Prim.Native.Nat.{ℕ, ◌+◌, ◌≤◌}
use native.Mathlib.Numerals.{add-one}
use native.Mathlib.Omega.{arith}
use lib.Ieee.{Float}
use Rattle.numbers.specs.Reals.{◌⊕◌, ◌⊘◌, f2}
use Rattle.golden.specs.declared.Golden.{Golden}
use Rattle.golden.specs.Search.{lower, upper, rises, falls, probe_of, narrowed_of, start_of, golden_start}
use Rattle.golden.specs.Search.{golden_step, golden_at, best_of, golden_max, golden_argmin}

pub begins : (f : Float → Float) (lo hi u v fu fv : Float) (g : Golden) → u ≡ lower lo hi → v ≡ upper lo hi → fu ≡ f u → fv ≡ f v → g ≡ start_of lo hi fu fv
    → g ≡ golden_start f lo hi
unfolding golden_start
begins f lo hi u v fu fv g p q r s e = rw (e, r, s, p, q)

pub steps : (left : Golden → Bool) (f : Float → Float) (b : Bool) (g g' : Golden) (p v : Float) → b ≡ left g → p ≡ probe_of b g → v ≡ f p
    → g' ≡ narrowed_of b g p v → g' ≡ golden_step left f g
unfolding golden_step
steps left f b g g' p v e₀ e₁ e₂ e₃ = rw (e₃, e₂, e₁, e₀)

module _ (left : Golden → Bool) (f : Float → Float) (lo hi : Float) where
  pub first : (g : Golden) → g ≡ golden_start f lo hi → g ≡ golden_at left f lo hi 0
  unfolding golden_at
  first g e = e

  pub turns : (k : ℕ) (g g' : Golden) → g ≡ golden_at left f lo hi k → g' ≡ golden_step left f g → g' ≡ golden_at left f lo hi (k + 1)
  unfolding golden_at
  turns k g g' i e = rw (add-one k, e, i)

module _ (f : Float → Float) (lo hi : Float) (k n : ℕ) (g : Golden) (below : k ≤ n) (done : n ≤ k) where
  pub max_ends : (fa fb r : Float) → g ≡ golden_at rises f lo hi k → fa ≡ f lo → fb ≡ f hi → r ≡ best_of fa fb g.f1 g.f2 → r ≡ golden_max f lo hi n
  unfolding golden_max
  max_ends fa fb r i e₁ e₂ e₃ = let e : k ≡ n = omega arith in rw (e₃, e₁, e₂, i, e)

  pub min_ends : (r : Float) → g ≡ golden_at falls f lo hi k → r ≡ (g.a ⊕ g.b) ⊘ f2 → r ≡ golden_argmin f lo hi n
  unfolding golden_argmin
  min_ends r i p = let e : k ≡ n = omega arith in rw (p, i, e)

pub ruleset search_laws = (begins, steps, first, turns, max_ends, min_ends)
