-- Distances by their squares: a distance is the root of its square, and a search over distances is a search over squares whose comparisons are those of roots.
use mathlib.Core.Bool.{Bool, true, false, cond}
use mathlib.Core.Path.{◌≡◌, refl, sym, ap, ◌∙◌}
use lib.Ieee.{Float, of_bits, lt}
use Rattle.numbers.specs.Reals.{f0}
use Rattle.roots.specs.Root.{root_of}
use Rattle.plane.specs.declared.Triangle.{Triangle}
use Rattle.plane.specs.Distance.{bary_of, inside, edge_distance, distance_xy}
use Rattle.golden.specs.declared.Golden.{Golden}
use Rattle.golden.specs.Search.{lower, upper, falls, probe_of, narrowed_of, start_of, golden_start, golden_step}
use Rattle.golden.proofs.Turns.{begins, steps}
use Rattle.cutters.specs.Touch.{along}
use Rattle.reach.specs.declared.Chord.{Chord}
use Rattle.reach.specs.Reach.{apart_at}
use Rattle.reach.specs.Inside.{edge_square, square_xy, square_at, rooted}

root_of_zero : f0 ≡ root_of f0
unfolding of_bits root_of
root_of_zero = refl

edge_root : (t : Triangle) (x y : Float) → edge_distance t x y ≡ root_of (edge_square t x y)
unfolding edge_distance edge_square
edge_root t x y = refl

by_side : (b : Bool) (d q : Float) → d ≡ root_of q → cond b f0 d ≡ root_of (cond b f0 q)
by_side true d q e = root_of_zero
by_side false d q e = e

pub distance_root : (t : Triangle) (x y : Float) → distance_xy t x y ≡ root_of (square_xy t x y)
unfolding distance_xy square_xy
distance_root t x y = by_side (inside (bary_of t x y)) (edge_distance t x y) (edge_square t x y) (edge_root t x y)

pub apart_root : (t : Triangle) (m : Chord) (s : Float) → apart_at t m s ≡ root_of (square_at t m s)
unfolding apart_at square_at
apart_root t m s = distance_root t (along m.ax m.bx s) (along m.ay m.by s)

-- ---- the search
rooted_start : (lo hi v w : Float) → rooted (start_of lo hi v w) ≡ start_of lo hi (root_of v) (root_of w)
unfolding rooted start_of
rooted_start lo hi v w = refl

rooted_probe : (b : Bool) (g : Golden) → probe_of b g ≡ probe_of b (rooted g)
unfolding rooted probe_of
rooted_probe b g = refl

rooted_narrowed : (b : Bool) (g : Golden) (p v : Float) → rooted (narrowed_of b g p v) ≡ narrowed_of b (rooted g) p (root_of v)
unfolding rooted narrowed_of
rooted_narrowed true g p v = refl
rooted_narrowed false g p v = refl

rooted_falls : (g : Golden) → lt (root_of g.f2) (root_of g.f1) ≡ falls (rooted g)
unfolding rooted
rooted_falls g = refl

module _ (t : Triangle) (m : Chord) where
  pub starts : (lo hi u v q w : Float) (g : Golden) → u ≡ lower lo hi → v ≡ upper lo hi → q ≡ square_at t m u → w ≡ square_at t m v → g ≡ start_of lo hi q w
      → rooted g ≡ golden_start (apart_at t m) lo hi
  starts lo hi u v q w g a b c d e =
      begins (apart_at t m) lo hi u v (root_of q) (root_of w) (rooted g) a b (ap root_of c ∙ sym (apart_root t m u)) (ap root_of d ∙ sym (apart_root t m v))
      (ap rooted e ∙ rooted_start lo hi q w)

  pub goes_on : (b : Bool) (g k : Golden) (p v : Float) → b ≡ lt (root_of g.f2) (root_of g.f1) → p ≡ probe_of b g → v ≡ square_at t m p
      → k ≡ narrowed_of b g p v → rooted k ≡ golden_step falls (apart_at t m) (rooted g)
  goes_on b g k p v a c d e =
      steps falls (apart_at t m) b (rooted g) (rooted k) p (root_of v) (a ∙ rooted_falls g) (c ∙ rooted_probe b g)
      (ap root_of d ∙ sym (apart_root t m p)) (ap rooted e ∙ rooted_narrowed b g p v)
