-- The root of a sum of two squares is at most `root_most` of it.
use mathlib.Core.Bool.{true, false}
use mathlib.Core.Path.{◌≡◌}
use lib.Dec.{T}
use lib.IntN.{pos}
use lib.Ieee.{Float, fin, binary64, le, fits, of_bits}
use lib.Ieee.Scale.{finite}
use Rattle.numbers.specs.Reals.{f1}
use Rattle.roots.specs.Root.{root_of, root_of_units, nearest_root, whole_root}
use Rattle.rules.proofs.Branches.{either, holds}
use Rattle.order.proofs.Order.{O, le_trans}
use Rattle.order.proofs.Roots.{root_le}
use Rattle.caps.specs.Inside.{root_most, root6, root12, root22, square12, square22}

-- 2 ^ 22
abbrev pub R : Float
R = fin false 1 (pos 22)

module _ (q : Float) (g : T (fits binary64 q)) (p : T (finite q)) (l : T (le O q)) where
  below : (w r : Float) → T (fits binary64 w) → T (finite w) → T (le (root_of w) r) → le q w ≡ true → T (le (root_of q) r)
  below w r f d k h = le_trans (root_of q) (root_of w) r (root_le q w g f p d l (holds _ h)) k

  pub root_under : le q square22 ≡ true → T (le (root_of q) (root_most q))
  unfolding root_most of_bits lib.Ieee.units lib.Ieee.size
  root_under h =
      either (λ v. T (le (root_of q) v)) (le q f1) f1 _ (λ e. below f1 f1 (unfold fits in tt) tt (unfold root_of root_of_units nearest_root whole_root le in tt) e)
      (λ _. either (λ v. T (le (root_of q) v)) (le q root12) root6 _
      (λ e. below root12 root6 (unfold fits in tt) tt (unfold root_of root_of_units nearest_root whole_root le in tt) e)
      (λ _. either (λ v. T (le (root_of q) v)) (le q square12) root12 root22
      (λ e. below square12 root12 (unfold fits in tt) tt (unfold root_of root_of_units nearest_root whole_root le in tt) e)
      (λ _. below square22 root22 (unfold fits in tt) tt (unfold root_of root_of_units nearest_root whole_root le in tt) h)))

pub most_finite : (q : Float) → T (finite (root_most q)) × T (le (root_most q) R)
unfolding root_most of_bits le
most_finite q =
    either (λ v. T (finite v) × T (le v R)) (le q f1) f1 _ (λ _. (tt, tt))
    (λ _. either (λ v. T (finite v) × T (le v R)) (le q root12) root6 _ (λ _. (tt, tt))
    (λ _. either (λ v. T (finite v) × T (le v R)) (le q square12) root12 root22 (λ _. (tt, tt)) (λ _. (tt, tt))))
