-- The extreme points of the capsule, one by one, and the point of a triangle over each.
use Rattle.std.specs.Prelude.{None, Option, Some}
use mathlib.Core.Bool.{Bool, true, false, cond}
use mathlib.Core.List.{[], ◌++◌}
use mathlib.Core.Path.{◌≡◌, refl, sym, ap, ◌∙◌}
use Prim.Native.Nat.{ℕ, ◌-◌, ◌<◌, ◌≤◌}
use native.Mathlib.Omega.{arith}
use lib.Ieee.{lt}
use lib.ListN.{length, get_or}
use Rattle.numbers.specs.Reals.{f0, tiny, minus_slack, abs_of}
use Rattle.plane.specs.declared.Triangle.{Triangle}
use Rattle.plane.specs.declared.Weights.{Weights}
use Rattle.plane.specs.declared.Contact.{Contact}
use Rattle.plane.specs.Distance.{bary_of, at_least}
use Rattle.capsule.specs.declared.Capsule.{Capsule}
use Rattle.capsule.specs.declared.Place.{Place}
use Rattle.capsule.specs.declared.Rise.{Rise}
use Rattle.capsule.specs.Region.{offer_of, offered_all}
use Rattle.capsule.specs.Candidates.{each, ends, determinant_of, rise_of, tangents, flanks, places, point_over, raised, plane_over, inner}
use Rattle.capsule.proofs.Picking.{front, back}
use Rattle.capsule.proofs.Gathering.{on}

-- on a slope, and on the level
steep : (k : Capsule) (h : Rise) → lt f0 h.g ≡ true → places k h ≡ ends k ++ (tangents k h ++ flanks k)
unfolding places
steep k h e = rw e

level : (k : Capsule) (h : Rise) → lt f0 h.g ≡ false → places k h ≡ ends k ++ flanks k
unfolding places
level k h e = rw e

counted : (k : Capsule) (h : Rise) (b : Bool) → lt f0 h.g ≡ b → length (places k h) ≡ cond b 8 6
unfolding ends tangents flanks
counted k h true e = ap length (steep k h e)
counted k h false e = ap length (level k h e)

pub how_many : (k : Capsule) (h : Rise) → length (places k h) ≡ cond (lt f0 h.g) 8 6
how_many k h = counted k h _ refl

module _ (k : Capsule) (h : Rise) (i : ℕ) (r : Place) where
  pub at_end : i < 2 → r ≡ get_or (ends k) i r → r ≡ get_or (places k h) i r
  unfolding places ends
  at_end l p = front (ends k) (cond (lt f0 h.g) (tangents k h) [] ++ flanks k) i r l p

  pub at_tangent : lt f0 h.g ≡ true → 2 ≤ i → i < 4 → r ≡ get_or (tangents k h) (i - 2) r → r ≡ get_or (places k h) i r
  unfolding ends tangents
  at_tangent e l u p =
      back (ends k) (tangents k h ++ flanks k) i r l (front (tangents k h) (flanks k) (i - 2) r (omega arith) p) ∙
      ap (λ ps. get_or ps i r) (sym (steep k h e))

  pub at_flank : lt f0 h.g ≡ true → 4 ≤ i → r ≡ get_or (flanks k) (i - 4) r → r ≡ get_or (places k h) i r
  unfolding ends tangents
  at_flank e l p =
      let s : i - 4 ≡ i - 2 - 2 = omega arith in
      back (ends k) (tangents k h ++ flanks k) i r (omega arith)
      (back (tangents k h) (flanks k) (i - 2) r (omega arith) (p ∙ ap (λ j. get_or (flanks k) j r) s)) ∙
      ap (λ ps. get_or ps i r) (sym (steep k h e))

  pub at_flank_level : lt f0 h.g ≡ false → 2 ≤ i → r ≡ get_or (flanks k) (i - 2) r → r ≡ get_or (places k h) i r
  unfolding ends
  at_flank_level e l p = back (ends k) (flanks k) i r l p ∙ ap (λ ps. get_or ps i r) (sym (level k h e))

-- over a place that has no weights, over one beside the triangle, and over one on it
module _ (k : Capsule) (c : Option Contact) (t : Triangle) (p : Place) where
  pub none_over : bary_of t p.x p.y ≡ None → c ≡ offered_all k c (plane_over t p)
  unfolding plane_over raised offered_all
  none_over e = rw e

  pub beside : (w : Weights) → bary_of t p.x p.y ≡ Some w → at_least w minus_slack ≡ false → c ≡ offered_all k c (plane_over t p)
  unfolding plane_over raised offered_all
  beside w e h = rw (e, h)

  pub on_it : (r : Option Contact) (w : Weights) →
      bary_of t p.x p.y ≡ Some w → at_least w minus_slack ≡ true → r ≡ offer_of k c (point_over t p w) → r ≡ offered_all k c (plane_over t p)
  unfolding plane_over raised offered_all
  on_it r w e h q = rw (e, h) q

-- the inner points of a triangle that rises by h
pub rising : (k : Capsule) (r c : Option Contact) (t : Triangle) (h : Rise) →
    lt tiny (abs_of (determinant_of t)) ≡ true →
    h ≡ rise_of t k.r →
    r ≡ offered_all k c (each (plane_over t) (places k h)) →
    r ≡ offered_all k c (inner k t)
unfolding inner
rising k r c t h e p q =
    on k r c (lt tiny (abs_of (determinant_of t))) (each (plane_over t) (places k (rise_of t k.r))) e
    (q ∙ ap (λ s. offered_all k c (each (plane_over t) (places k s))) p)
