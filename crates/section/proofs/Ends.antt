-- The surface grows with the distance from the axis, so no place of an edge from lo to hi gives a tip above the cap; where that is at most the larger of the
-- two ends' values the search finds that.
use mathlib.Core.Bool.{true, false}
use mathlib.Core.Logic.{⊎_elim}
use mathlib.Core.Path.{◌≡◌, sym, ◌∙◌, subst}
use Prim.Native.Nat.{ℕ}
use lib.Dec.{T}
use lib.Ieee.{Float, binary64, div, le, fits, is_nan, of_bits}
use lib.Ieee.Scale.{finite}
use lib.Ieee.Bits.{is_true}
use Rattle.numbers.specs.Reals.{◌⊕◌, ◌⊖◌, ◌⊗◌, ◌⊘◌, f0, min_of, max_of}
use Rattle.rules.proofs.Branches.{by_test, no, holds}
use Rattle.golden.specs.Search.{golden_max}
use Rattle.cutters.specs.declared.Edge.{Edge}
use Rattle.cutters.specs.Touch.{distance_at}
use Rattle.order.proofs.Ranges.{sub_mono}
use Rattle.order.proofs.Order.{le_trans, sub_turns, add_right, mul_up, no_lower}
use Rattle.order.proofs.Extremes.{min_up}
use Rattle.bound.proofs.Along.{at}
use Rattle.bound.proofs.Small.{M}
use Rattle.caps.specs.Inside.{high_on, least_on, tame_on}
use Rattle.caps.proofs.Bracket.{In}
use Rattle.caps.proofs.Inside.{ends_largest}
use Rattle.caps.proofs.Places.{number_of}
use Rattle.caps.proofs.Boxes.{Ordered, places, high_fine, under_high, farther, least_fine}
use Rattle.section.specs.declared.Section.{Section}
use Rattle.section.specs.Section.{profile_of, height_over, section_at}
use Rattle.section.specs.Inside.{Firm, over_of, cap_of}
use Rattle.section.proofs.Capping.{Valid, valid_parts, height_all, least_far, f_top, fz, f1', fr, climb_fine, beyond}

-- ---- the surface
near_height : (s : Section) (d : Float) → le d s.r0 ≡ true → height_over (profile_of s d) ≡ s.z0
unfolding profile_of height_over
near_height s d e = rw e

far_height : (s : Section) (d : Float) → le d s.r0 ≡ false → le d s.r1 ≡ true → height_over (profile_of s d) ≡ s.z0 ⊕ (d ⊖ s.r0) ⊗ s.rise
unfolding profile_of height_over
far_height s d e h = rw (e, h)

module _ (s : Section) (v : Valid s) (g : T (fits binary64 s.z0)) where
  pub surface_up : (d d' : Float) → T (le d d') → T (le d' s.r1) → T (le (height_over (profile_of s d)) (height_over (profile_of s d')))
  surface_up d d' k m =
      by_test (le d s.r0)
      (λ e. rw (near_height s d e) (height_all s v g (λ h. T (le s.z0 h)) (λ h a b. a) d' m))
      (λ e.
      let m₀ = le_trans d d' s.r1 k m in
      let e' = by_test (le d' s.r0) (λ l. absurd (no (sym e ∙ is_true _ (le_trans d d' s.r0 k (holds _ l))))) (λ l. l) in
      let a = climb_fine s v g d (beyond s v g d e (is_true _ m₀)) (le_trans d s.r1 M m₀ v.far_high) in
      let a' = climb_fine s v g d' (beyond s v g d' e' (is_true _ m)) (le_trans d' s.r1 M m v.far_high) in
      rw (far_height s d e (is_true _ m₀), far_height s d' e' (is_true _ m))
      (add_right binary64 ((d ⊖ s.r0) ⊗ s.rise) ((d' ⊖ s.r0) ⊗ s.rise) s.z0 a.climbed a'.climbed (fz s v g)
      (mul_up (d ⊖ s.r0) (d' ⊖ s.r0) s.rise a.way a'.way (fr s v g) (sub_mono binary64 d d' s.r0 a.place a'.place a.start k)
      (no_lower s.rise (fr s v g) v.rise_low))))

  -- ---- below the cap
  module _ (x y : Float) (e : Edge) (lo hi : Float) (p : T (fits binary64 lo)) (q : T (fits binary64 hi)) (tame : tame_on e x y lo hi ≡ true)
      (t : Float) (i : In lo hi t) where
    abbrev z : Float
    z = at e.az e.bz t

    abbrev high : Float
    high = high_on e lo hi

    zh : T (le z high) × T (finite z)
    zh = under_high e x y lo hi p q tame t i

    abbrev d : Float
    d = min_of (least_on e x y lo hi) s.r1

    abbrev d' : Float
    d' = min_of (distance_at e x y t) s.r1

    d_up : T (le d d')
    d_up = min_up _ (distance_at e x y t) s.r1 (least_fine e x y lo hi p q tame t i) (f1' s v g) (farther e x y lo hi p q tame t i)

    fine : (d : Float) → T (le d s.r1) → T (finite (height_over (profile_of s d)))
    fine d m = height_all s v g (λ h. T (finite h)) (λ h a b. f_top s v g h a b) d m

    under_cap : T (le (section_at s x y e t) (over_of s high d))
    unfolding section_at over_of
    under_cap =
        let m = least_far s v g (distance_at e x y t) in
        let f = fine d (le_trans d d' s.r1 d_up m) in
        let f' = fine d' m in
        le_trans (z ⊖ height_over (profile_of s d')) (z ⊖ height_over (profile_of s d)) (high ⊖ height_over (profile_of s d))
        (sub_turns binary64 (height_over (profile_of s d)) (height_over (profile_of s d')) z f f' zh.1 (surface_up d d' d_up m))
        (sub_mono binary64 z high (height_over (profile_of s d)) zh.1 (high_fine e x y lo hi p q tame) f zh.0)

-- ---- a cap that is a number
pub no_number : is_nan (f0 ⊘ f0) ≡ false → ⊥
unfolding of_bits div is_nan
no_number h = no (sym h)

module _ (s : Section) (low x y : Float) (e : Edge) (lo hi : Float) (f : Firm s low) (p : T (fits binary64 lo)) (q : T (fits binary64 hi))
    (h : is_nan (cap_of s low x y e lo hi) ≡ false) where
  there : (le f0 low ≡ true) × (tame_on e x y lo hi ≡ true)
  unfolding cap_of
  there =
      by_test (le f0 low)
      (λ n. by_test (tame_on e x y lo hi) (λ m. (n, m)) (λ m. absurd (no_number (rw (n, m) at h))))
      (λ n. absurd (no_number (rw n at h)))

  cap_is : cap_of s low x y e lo hi ≡ over_of s (high_on e lo hi) (min_of (least_on e x y lo hi) s.r1)
  unfolding cap_of
  cap_is = rw (there.0, there.1)

  valid : Valid s × T (fits binary64 s.z0)
  valid = ⊎_elim (λ n. absurd (no (sym (number_of _ _ (holds _ there.0)).1 ∙ n))) (λ n. (valid_parts s n.0, n.2)) f

  pub capped : (t : Float) → In lo hi t → T (le (section_at s x y e t) (cap_of s low x y e lo hi))
  capped t i = rw cap_is (under_cap s valid.0 valid.1 x y e lo hi p q there.1 t i)

  pub ordered : Ordered lo hi
  ordered = places e x y lo hi p q there.1

-- ---- as the code has it
pub cap_ends : (s : Section) (low x y : Float) (e : Edge) (cap lo hi : Float) → Firm s low → T (fits binary64 lo) → T (fits binary64 hi)
    → cap ≡ cap_of s low x y e lo hi → (n : ℕ) → le cap (max_of (section_at s x y e lo) (section_at s x y e hi)) ≡ true
    → max_of (section_at s x y e lo) (section_at s x y e hi) ≡ golden_max (section_at s x y e) lo hi n
cap_ends s low x y e cap lo hi f p q c n h =
    let b = max_of (section_at s x y e lo) (section_at s x y e hi) in
    let l = subst (λ (w : Float). T (le w b)) c (holds _ h) in
    let r = (number_of _ _ l).0 in
    let o = ordered s low x y e lo hi f p q r in
    sym (ends_largest (section_at s x y e) lo hi o.low o.high o.order n (cap_of s low x y e lo hi) (capped s low x y e lo hi f p q r) l)
