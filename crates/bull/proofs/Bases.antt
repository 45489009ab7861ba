-- The cutter's height over its tip is nowhere below its base, so a vertex gives no tip above its height less the base.
use Rattle.std.specs.Prelude.{None, Option}
use mathlib.Core.Bool.{true, false}
use mathlib.Core.Path.{◌≡◌, refl, sym, ◌∙◌, subst}
use Prim.Native.Nat.{ℕ}
use lib.Dec.{T}
use lib.Ieee.{Float, binary64, div, le, is_nan, of_bits}
use lib.Ieee.Fits.{mul-fits}
use lib.Ieee.Scale.{finite}
use Rattle.numbers.specs.Reals.{◌⊖◌, ◌⊗◌, ◌⊘◌, f0, min_of}
use Rattle.roots.specs.Root.{root_of}
use Rattle.roots.specs.Hypot.{hypot_of}
use Rattle.rules.proofs.Branches.{either, by_test, both_true, no, holds}
use Rattle.plane.specs.declared.Contact.{Contact}
use Rattle.plane.specs.Contacts.{corner, at_height}
use Rattle.above.specs.Above.{offer_of}
use Rattle.above.specs.Inside.{limit_of}
use Rattle.above.proofs.Above.{stays_under}
use Rattle.plane.specs.Ranges.{is_coordinate, is_radius}
use Rattle.order.proofs.Extremes.{min_either, min_first, min_second}
use Rattle.order.proofs.Order.{O, le_trans}
use Rattle.order.proofs.Roots.{root_finite, root_le}
use Rattle.bound.proofs.Small.{M, Small, small, small_finite, small_up, small_radius, small_sub, square_small}
use Rattle.bound.proofs.Small.{square_limit, square_finite, square_nonneg, root_limit, small_distance}
use Rattle.caps.proofs.Drops.{drop_nan, drop_more}
use Rattle.bull.specs.declared.Bull.{Bull}
use Rattle.bull.specs.Bull.{bull_profile, bull_over, bull_vertex}
use Rattle.bull.specs.Inside.{base_of, low_vertex}
use Rattle.bull.proofs.Profile.{profile_finite, profile_low}

-- ---- as the code makes it
pub base_none : (k : Bull) → is_radius k.r ≡ false → f0 ⊘ f0 ≡ base_of k
unfolding base_of
base_none k e = rw e

pub base_none₂ : (k : Bull) → is_radius k.rc ≡ false → f0 ⊘ f0 ≡ base_of k
unfolding base_of
base_none₂ k e = by_test (is_radius k.r) (λ h. rw (h, e)) (λ h. rw h)

pub base_there : (k : Bull) (p b : Float) → is_radius k.r ≡ true → is_radius k.rc ≡ true → p ≡ root_of (k.rc ⊗ k.rc)
    → b ≡ min_of (k.rc ⊖ p) f0 → b ≡ base_of k
unfolding base_of
base_there k p b e h q m = rw (e, h, ← q) m

-- ---- a base that is a number
none_is : is_nan (f0 ⊘ f0) ≡ true
unfolding of_bits div is_nan
none_is = refl

pub record Based (k : Bull) : Type 0 where
  pub r₀ : T (le O k.r)
  pub r₁ : T (le k.r M)
  pub c₀ : T (le O k.rc)
  pub c₁ : T (le k.rc M)
  pub is : base_of k ≡ min_of (k.rc ⊖ root_of (k.rc ⊗ k.rc)) f0

pub based : (k : Bull) → is_nan (base_of k) ≡ false → Based k
based k n =
    by_test (is_radius k.r)
    (λ e. by_test (is_radius k.rc)
    (λ h.
    let a = small_radius k.r e in
    let b = small_radius k.rc h in
    record { r₀ = a.0; r₁ = a.1; c₀ = b.0; c₁ = b.1; is = sym (base_there k _ _ e h refl refl) })
    (λ h. absurd (no (sym (subst (λ (v : Float). is_nan v ≡ false) (sym (base_none₂ k h)) n) ∙ none_is))))
    (λ e. absurd (no (sym (subst (λ (v : Float). is_nan v ≡ false) (sym (base_none k e)) n) ∙ none_is)))

module _ (k : Bull) (v : Based k) where
  abbrev p : Float
  p = k.rc ⊖ root_of (k.rc ⊗ k.rc)

  sc : Small k.rc
  sc = small_up k.rc v.c₀ v.c₁

  fcc : T (finite (k.rc ⊗ k.rc))
  fcc = square_finite k.rc sc

  root_fine : T (le O (root_of (k.rc ⊗ k.rc))) × T (finite (root_of (k.rc ⊗ k.rc)))
  root_fine = root_finite (k.rc ⊗ k.rc) (mul-fits binary64 k.rc k.rc) fcc (square_nonneg k.rc (small_finite k.rc sc))

  root_small : T (le (root_of (k.rc ⊗ k.rc)) M)
  root_small =
      le_trans (root_of (k.rc ⊗ k.rc)) (root_of (M ⊗ M)) M
      (root_le (k.rc ⊗ k.rc) (M ⊗ M) (mul-fits binary64 k.rc k.rc) (mul-fits binary64 M M) fcc square_limit
      (square_nonneg k.rc (small_finite k.rc sc)) (square_small k.rc sc)) root_limit

  fp : T (finite p)
  fp = small_sub k.rc (root_of (k.rc ⊗ k.rc)) sc (small_up (root_of (k.rc ⊗ k.rc)) root_fine.0 root_small)

  f_none : T (finite f0)
  unfolding of_bits
  f_none = tt

  pub base_fine : T (finite (base_of k))
  base_fine = rw v.is (min_either (λ w. T (finite w)) p f0 fp f_none)

  base_zero : T (le (base_of k) f0)
  base_zero = rw v.is (min_second p f0 fp f_none)

  base_first : T (le (base_of k) p)
  base_first = rw v.is (min_first p f0 fp f_none)

  flat_is : (d : Float) → le (d ⊖ (k.r ⊖ k.rc)) f0 ≡ true → f0 ≡ bull_profile d k.r k.rc
  unfolding bull_profile
  flat_is d e = rw e

  pub base_low : (d : Float) → T (le O d) → T (le d M) → T (le (base_of k) (bull_profile d k.r k.rc)) × T (finite (bull_profile d k.r k.rc))
  base_low d d₀ d₁ =
      by_test (le (d ⊖ (k.r ⊖ k.rc)) f0)
      (λ e. subst (λ (w : Float). T (le (base_of k) w) × T (finite w)) (flat_is d e) (base_zero, f_none))
      (λ e. (
        le_trans (base_of k) p (bull_profile d k.r k.rc) base_first (profile_low k.r k.rc v.r₀ v.r₁ v.c₀ v.c₁ d d₀ d₁ e),
        profile_finite k.r k.rc v.r₀ v.r₁ v.c₀ v.c₁ d d₀ d₁ e,
      ))

-- ---- a vertex
pub vertex_stays : (k : Bull) (base : Float) (n : ℕ) (x y z : Float) (c : Option Contact) → base ≡ base_of k → low_vertex base z (x ⊖ k.x) (y ⊖ k.y) (limit_of c) ≡ true
    → c ≡ offer_of c (bull_vertex k n x y z)
unfolding low_vertex bull_vertex bull_over offer_of
vertex_stays k base n x y z c q h =
    let a = both_true (le (z ⊖ base) (limit_of c)) _ h in
    let b = both_true (is_coordinate (x ⊖ k.x)) _ a.1 in
    let g = subst (λ (w : Float). le (z ⊖ w) (limit_of c) ≡ true) q a.0 in
    let v = based k (by_test (is_nan (base_of k)) (λ e. absurd (drop_nan z (base_of k) (limit_of c) e g)) (λ e. e)) in
    let d = hypot_of (x ⊖ k.x) (y ⊖ k.y) in
    let s = small_distance (x ⊖ k.x) (y ⊖ k.y) (small _ b.0) (small _ b.1) in
    either (λ w. c ≡ offer_of c w) (le d k.r) (at_height (z ⊖ bull_profile d k.r k.rc) (corner n)) None
    (λ e.
    let l = base_low k v d s.0 (le_trans d k.r M (holds _ e) v.r₁) in
    sym (stays_under c (z ⊖ bull_profile d k.r k.rc) (corner n)
    (drop_more z (base_of k) (bull_profile d k.r k.rc) (limit_of c) (base_fine k v) l.1 l.0 g)))
    (λ e. refl)
