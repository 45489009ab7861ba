-- No place of an edge from lo to hi gives a tip above the cap. So an edge whose cap is at most the best so far does not change it, and where the cap is at most
-- the larger of the two ends' values the search finds that.
use Rattle.std.specs.Prelude.{Option}
use mathlib.Core.Bool.{true, false}
use mathlib.Core.Path.{◌≡◌, sym, subst}
use Prim.Native.Nat.{ℕ}
use lib.Dec.{T}
use lib.Ieee.{Float, binary64, div, lt, le, eq, fits, of_bits}
use lib.Ieee.Scale.{finite}
use lib.Ieee.Bits.{is_true}
use Rattle.numbers.specs.Reals.{◌⊖◌, ◌⊘◌, f0, min_of, max_of}
use Rattle.rules.proofs.Branches.{by_test, no, holds}
use Rattle.plane.specs.declared.Touch.{Touch}
use Rattle.plane.specs.declared.Contact.{Contact}
use Rattle.plane.specs.Contacts.{take_of}
use Rattle.above.specs.Inside.{limit_of}
use Rattle.above.proofs.Above.{stays_under}
use Rattle.golden.specs.Search.{golden_max}
use Rattle.cutters.specs.declared.Edge.{Edge}
use Rattle.cutters.specs.Touch.{distance_at}
use Rattle.order.proofs.Ranges.{finite_between, sub_mono}
use Rattle.order.proofs.Extremes.{min_either, min_second, min_up}
use Rattle.order.proofs.Order.{O, le_trans, sub_turns}
use Rattle.bound.proofs.Along.{at}
use Rattle.bound.proofs.Small.{M}
use Rattle.caps.specs.Inside.{high_on, least_on, tame_on}
use Rattle.caps.proofs.Bracket.{In}
use Rattle.caps.proofs.Inside.{ends_largest, largest_in}
use Rattle.caps.proofs.Places.{number_of}
use Rattle.caps.proofs.Boxes.{Ordered, places, high_fine, least_low, under_high, distance_fine, farther, least_fine}
use Rattle.bull.specs.declared.Bull.{Bull}
use Rattle.bull.specs.Bull.{bull_profile, bull_at}
use Rattle.bull.specs.Inside.{base_of, over_of, cap_of}
use Rattle.bull.proofs.Profile.{profile_finite, profile_finite', profile_up}
use Rattle.bull.proofs.Bases.{Based, based, base_fine, base_low}

none_le : (b : Float) → le (f0 ⊘ f0) b ≡ true → ⊥
unfolding of_bits div le lt eq
none_le b h = no h

-- ---- below the cap
module _ (k : Bull) (v : Based k) (e : Edge) (lo hi : Float) (f : T (fits binary64 lo)) (g : T (fits binary64 hi)) (tame : tame_on e k.x k.y lo hi ≡ true)
    (t : Float) (i : In lo hi t) where
  abbrev high : Float
  high = high_on e lo hi

  fh : T (finite high)
  fh = high_fine e k.x k.y lo hi f g tame

  abbrev z : Float
  z = at e.az e.bz t

  zh : T (le z high) × T (finite z)
  zh = under_high e k.x k.y lo hi f g tame t i

  fr : T (finite k.r)
  fr = finite_between O k.r M tt tt v.r₀ v.r₁

  abbrev far : Float
  far = distance_at e k.x k.y t

  df : T (le O far) × T (finite far)
  df = distance_fine e k.x k.y lo hi f g tame t i

  abbrev d' : Float
  d' = min_of far k.r

  d'_low : T (le O d')
  d'_low = min_either (λ w. T (le O w)) far k.r df.0 v.r₀

  d'_high : T (le d' M)
  d'_high = le_trans d' k.r M (min_second far k.r df.1 fr) v.r₁

  abbrev P' : Float
  P' = bull_profile d' k.r k.rc

  flat_cap : T (le (z ⊖ P') (high ⊖ base_of k))
  flat_cap =
      let l = base_low k v d' d'_low d'_high in
      le_trans (z ⊖ P') (z ⊖ base_of k) (high ⊖ base_of k) (sub_turns binary64 (base_of k) P' z (base_fine k v) l.1 zh.1 l.0)
      (sub_mono binary64 z high (base_of k) zh.1 fh (base_fine k v) zh.0)

  abbrev d : Float
  d = min_of (least_on e k.x k.y lo hi) k.r

  d_low : T (le O d)
  d_low = min_either (λ w. T (le O w)) _ k.r (least_low e k.x k.y lo hi f g tame) v.r₀

  d_up : T (le d d')
  d_up = min_up _ far k.r (least_fine e k.x k.y lo hi f g tame t i) fr (farther e k.x k.y lo hi f g tame t i)

  d_most : T (le d M)
  d_most = le_trans d d' M d_up d'_high

  slope_cap : le (d ⊖ (k.r ⊖ k.rc)) f0 ≡ false → T (le (z ⊖ P') (high ⊖ bull_profile d k.r k.rc))
  slope_cap n =
      let P = bull_profile d k.r k.rc in
      let fP = profile_finite k.r k.rc v.r₀ v.r₁ v.c₀ v.c₁ d d_low d_most n in
      let fP' = profile_finite' k.r k.rc v.r₀ v.r₁ v.c₀ v.c₁ d d' d_low d_most n d'_high d_up in
      le_trans (z ⊖ P') (z ⊖ P) (high ⊖ P)
      (sub_turns binary64 P P' z fP fP' zh.1 (profile_up k.r k.rc v.r₀ v.r₁ v.c₀ v.c₁ d d' d_low d_most n d'_high d_up))
      (sub_mono binary64 z high P zh.1 fh fP zh.0)

  under_cap : T (le (bull_at k e t) (over_of k (base_of k) high d))
  unfolding bull_at over_of
  under_cap = by_test (le (d ⊖ (k.r ⊖ k.rc)) f0) (λ n. rw n flat_cap) (λ n. rw n (slope_cap n))

-- ---- a cap that something is above
module _ (k : Bull) (e : Edge) (lo hi b : Float) (f : T (fits binary64 lo)) (g : T (fits binary64 hi)) (h : le (cap_of k (base_of k) e lo hi) b ≡ true) where
  there : (le (base_of k) f0 ≡ true) × (tame_on e k.x k.y lo hi ≡ true)
  unfolding cap_of
  there =
      by_test (le (base_of k) f0)
      (λ n. by_test (tame_on e k.x k.y lo hi) (λ m. (n, m)) (λ m. absurd (none_le b (rw (n, m) at h))))
      (λ n. absurd (none_le b (rw n at h)))

  cap_is : cap_of k (base_of k) e lo hi ≡ over_of k (base_of k) (high_on e lo hi) (min_of (least_on e k.x k.y lo hi) k.r)
  unfolding cap_of
  cap_is = rw (there.0, there.1)

  is_based : Based k
  is_based = based k (number_of _ _ (holds _ there.0)).0

  pub ordered : Ordered lo hi
  ordered = places e k.x k.y lo hi f g there.1

  pub capped : (t : Float) → In lo hi t → T (le (bull_at k e t) (cap_of k (base_of k) e lo hi))
  capped t i = rw cap_is (under_cap k is_based e lo hi f g there.1 t i)

  pub largest_under : (n : ℕ) → le (golden_max (bull_at k e) lo hi n) b ≡ true
  largest_under n =
      is_true _ (le_trans _ (cap_of k (base_of k) e lo hi) b
      (largest_in (bull_at k e) lo hi ordered.low ordered.high ordered.order (λ w. T (le w (cap_of k (base_of k) e lo hi))) n capped) (holds _ h))

-- ---- as the code has it
module _ (k : Bull) (e : Edge) (cap lo hi : Float) (f : T (fits binary64 lo)) (g : T (fits binary64 hi)) (q : cap ≡ cap_of k (base_of k) e lo hi) where
  pub cap_stays : (c : Option Contact) (t : Touch) (n : ℕ) → le cap (limit_of c) ≡ true → c ≡ take_of c (golden_max (bull_at k e) lo hi n) t
  cap_stays c t n h = sym (stays_under c _ t (largest_under k e lo hi (limit_of c) f g (subst (λ (w : Float). le w (limit_of c) ≡ true) q h) n))

  pub cap_ends : (n : ℕ) → le cap (max_of (bull_at k e lo) (bull_at k e hi)) ≡ true → max_of (bull_at k e lo) (bull_at k e hi) ≡ golden_max (bull_at k e) lo hi n
  cap_ends n h =
      let b = max_of (bull_at k e lo) (bull_at k e hi) in
      let l = subst (λ (w : Float). le w b ≡ true) q h in
      let o = ordered k e lo hi b f g l in
      sym (ends_largest (bull_at k e) lo hi o.low o.high o.order n (cap_of k (base_of k) e lo hi) (capped k e lo hi b f g l) (holds _ l))
