-- The section's surface is nowhere below z0. So no vertex gives a tip above its height less z0,
-- and no edge a bound above its higher end less z0 and what the search's bound adds at most.
use Rattle.std.specs.Prelude.{None, Option, Some}
use mathlib.Core.Bool.{Bool, true, false, cond}
use mathlib.Core.Logic.{⊎_elim}
use mathlib.Core.Path.{◌≡◌, refl, sym, ◌∙◌, subst}
use Prim.Native.Nat.{ℕ}
use native.Mathlib.Nat.{zero-mul}
use native.Mathlib.Omega.{arith}
use lib.Dec.{T}
use lib.IntN.{pos, negsuc}
use lib.Ieee.{Float, nan, inf, fin, binary64, down, sum, round, add, sub, mul, neg, lt, le, fits, is_nan, of_bits}
use lib.Ieee.Fits.{add-fits}
use lib.Ieee.Scale.{finite}
use lib.Ieee.Bits.{is_true}
use Rattle.numbers.specs.Reals.{◌⊕◌, ◌⊖◌, ◌⊗◌, f0, f1, million, billion, min_of, abs_of, million_is, f0_is}
use Rattle.golden.specs.Phi.{phi60}
use Rattle.roots.specs.Root.{root_of}
use Rattle.rules.proofs.Branches.{either, by_test, both_true, no, holds}
use Rattle.plane.specs.declared.Contact.{Contact}
use Rattle.plane.specs.Contacts.{corner, edge}
use Rattle.above.specs.Above.{offer_of}
use Rattle.above.specs.Inside.{limit_of}
use Rattle.above.proofs.Above.{stays_under}
use Rattle.golden.specs.Search.{golden_max, bound_of, golden_max_bound}
use Rattle.cutters.specs.declared.Edge.{Edge}
use Rattle.cutters.specs.Touch.{length2}
use Rattle.plane.specs.Ranges.{is_coordinate}
use Rattle.order.proofs.Signed.{lower, parts→le}
use Rattle.order.proofs.Ranges.{finite_between, sub_mono}
use Rattle.plane.proofs.Ranges.{two}
use Rattle.order.proofs.Extremes.{either_of, le_self, lt_le}
use Rattle.order.proofs.Order.{O, le_trans, sub_turns, add_left, add_right, mul_up, mul_down, mul_swap, no_lower}
use Rattle.order.proofs.Roots.{root_finite}
use Rattle.bound.proofs.Unit.{I, Unit, unit_finite}
use Rattle.bound.proofs.Along.{at, along_between, Between as Lies}
use Rattle.bound.proofs.Small.{M, M', Small, sum_nonneg, small, small_finite, small_up, small_sub, small_range, small_between}
use Rattle.bound.proofs.Near.{Fine, sum_fine}
use Rattle.caps.specs.Inside.{root_most, high_on, tame_rise, square22}
use Rattle.caps.proofs.Places.{not_less, number_of, reached_all}
use Rattle.caps.proofs.Inside.{largest_in}
use Rattle.caps.proofs.Most.{R, root_under, most_finite}
use Rattle.caps.proofs.Bracket.{self, plus_none, none_of_zero}
use Rattle.caps.proofs.Drops.{drop_nan, sum_nan, drop_more}
use Rattle.section.specs.declared.Section.{Section}
use Rattle.section.specs.Section.{positive_reach, valid_section, profile_of, height_over, section_under}
use Rattle.section.specs.Section.{section_vertex, section_at, lipschitz_of, section_stretch, section_edge}
use Rattle.section.specs.Inside.{Firm, low_edge}

-- ---- a valid section
abbrev B : Float
B = fin false 1953125 (pos 9)

billion_is : billion ≡ B
unfolding of_bits
billion_is = refl

pub record Valid (s : Section) : Type 0 where
  pub z_low : T (le O s.z0)
  pub z_high : T (le s.z0 M)
  pub near_low : T (le O s.r0)
  pub near_high : T (le s.r0 s.r1)
  pub far_high : T (le s.r1 M)
  pub rise_low : T (le O s.rise)
  pub rise_high : T (le s.rise B)

pub valid_parts : (s : Section) → valid_section s ≡ true → Valid s
unfolding valid_section positive_reach
valid_parts s e =
    let a = both_true _ _ e in
    let z = both_true _ _ a.0 in
    let b = both_true _ _ a.1 in
    let n = both_true _ _ b.0 in
    let c = both_true (lt f0 s.r1) _ b.1 in
    let d = both_true _ _ c.1 in
    let r = both_true _ _ d.1 in
    record {
      z_low = rw f0_is at (holds (le f0 s.z0) z.0);
      z_high = rw million_is at (holds (le s.z0 million) z.1);
      near_low = rw f0_is at (holds (le f0 s.r0) n.0);
      near_high = holds (le s.r0 s.r1) n.1;
      far_high = rw million_is at (holds (le s.r1 million) d.0);
      rise_low = rw f0_is at (holds (le f0 s.rise) r.0);
      rise_high = rw billion_is at (holds (le s.rise billion) r.1);
    }

-- phi to the 60th, and -1
abbrev Φ : Float
Φ = fin false 2861087775453321 (negsuc 92)

abbrev Φ' : Float
Φ' = fin true 2861087775453321 (negsuc 92)

phi60_is : phi60 ≡ Φ
unfolding of_bits
phi60_is = refl

abbrev J : Float
J = fin true 1 (pos 0)

abs_low : (x : Float) → T (finite x) → T (le O (abs_of x))
unfolding abs_of
abs_low nan p = absurd p
abs_low (inf s) p = absurd p
abs_low (fin s m e) p = parts→le O (fin false m e) tt tt (omega (arith, zero-mul (down e)))

coordinate_size : (x : Float) → is_coordinate x ≡ true → le (abs_of x) million ≡ true
unfolding is_coordinate
coordinate_size x h = h

pub record Climbed (s : Section) (d : Float) : Type 0 where
  pub place : T (finite d)
  pub start : T (finite s.r0)
  pub way : T (finite (d ⊖ s.r0))
  pub climbed : T (finite ((d ⊖ s.r0) ⊗ s.rise))

-- the highest surface of all
abbrev pub top : Float
top = M ⊕ two ⊗ B

module _ (s : Section) (v : Valid s) (g : T (fits binary64 s.z0)) where
  sz : Small s.z0
  sz = small_up s.z0 v.z_low v.z_high

  pub fz : T (finite s.z0)
  fz = small_finite s.z0 sz

  near_most : T (le s.r0 M)
  near_most = le_trans s.r0 s.r1 M v.near_high v.far_high

  s0 : Small s.r0
  s0 = small_up s.r0 v.near_low near_most

  pub f1' : T (finite s.r1)
  f1' = finite_between O s.r1 M tt tt (le_trans O s.r0 s.r1 v.near_low v.near_high) v.far_high

  pub fr : T (finite s.rise)
  fr = finite_between O s.rise B tt tt v.rise_low v.rise_high

  -- a distance beyond r0 and within r1
  pub beyond : (d : Float) → le d s.r0 ≡ false → le d s.r1 ≡ true → T (le s.r0 d)
  beyond d e h =
      not_less d s.r0 (number_of _ _ (holds _ h)).0 (number_of _ _ v.near_low).1
      (by_test (lt d s.r0) (λ l. absurd (no (sym e ∙ is_true _ (lt_le d s.r0 l)))) (λ l. l))

  module _ (d : Float) (lo : T (le s.r0 d)) (hi : T (le d M)) where
    sd : Small d
    sd = small_up d (le_trans O s.r0 d v.near_low lo) hi

    fd : T (finite d)
    fd = small_finite d sd

    more : T (le O (d ⊖ s.r0))
    more =
        le_trans O (s.r0 ⊖ s.r0) (d ⊖ s.r0) (self s.r0 (small_finite _ s0))
        (sub_mono binary64 s.r0 d s.r0 (small_finite _ s0) fd (small_finite _ s0) lo)

    fm : T (finite (d ⊖ s.r0))
    fm = small_sub d s.r0 sd s0

    abbrev climb : Float
    climb = (d ⊖ s.r0) ⊗ s.rise

    climb_low : T (le O climb)
    climb_low = le_trans O (O ⊗ s.rise) climb (none_of_zero s.rise fr) (mul_up O (d ⊖ s.r0) s.rise tt fm fr more (no_lower s.rise fr v.rise_low))

    climb_high : T (le climb (two ⊗ B))
    climb_high =
        le_trans climb (two ⊗ s.rise) (two ⊗ B)
        (mul_up (d ⊖ s.r0) two s.rise fm tt fr (small_range d s.r0 sd s0).1 (no_lower s.rise fr v.rise_low))
        (rw (mul_swap two s.rise tt fr)
        (subst (λ (w : Float). T (le (s.rise ⊗ two) w)) (mul_swap B two tt tt) (mul_up s.rise B two fr tt tt v.rise_high refl)))

    fc : T (finite climb)
    fc = finite_between O climb (two ⊗ B) tt (unfold mul round in tt) climb_low climb_high

    pub climb_fine : Climbed s d
    climb_fine = record { place = fd; start = small_finite _ s0; way = fm; climbed = fc }

    risen : T (le s.z0 (s.z0 ⊕ climb)) × T (le (s.z0 ⊕ climb) top)
    risen = (
      le_trans s.z0 (s.z0 ⊕ O) (s.z0 ⊕ climb) (plus_none s.z0 g fz) (add_right binary64 O climb s.z0 tt fc fz climb_low),
      le_trans (s.z0 ⊕ climb) (M ⊕ climb) top (add_left binary64 s.z0 M climb fz tt fc v.z_high)
          (add_right binary64 climb (two ⊗ B) M fc (unfold mul round in tt) tt climb_high),
    )

  -- ---- the surface at any distance
  pub surface_all : (P : Option Float → Type 0) → P None → ((h : Float) → T (le s.z0 h) → T (le h top) → P (Some h)) → (d : Float) → P (profile_of s d)
  unfolding profile_of
  surface_all P none some d =
      either P (le d s.r0) (Some s.z0) (cond (le d s.r1) (Some (s.z0 ⊕ (d ⊖ s.r0) ⊗ s.rise)) None)
      (λ e. some s.z0 (le_self s.z0 fz) (le_trans s.z0 M top v.z_high (unfold add mul sum round le in tt)))
      (λ e. either P (le d s.r1) (Some (s.z0 ⊕ (d ⊖ s.r0) ⊗ s.rise)) None
      (λ h. let r = risen d (beyond d e h) (le_trans d s.r1 M (holds _ h) v.far_high) in some _ r.0 r.1)
      (λ h. none))

  -- within r1 it is there
  pub height_all : (P : Float → Type 0) → ((h : Float) → T (le s.z0 h) → T (le h top) → P h) → (d : Float) → T (le d s.r1)
      → P (height_over (profile_of s d))
  unfolding profile_of height_over
  height_all P some d m =
      either (λ w. P (height_over w)) (le d s.r0) (Some s.z0) (cond (le d s.r1) (Some (s.z0 ⊕ (d ⊖ s.r0) ⊗ s.rise)) None)
      (λ e. some s.z0 (le_self s.z0 fz) (le_trans s.z0 M top v.z_high (unfold add mul sum round le in tt)))
      (λ e. either (λ w. P (height_over w)) (le d s.r1) (Some (s.z0 ⊕ (d ⊖ s.r0) ⊗ s.rise)) None
      (λ h. let r = risen d (beyond d e h) (le_trans d s.r1 M m v.far_high) in some _ r.0 r.1)
      (λ h. absurd (no (sym h ∙ is_true _ m))))

  pub least_far : (d : Float) → T (le (min_of d s.r1) s.r1)
  unfolding min_of
  least_far d =
      either (λ w. T (le w s.r1)) (is_nan d) s.r1 (cond (lt s.r1 d) s.r1 d) (λ _. le_self s.r1 f1')
      (λ e. either (λ w. T (le w s.r1)) (lt s.r1 d) s.r1 d (λ _. le_self s.r1 f1') (λ l. not_less s.r1 d (number_of _ _ v.far_high).0 e l))

  pub f_top : (h : Float) → T (le s.z0 h) → T (le h top) → T (finite h)
  f_top h a b = finite_between s.z0 h top fz (unfold add mul sum round in tt) a b

  -- ---- a vertex
  pub vertex_low : (c : Option Contact) (x y : Float) (n : ℕ) (vx vy vz : Float) → le (vz ⊖ s.z0) (limit_of c) ≡ true → c ≡ offer_of c (section_vertex s x y n vx vy vz)
  unfolding section_vertex
  vertex_low c x y n vx vy vz h =
      surface_all (λ w. c ≡ offer_of c (section_under n vz w)) (unfold section_under offer_of in refl)
      (λ k a b. unfold section_under offer_of in sym (stays_under c (vz ⊖ k) (corner n) (drop_more vz s.z0 k (limit_of c) fz (f_top k a b) a h))) _

  -- ---- an edge
  module _ (e : Edge) (tame : tame_rise e ≡ true) where
    parts : Small (at e.az e.bz O) × Small (at e.az e.bz I) × (is_coordinate (e.bz ⊖ e.az) ≡ true) × (le (length2 e) square22 ≡ true)
    unfolding tame_rise of_bits
    parts =
        let a = both_true _ _ tame in
        let b = both_true _ _ a.1 in
        let c = both_true _ _ b.1 in
        (small _ a.0, small _ b.0, c.0, c.1)

    abbrev high : Float
    high = high_on e f0 f1

    high_small : Small high
    unfolding high_on of_bits
    high_small =
        record {
          low = either_of (λ w. T (le M' w)) _ _ parts.0.low parts.1.low;
          high =
              either_of (λ w. T (le w M)) _ _ parts.0.high parts.1.high;
        }

    abbrev C : Float
    C = high ⊖ s.z0

    f_c : T (finite C)
    f_c = small_sub high s.z0 high_small sz

    module _ (t : Float) (u : Unit t) where
      abbrev z : Float
      z = at e.az e.bz t

      there : Lies (at e.az e.bz O) (at e.az e.bz I) z
      there = along_between e.az e.bz t u (small_finite _ parts.0) (small_finite _ parts.1)

      sm : Small z
      sm = small_between _ _ z parts.0 parts.1 there

      z_high : T (le z high)
      unfolding high_on of_bits
      z_high = there.high

      pub value_under : (x y : Float) → T (le (section_at s x y e t) C) × T (finite (section_at s x y e t))
      unfolding section_at
      value_under x y =
          height_all (λ h. T (le (z ⊖ h) C) × T (finite (z ⊖ h)))
          (λ h a b.
          let fh = f_top h a b in
          let up = le_trans (z ⊖ h) (z ⊖ s.z0) C (sub_turns binary64 s.z0 h z fz fh (small_finite z sm) a)
          (sub_mono binary64 z high s.z0 (small_finite z sm) (small_finite high high_small) fz z_high) in (
            up,
            finite_between (M' ⊖ top) (z ⊖ h) C (unfold sub add neg sum mul round in tt) f_c
                (le_trans (M' ⊖ top) (z ⊖ top) (z ⊖ h) (sub_mono binary64 M' z top tt (small_finite z sm) (unfold add mul sum round in tt) sm.low)
                (sub_turns binary64 h top z fh (unfold add mul sum round in tt) (small_finite z sm) b))
                up,
          ))
          _ (least_far _)

    -- the search's bound
    abbrev ez : Float
    ez = abs_of (e.bz ⊖ e.az)

    ez_range : T (le O ez) × T (le ez M)
    ez_range = (abs_low (e.bz ⊖ e.az) (small_finite _ (small _ parts.2)), rw million_is at (holds (le ez million) (coordinate_size _ parts.2)))

    fe : T (finite ez)
    fe = finite_between O ez M tt tt ez_range.0 ez_range.1

    fine : Fine (e.bx ⊖ e.ax) (e.by ⊖ e.ay)
    fine = sum_fine (e.bx ⊖ e.ax) (e.by ⊖ e.ay) square22 (unfold of_bits in tt) (holds _ parts.3)

    abbrev q : Float
    q = length2 e

    fit_q : T (fits binary64 q)
    fit_q = add-fits binary64 ((e.bx ⊖ e.ax) ⊗ (e.bx ⊖ e.ax)) ((e.by ⊖ e.ay) ⊗ (e.by ⊖ e.ay))

    root_fine : T (le O (root_of q)) × T (finite (root_of q))
    root_fine = root_finite q fit_q fine.fine fine.low

    most_fine : T (finite (root_most q))
    most_fine = (most_finite q).0

    rise_lower : lower s.rise ≡ 0
    rise_lower = no_lower s.rise fr v.rise_low

    -- rise times the length
    abbrev p₁ : Float
    p₁ = s.rise ⊗ root_of q

    abbrev p₂ : Float
    p₂ = s.rise ⊗ root_most q

    up₁ : T (le p₁ p₂)
    up₁ =
        rw (mul_swap s.rise (root_of q) fr root_fine.1, mul_swap s.rise (root_most q) fr most_fine)
        (mul_up (root_of q) (root_most q) s.rise root_fine.1 most_fine fr (root_under q fit_q fine.fine fine.low parts.3) rise_lower)

    up₂ : T (le p₂ (B ⊗ R))
    up₂ =
        le_trans p₂ (s.rise ⊗ R) (B ⊗ R)
        (rw (mul_swap s.rise R fr tt, mul_swap s.rise (root_most q) fr most_fine)
        (mul_up (root_most q) R s.rise most_fine tt fr (most_finite q).1 rise_lower))
        (mul_up s.rise B R fr tt tt v.rise_high refl)

    low₁ : T (le O p₁)
    low₁ =
        rw (mul_swap s.rise (root_of q) fr root_fine.1)
        (le_trans O (O ⊗ s.rise) (root_of q ⊗ s.rise) (none_of_zero s.rise fr)
        (mul_up O (root_of q) s.rise tt root_fine.1 fr root_fine.0 rise_lower))

    fp₂ : T (finite p₂)
    fp₂ = finite_between O p₂ (B ⊗ R) tt (unfold mul round in tt) (le_trans O p₁ p₂ low₁ up₁) up₂

    fp₁ : T (finite p₁)
    fp₁ = finite_between O p₁ p₂ tt fp₂ low₁ up₁

    -- the slope, and what it is at most
    abbrev L : Float
    L = ez ⊕ p₁

    abbrev K : Float
    K = ez ⊕ p₂

    abbrev N : Float
    N = M ⊕ B ⊗ R

    L-low : T (le O L)
    L-low = sum_nonneg ez p₁ fe fp₁ ez_range.0 low₁

    L-high : T (le L K)
    L-high = add_right binary64 p₁ p₂ ez fp₁ fp₂ fe up₁

    K-high : T (le K N)
    K-high =
        le_trans K (M ⊕ p₂) N (add_left binary64 ez M p₂ fe tt fp₂ ez_range.1) (add_right binary64 p₂ (B ⊗ R) M fp₂ (unfold mul round in tt) tt up₂)

    f_k : T (finite K)
    f_k = finite_between O K N tt (unfold add mul sum round in tt) (le_trans O L K L-low L-high) K-high

    f_l : T (finite L)
    f_l = finite_between O L K tt f_k L-low L-high

    module _ (lo hi : Float) (u : Unit lo) (w : Unit hi) (o : T (le lo hi)) where
      fl : T (finite lo)
      fl = unit_finite lo u

      fh : T (finite hi)
      fh = unit_finite hi w

      abbrev width : Float
      width = hi ⊖ lo

      width_high : T (le width I)
      width_high =
          le_trans width (I ⊖ lo) I (sub_mono binary64 hi I lo fh tt fl w.high)
          (le_trans (I ⊖ lo) (I ⊖ O) I (sub_turns binary64 O lo I tt fl tt u.low) (unfold sub add neg sum round le in tt))

      width_low : T (le J width)
      width_low =
          le_trans J (O ⊖ lo) width
          (le_trans J (O ⊖ I) (O ⊖ lo) (unfold sub add neg sum round le in tt) (sub_turns binary64 lo I O fl tt tt u.high))
          (sub_mono binary64 O hi lo tt fh fl w.low)

      fw : T (finite width)
      fw = finite_between J width I tt tt width_low width_high

      abbrev share : Float
      share = width ⊗ Φ

      share_high : T (le share Φ)
      share_high = le_trans share (I ⊗ Φ) Φ (mul_up width I Φ fw tt tt width_high refl) (unfold mul round le in tt)

      share_low : T (le Φ' share)
      share_low = le_trans Φ' (J ⊗ Φ) share (unfold mul round le in tt) (mul_up J width Φ tt fw tt width_low refl)

      fs : T (finite share)
      fs = finite_between Φ' share Φ tt tt share_low share_high

      abbrev x : Float
      x = L ⊗ share

      x_high : T (le x (K ⊗ Φ))
      x_high =
          le_trans x (L ⊗ Φ) (K ⊗ Φ)
          (rw (mul_swap L share f_l fs, mul_swap L Φ f_l tt) (mul_up share Φ L fs tt f_l share_high (no_lower L f_l L-low)))
          (mul_up L K Φ f_l f_k tt L-high refl)

      x_low : T (le (N ⊗ Φ') x)
      x_low =
          le_trans (N ⊗ Φ') (L ⊗ Φ') x
          (mul_down L N Φ' f_l (unfold add mul sum round in tt) tt (le_trans L K N L-high K-high) refl)
          (rw (mul_swap L share f_l fs, mul_swap L Φ' f_l tt) (mul_up Φ' share L tt fs f_l share_low (no_lower L f_l L-low)))

      f_kΦ : T (finite (K ⊗ Φ))
      f_kΦ =
          finite_between (O ⊗ Φ) (K ⊗ Φ) (N ⊗ Φ) (unfold mul round in tt) (unfold add mul sum round in tt)
          (mul_up O K Φ tt f_k tt (le_trans O L K L-low L-high) refl) (mul_up K N Φ f_k (unfold add mul sum round in tt) tt K-high refl)

      fx : T (finite x)
      fx = finite_between (N ⊗ Φ') x (K ⊗ Φ) (unfold add mul sum round in tt) f_kΦ x_low x_high

      pub bound_under : (x₀ y₀ : Float) → T (le (golden_max_bound (section_at s x₀ y₀ e) lo hi (lipschitz_of s e)) (C ⊕ K ⊗ phi60))
      unfolding golden_max_bound bound_of lipschitz_of
      bound_under x₀ y₀ =
          let m = largest_in (section_at s x₀ y₀ e) lo hi u w o (λ r. T (le r C) × T (finite r)) 60 (λ t k. value_under t k.unit x₀ y₀) in
          rw phi60_is
          (le_trans (golden_max (section_at s x₀ y₀ e) lo hi 60 ⊕ x) (C ⊕ x) (C ⊕ K ⊗ Φ)
          (add_left binary64 _ C x m.1 f_c fx m.0)
          (add_right binary64 x (K ⊗ Φ) C fx f_kΦ f_c x_high))

    pub edge_low : (c : Option Contact) (x y : Float) → le (C ⊕ K ⊗ phi60) (limit_of c) ≡ true → c ≡ offer_of c (section_edge s x y e)
    unfolding section_edge
    edge_low c x y h =
        reached_all (λ k. c ≡ offer_of c (section_stretch s x y e k)) (unfold section_stretch offer_of in refl)
        (λ lo hi u w o. unfold section_stretch offer_of in
        sym (stays_under c _ (edge e.which) (is_true _ (le_trans _ (C ⊕ K ⊗ phi60) (limit_of c) (bound_under lo hi u w o x y) (holds _ h)))))
        e x y s.r1

-- ---- as the code has it
pub vertex_stays : (s : Section) (low : Float) → Firm s low → (c : Option Contact) (x y : Float) (n : ℕ) (vx vy vz : Float) → le (vz ⊖ low) (limit_of c) ≡ true
    → c ≡ offer_of c (section_vertex s x y n vx vy vz)
vertex_stays s low f c x y n vx vy vz h =
    ⊎_elim (λ e. absurd (drop_nan vz low (limit_of c) e h))
    (λ k. vertex_low s (valid_parts s k.0) k.2 c x y n vx vy vz (subst (λ (w : Float). le (vz ⊖ w) (limit_of c) ≡ true) k.1 h)) f

pub edge_stays : (s : Section) (low : Float) → Firm s low → (c : Option Contact) (x y : Float) (e : Edge) → low_edge s low e (limit_of c) ≡ true
    → c ≡ offer_of c (section_edge s x y e)
unfolding low_edge
edge_stays s low f c x y e h =
    let p = chosen _ _ h in
    ⊎_elim (λ k. absurd (sum_nan (high_on e f0 f1) low _ (limit_of c) k p.1))
    (λ k. edge_low s (valid_parts s k.0) k.2 e p.0 c x y (subst
    (λ (w : Float). le (high_on e f0 f1 ⊖ w ⊕ (abs_of (e.bz ⊖ e.az) ⊕ s.rise ⊗ root_most (length2 e)) ⊗ phi60) (limit_of c) ≡ true) k.1 p.1)) f
  where
    chosen : (a b : Bool) → cond a b false ≡ true → (a ≡ true) × (b ≡ true)
    chosen true b e = (refl, e)
    chosen false b e = absurd (no e)
