-- What lies on one side of a segment, on one coordinate, by a way whose square exceeds the limit, is not within the limit as distances are computed.
use mathlib.Core.Bool.{Bool, true, false}
use mathlib.Core.Path.{◌≡◌, refl, sym, ◌∙◌, subst}
use Prim.Native.Nat.{ℕ, ◌+◌, ◌*◌, ◌≤◌}
use native.Mathlib.Nat.{zero-mul, mul-one, one-mul, mul-pos}
use native.Mathlib.Omega.{arith}
use lib.Dec.{T}
use lib.Ieee.{Float, nan, inf, fin, binary64, add, sub, mul, neg, lt, le, eq, fits, of_bits}
use lib.Ieee.Fits.{mul-fits}
use lib.Ieee.Bits.{is_true}
use lib.Ieee.Scale.{finite}
use lib.Ieee.Positive.{den, den_pos}
use Rattle.numbers.specs.Reals.{◌⊕◌, ◌⊖◌, ◌⊗◌, f0, f1, min_of, max_of, abs_of, clamp_unit, f0_is}
use Rattle.rules.proofs.Branches.{either, by_test, no}
use Rattle.plane.specs.Distance.{nearest_t, dist2_to_segment}
use Rattle.order.proofs.Signed.{upper, lower, is_le, is_sub}
use Rattle.order.proofs.Ranges.{finite_between, sub_mono, zero_is}
use Rattle.order.proofs.Extremes.{either_of, le_self, not_below_lem, max_least, min_either, max_first, lt_le, min_first, min_second, min_up, max_up, not_above}
use Rattle.order.proofs.Order.{O, le_trans, neg_finite, neg_upper, sub_turns, add_is, add_left, add_right, is_mul, own, square_up, square_down}
use Rattle.bound.proofs.Unit.{I}
use Rattle.bound.proofs.Along.{Between, add_parts, mul_part, along_on}
use Rattle.bound.proofs.Small.{square_nonneg}
use Rattle.apart.specs.Inside.{at, low_on, high_on, lowest_on, highest_on, Ahead, Behind, Fine, Beyond, WayBeyond, Apart}

-- ---- nothing added, and nothing taken of a way
module _ (a : Float) (g : T (fits binary64 a)) (p : T (finite a)) where
  plus_none : T (le a (a ⊕ O))
  unfolding neg
  plus_none =
      rw (sym (add_is binary64 a O))
      (is_le binary64 _ _ _ _ _ _ _ _ (den_pos a) (mul-pos (den_pos a) (den_pos (neg O)))
      (rw (mul-one (den a)) (omega (arith, zero-mul (den a), mul-one (upper a), mul-one (lower a))))
      (own a g p) (is_sub binary64 a (neg O) p tt))

  none_left : T (le (a ⊕ O) a)
  unfolding neg
  none_left =
      rw (sym (add_is binary64 a O))
      (is_le binary64 _ _ _ _ _ _ _ _ (mul-pos (den_pos a) (den_pos (neg O))) (den_pos a)
      (rw (mul-one (den a)) (omega (arith, zero-mul (den a), mul-one (upper a), mul-one (lower a))))
      (is_sub binary64 a (neg O) p tt) (own a g p))

  none_plus : T (le a (O ⊕ a))
  none_plus =
      let n = neg_upper a in
      rw (sym (add_is binary64 O a))
      (is_le binary64 _ _ _ _ _ _ _ _ (den_pos a) (mul-pos (den_pos O) (den_pos (neg a)))
      (rw (n.0, n.1, n.2, one-mul (den a)) (omega (arith, zero-mul (den a), mul-one (upper a), mul-one (lower a))))
      (own a g p) (is_sub binary64 O (neg a) tt (neg_finite a p)))

no_way : (e : Float) → T (finite e) → T (le O (O ⊗ e)) × T (le (O ⊗ e) O)
no_way e p = (
  is_le binary64 _ _ _ _ _ _ _ _ (omega arith) (mul-pos (den_pos O) (den_pos e)) (nothing (upper e) (lower e) (den e)) zero_is (is_mul O e tt p),
  is_le binary64 _ _ _ _ _ _ _ _ (mul-pos (den_pos O) (den_pos e)) (omega arith) (nothing' (upper e) (lower e) (den e)) (is_mul O e tt p) zero_is,
)
  where
    nothing : (u l d : ℕ) → 0 * (1 * d) + (0 * l + 0 * u) * 1 ≤ (0 * u + 0 * l) * 1 + 0 * (1 * d)
    nothing u l d = simp (zero-mul) (omega arith)

    nothing' : (u l d : ℕ) → (0 * u + 0 * l) * 1 + 0 * (1 * d) ≤ 0 * (1 * d) + (0 * l + 0 * u) * 1
    nothing' u l d = simp (zero-mul) (omega arith)

-- ---- points of a way lie between its ends, and so does where it begins
module _ (a b : Float) (g : T (fits binary64 a)) (E : T (finite (at a b f1))) where
  f_e : T (finite (at a b I))
  unfolding of_bits
  f_e = E

  fa : T (finite a)
  fa = (add_parts a (I ⊗ (b ⊖ a)) f_e).0

  fe : T (finite (b ⊖ a))
  fe = mul_part I (b ⊖ a) tt (add_parts a (I ⊗ (b ⊖ a)) f_e).1

  abbrev o : Float
  o = O ⊗ (b ⊖ a)

  fo : T (finite o)
  fo = finite_between O o O tt tt (no_way (b ⊖ a) fe).0 (no_way (b ⊖ a) fe).1

  starts : T (le a (at a b O)) × T (le (at a b O) a)
  starts = (
    le_trans a (a ⊕ O) (at a b O) (plus_none a g fa) (add_right binary64 O o a tt fo fa (no_way (b ⊖ a) fe).0),
    le_trans (at a b O) (a ⊕ O) a (add_right binary64 o O a fo tt fa (no_way (b ⊖ a) fe).1) (none_left a g fa),
  )

  f_o : T (finite (at a b O))
  f_o = finite_between a (at a b O) a fa fa starts.0 starts.1

  pub low_fine : T (finite (low_on a b))
  unfolding low_on
  low_fine = min_either (λ v. T (finite v)) a (at a b f1) fa E

  pub high_fine : T (finite (high_on a b))
  unfolding high_on
  high_fine = either_of (λ v. T (finite v)) a (at a b f1) fa E

  pub starts_over : T (le (low_on a b) a)
  unfolding low_on
  starts_over = min_first a (at a b f1) fa E

  pub starts_under : T (le a (high_on a b))
  unfolding high_on
  starts_under = max_first a (at a b f1) fa E

  module _ (s : Float) (l : T (le O s)) (h : T (le s I)) where
    on : Between (at a b O) (at a b I) (at a b s)
    on = along_on a b O I s tt tt (finite_between O s I tt tt l h) l h f_o f_e

    pub way_over : T (le (low_on a b) (at a b s))
    unfolding low_on of_bits
    way_over = le_trans _ _ _ (min_up a (at a b O) (at a b I) fa f_e starts.0) on.low

    pub way_under : T (le (at a b s) (high_on a b))
    unfolding high_on of_bits
    way_under = le_trans _ _ _ on.high (max_up (at a b O) a (at a b I) fa f_e starts.1)

    pub way_fine : T (finite (at a b s))
    way_fine = on.fine

from_none : (s : Float) → le f0 s ≡ true → T (le O s)
unfolding of_bits
from_none s h = subst T (sym h) tt

to_one : (s : Float) → le s f1 ≡ true → T (le s I)
unfolding of_bits
to_one s h = subst T (sym h) tt

pub le_called : (a b y : Float) (t : Bool) → a ≡ b → le a y ≡ t → le b y ≡ t
le_called a b y t p e = rw p at e

-- a way between what two calls gave
pub ahead_called : (L x y x' y' : Float) → x ≡ x' → y ≡ y' → Ahead (x ⊖ y) L → Ahead (x' ⊖ y') L
ahead_called L x y x' y' p q k = rw (p, q) at k

pub behind_called : (L x y x' y' : Float) → x ≡ x' → y ≡ y' → Behind (x ⊖ y) L → Behind (x' ⊖ y') L
behind_called L x y x' y' p q k = rw (p, q) at k

-- 1e7
abbrev ten_million : Float
ten_million = of_bits binary64 0x4163_12d0_0000_0000

-- a number of ordinary size is finite, and so are the parts of a sum
ordinary : (x k : Float) → T (finite k) → le (abs_of x) k ≡ true → T (finite x)
unfolding abs_of le lt eq
ordinary nan k p h = absurd (no h)
ordinary (inf s) nan p h = absurd p
ordinary (inf s) (inf t) p h = absurd p
ordinary (inf s) (fin t n d) p h = absurd (no h)
ordinary (fin s m e) k p h = tt

pub all_fine : (a b c p q : Float) → le (abs_of (at a b f1 ⊕ at b c f1 ⊕ at c a f1 ⊕ at p q f1)) ten_million ≡ true → Fine a b c p q
unfolding of_bits
all_fine a b c p q h =
    let s = add_parts (at a b f1 ⊕ at b c f1 ⊕ at c a f1) (at p q f1) (ordinary _ ten_million tt h) in
    let r = add_parts (at a b f1 ⊕ at b c f1) (at c a f1) s.0 in
    let o = add_parts (at a b f1) (at b c f1) r.0 in
    record { ab = o.0; bc = o.1; ca = r.1; pq = s.1 }

-- ---- what is past the limit stays past it when a square is added
past : (L q u : Float) → lt L q ≡ true → T (le q u) → le u L ≡ false
past L q u l h = by_test (le u L) (λ e. absurd (no (sym (not_above q L (le_trans q u L h (rw e tt))) ∙ l))) (λ e. e)

goes_up : (L u v : Float) → le u L ≡ false → T (le u v) → le v L ≡ false
goes_up L u v l h = by_test (le v L) (λ e. absurd (no (sym l ∙ is_true _ (le_trans u v L h (rw e tt))))) (λ e. e)

data Square (v : Float) : Type 0 where
  none : v ≡ nan → Square v
  some : T (le O v) → Square v

square : (w : Float) → Square (w ⊗ w)
square nan = none (unfold mul in refl)
square (inf true) = some (unfold mul le lt eq in tt)
square (inf false) = some (unfold mul le lt eq in tt)
square (fin s m e) = some (square_nonneg (fin s m e) tt)

more_finite : (u v : Float) → T (fits binary64 u) → T (finite u) → T (finite v) → T (le O v) → T (le u (u ⊕ v)) × T (le u (v ⊕ u))
more_finite u v g p q h = (
  le_trans u (u ⊕ O) (u ⊕ v) (plus_none u g p) (add_right binary64 O v u tt q p h),
  le_trans u (O ⊕ u) (v ⊕ u) (none_plus u g p) (add_left binary64 O v u tt q p h),
)

more : (u v : Float) → T (fits binary64 u) → T (le O u) → T (le O v) → T (le u (u ⊕ v)) × T (le u (v ⊕ u))
unfolding add le lt eq
more nan v g p q = absurd p
more (inf true) v g p q = absurd p
more (inf false) nan g p q = absurd q
more (inf false) (inf true) g p q = absurd q
more (inf false) (inf false) g p q = (tt, tt)
more (inf false) (fin t n d) g p q = (tt, tt)
more (fin s m e) nan g p q = absurd q
more (fin s m e) (inf true) g p q = absurd q
more (fin s m e) (inf false) g p q = (tt, tt)
more (fin s m e) (fin t n d) g p q = more_finite (fin s m e) (fin t n d) g tt tt q

no_number : (v L : Float) → (le (nan ⊕ v) L ≡ false) × (le (v ⊕ nan) L ≡ false)
unfolding add le lt eq
no_number nan L = (refl, refl)
no_number (inf s) L = (refl, refl)
no_number (fin s m e) L = (refl, refl)

abbrev Past : Float → Float → Type 0
Past L u = (w : Float) → (le (u ⊕ w ⊗ w) L ≡ false) × (le (w ⊗ w ⊕ u) L ≡ false)

square_past : (L c : Float) → le (c ⊗ c) L ≡ false → Past L (c ⊗ c)
square_past L c h w = go (square c) (square w)
  where
    go : Square (c ⊗ c) → Square (w ⊗ w) → (le (c ⊗ c ⊕ w ⊗ w) L ≡ false) × (le (w ⊗ w ⊕ c ⊗ c) L ≡ false)
    go (none e) k = rw e (no_number (w ⊗ w) L)
    go (some e) (none k) = rw k ((no_number (c ⊗ c) L).1, (no_number (c ⊗ c) L).0)
    go (some e) (some k) = let m = more (c ⊗ c) (w ⊗ w) (mul-fits binary64 c c) e k in (goes_up L _ _ h m.0, goes_up L _ _ h m.1)

-- ---- a way that is at least as long as one whose square is past the limit
top : (L q : Float) → lt L q ≡ true → T (le q (inf false))
unfolding le lt eq
top nan nan l = absurd (no l)
top (inf s) nan l = absurd (no l)
top (fin s m e) nan l = absurd (no l)
top L (inf true) l = tt
top L (inf false) l = tt
top L (fin s m e) l = tt

endless : (s : Bool) → inf s ⊗ inf s ≡ inf false
unfolding mul
endless true = refl
endless false = refl

not_number : (d : Float) → T (le d nan) → ⊥
unfolding le lt eq
not_number nan h = h
not_number (inf s) h = h
not_number (fin s m e) h = h

ahead_far : (L d c : Float) → Ahead d L → T (le d c) → le (c ⊗ c) L ≡ false
ahead_far L d nan k h = absurd (not_number d h)
ahead_far L d (inf s) k h = rw (endless s) (past L (d ⊗ d) (inf false) k.1 (top L (d ⊗ d) k.1))
ahead_far L d (fin s m e) k h =
    let l = rw f0_is at (lt_le f0 d k.0) in
    past L (d ⊗ d) _ k.1 (square_up d (fin s m e) (finite_between O d (fin s m e) tt tt l h) tt l h)

behind_far : (L d c : Float) → Behind d L → T (le c d) → le (c ⊗ c) L ≡ false
behind_far L d nan k h = absurd (unfold le lt eq in h)
behind_far L d (inf s) k h = rw (endless s) (past L (d ⊗ d) (inf false) k.1 (top L (d ⊗ d) k.1))
behind_far L d (fin s m e) k h =
    let l = rw f0_is at (lt_le d f0 k.0) in
    past L (d ⊗ d) _ k.1 (square_down d (fin s m e) (finite_between (fin s m e) d O tt tt h l) tt l h)

-- ---- where the nearest point of a segment lies: from 0 to 1, or nowhere
pub data Place (t : Float) : Type 0 where
  nowhere : t ≡ nan → Place t
  within : T (le O t) → T (le t I) → Place t

clamped : (t : Float) → Place (clamp_unit t)
unfolding clamp_unit of_bits
clamped nan = nowhere (unfold lt in refl)
clamped (inf true) = unfold lt in (within (unfold le lt eq in tt) (unfold le lt eq in tt))
clamped (inf false) = unfold lt in (within (unfold le lt eq in tt) (unfold le lt eq in tt))
clamped (fin s m e) =
    by_test (lt (fin s m e) O) (λ k. rw k (within (le_self O tt) (unfold le lt eq in tt)))
    (λ k. by_test (lt I (fin s m e)) (λ l. rw (k, l) (within (unfold le lt eq in tt) (le_self I tt)))
    (λ l. rw (k, l) (within (not_below_lem (fin s m e) O tt tt k) (not_below_lem I (fin s m e) tt tt l))))

pub nearest : (x y p p₁ q q₁ : Float) → Place (nearest_t x y p p₁ q q₁)
unfolding nearest_t
nearest x y p p₁ q q₁ = either Place (lt f0 _) (clamp_unit _) f0 (λ e. clamped _) (λ e. unfold of_bits in within (le_self O tt) (unfold le lt eq in tt))

pub nan_way : (p q x : Float) → at p q nan ⊖ x ≡ nan
unfolding sub mul add
nan_way nan q x = refl
nan_way (inf s) q x = refl
nan_way (fin s m e) q x = refl

-- a point x of which every way to the segment is far
module _ (p q L x : Float) (far : (t : Float) → T (le O t) → T (le t I) → le ((at p q t ⊖ x) ⊗ (at p q t ⊖ x)) L ≡ false) where
  way_past : (t : Float) → Place t → Past L ((at p q t ⊖ x) ⊗ (at p q t ⊖ x))
  way_past t (nowhere e) w = rw (e, nan_way p q x) (unfold mul in (no_number (w ⊗ w) L))
  way_past t (within a b) w = square_past L (at p q t ⊖ x) (far t a b) w

  beyond : Beyond p q L x
  unfolding dist2_to_segment
  beyond y p₁ q₁ = ((way_past _ (nearest x y p p₁ q q₁) _).0, (way_past _ (nearest y x p₁ p q₁ q) _).1)

-- ---- the three ways of a triangle
module _ (a b c p q : Float) (ga : T (fits binary64 a)) (gb : T (fits binary64 b)) (gc : T (fits binary64 c)) (gp : T (fits binary64 p))
    (f : Fine a b c p q) where
  abbrev H : Float
  H = highest_on a b c

  abbrev W : Float
  W = lowest_on a b c

  hab : T (finite (high_on a b))
  hab = high_fine a b ga f.ab

  hbc : T (finite (high_on b c))
  hbc = high_fine b c gb f.bc

  hca : T (finite (high_on c a))
  hca = high_fine c a gc f.ca

  lab : T (finite (low_on a b))
  lab = low_fine a b ga f.ab

  lbc : T (finite (low_on b c))
  lbc = low_fine b c gb f.bc

  lca : T (finite (low_on c a))
  lca = low_fine c a gc f.ca

  abbrev hh : Float
  hh = max_of (high_on a b) (high_on b c)

  abbrev ll : Float
  ll = min_of (low_on a b) (low_on b c)

  fhh : T (finite hh)
  fhh = either_of (λ v. T (finite v)) (high_on a b) (high_on b c) hab hbc

  fll : T (finite ll)
  fll = min_either (λ v. T (finite v)) (low_on a b) (low_on b c) lab lbc

  f_h : T (finite H)
  unfolding highest_on
  f_h = either_of (λ v. T (finite v)) hh (high_on c a) fhh hca

  f_w : T (finite W)
  unfolding lowest_on
  f_w = min_either (λ v. T (finite v)) ll (low_on c a) fll lca

  -- each is under the highest and over the lowest
  ab_under : T (le (high_on a b) H)
  unfolding highest_on
  ab_under = le_trans _ hh _ (max_first (high_on a b) (high_on b c) hab hbc) (max_first hh (high_on c a) fhh hca)

  bc_under : T (le (high_on b c) H)
  unfolding highest_on
  bc_under = le_trans _ hh _ (max_least (high_on a b) (high_on b c) hab hbc) (max_first hh (high_on c a) fhh hca)

  ca_under : T (le (high_on c a) H)
  unfolding highest_on
  ca_under = max_least hh (high_on c a) fhh hca

  ab_over : T (le W (low_on a b))
  unfolding lowest_on
  ab_over = le_trans _ ll _ (min_first ll (low_on c a) fll lca) (min_first (low_on a b) (low_on b c) lab lbc)

  bc_over : T (le W (low_on b c))
  unfolding lowest_on
  bc_over = le_trans _ ll _ (min_first ll (low_on c a) fll lca) (min_second (low_on a b) (low_on b c) lab lbc)

  ca_over : T (le W (low_on c a))
  unfolding lowest_on
  ca_over = min_second ll (low_on c a) fll lca

  -- so each point of them lies from the lowest to the highest
  abbrev Spanned : Float → Float → Type 0
  Spanned u v = (t : Float) → T (le O t) → T (le t I) → T (le W (at u v t)) × T (le (at u v t) H)

  spanned : (u v : Float) → T (fits binary64 u) → T (finite (at u v f1)) → T (le W (low_on u v)) → T (le (high_on u v) H) → Spanned u v
  spanned u v g E l h t i j = (
    le_trans W (low_on u v) (at u v t) l (way_over u v g E t i j),
    le_trans (at u v t) (high_on u v) H (way_under u v g E t i j) h,
  )

  pub ab_spanned : Spanned a b
  ab_spanned = spanned a b ga f.ab ab_over ab_under

  pub bc_spanned : Spanned b c
  bc_spanned = spanned b c gb f.bc bc_over bc_under

  pub ca_spanned : Spanned c a
  ca_spanned = spanned c a gc f.ca ca_over ca_under

  -- the ways p-q, from 0 to 1
  fl : T (finite (low_on p q))
  fl = low_fine p q gp f.pq

  fh : T (finite (high_on p q))
  fh = high_fine p q gp f.pq

  -- below the segment
  module _ (L : Float) (k : Ahead (low_on p q ⊖ H) L) where
    under : (x : Float) → T (finite x) → T (le x H) → Beyond p q L x
    under x fx h =
        beyond p q L x
        (λ t l u.
        ahead_far L (low_on p q ⊖ H) (at p q t ⊖ x) k
        (le_trans (low_on p q ⊖ H) (low_on p q ⊖ x) (at p q t ⊖ x) (sub_turns binary64 x H (low_on p q) fx f_h fl h)
        (sub_mono binary64 (low_on p q) (at p q t) x fl (way_fine p q gp f.pq t l u) fx (way_over p q gp f.pq t l u))))

    all_under : (u v : Float) → T (fits binary64 u) → T (finite (at u v f1)) → T (le (high_on u v) H) → Beyond p q L u × WayBeyond p q L u v
    all_under u v g E h = (
      under u (fa u v g E) (le_trans u (high_on u v) H (starts_under u v g E) h),
      λ s l r. under (at u v s) (way_fine u v g E s (from_none s l) (to_one s r))
          (le_trans (at u v s) (high_on u v) H (way_under u v g E s (from_none s l) (to_one s r)) h),
    )

    pub lies_below : Apart a b c p q L
    lies_below =
        let x = all_under a b ga f.ab ab_under in
        let y = all_under b c gb f.bc bc_under in
        let z = all_under c a gc f.ca ca_under in
        record { at_a = x.0; at_b = y.0; at_c = z.0; ab = x.1; bc = y.1; ca = z.1 }

  -- over it
  module _ (L : Float) (k : Behind (high_on p q ⊖ W) L) where
    above : (x : Float) → T (finite x) → T (le W x) → Beyond p q L x
    above x fx h =
        beyond p q L x
        (λ t l u.
        behind_far L (high_on p q ⊖ W) (at p q t ⊖ x) k
        (le_trans (at p q t ⊖ x) (high_on p q ⊖ x) (high_on p q ⊖ W)
        (sub_mono binary64 (at p q t) (high_on p q) x (way_fine p q gp f.pq t l u) fh fx (way_under p q gp f.pq t l u))
        (sub_turns binary64 W x (high_on p q) f_w fx fh h)))

    all_above : (u v : Float) → T (fits binary64 u) → T (finite (at u v f1)) → T (le W (low_on u v)) → Beyond p q L u × WayBeyond p q L u v
    all_above u v g E h = (
      above u (fa u v g E) (le_trans W (low_on u v) u h (starts_over u v g E)),
      λ s l r. above (at u v s) (way_fine u v g E s (from_none s l) (to_one s r))
          (le_trans W (low_on u v) (at u v s) h (way_over u v g E s (from_none s l) (to_one s r))),
    )

    pub lies_over : Apart a b c p q L
    lies_over =
        let x = all_above a b ga f.ab ab_over in
        let y = all_above b c gb f.bc bc_over in
        let z = all_above c a gc f.ca ca_over in
        record { at_a = x.0; at_b = y.0; at_c = z.0; ab = x.1; bc = y.1; ca = z.1 }
