-- The extremes of a mesh of coordinates are coordinates, every triangle's box lies between them, and so its cells lie in the grid.
use Rattle.std.proofs.Common.{◌≡◌, ℕ, zero, suc, ◌+◌, ◌*◌, ◌<◌, ◌≤◌, Bool, true, false, T, ltb, List, length, sym, refl, ap, subst, arith, ltb-false, ltb-true}
use lib.Ieee.{Float, nan, inf, fin, lt, le, is_nan}
use lib.Ieee.Scale.{finite}
use Rattle.numbers.specs.Reals.{◌⊖◌, ◌⊘◌, num, max_of, min_of, f0_is}
use Rattle.plane.specs.Mesh.{triangle_of, lowest, highest, bounds_of}
use Rattle.plane.specs.Ranges.{is_coordinate}
use Rattle.spans.specs.Mesh.{box_of, widened, extent_of}
use Rattle.spans.specs.Axis.{cell_at, cells_along, stretch_of}
use Rattle.spans.specs.Inside.{Near}
use Rattle.spans.proofs.Rounding.{round_down_cuts}
use Rattle.plane.proofs.Ranges.{Coordinate, coordinate, coordinate_finite}
use Rattle.order.proofs.Ranges.{le_trans_finite}
use Rattle.spans.proofs.Sizes.{Size, quotient_low, cells_few, cells_mono}
use Rattle.order.proofs.Extremes.{either_of, le_self, min_either, max_least, max_first, min_first, min_second}

-- beside the infinities that the extremes start from
min_start : (y : Float) → T (finite y) → min_of (inf false) y ≡ y
unfolding min_of is_nan lt
min_start nan q = absurd q
min_start (inf s) q = absurd q
min_start (fin s m e) q = refl

max_start : (y : Float) → T (finite y) → max_of (inf true) y ≡ y
unfolding max_of is_nan lt
max_start nan q = absurd q
max_start (inf s) q = absurd q
max_start (fin s m e) q = refl

-- ---- the least and the most of the first n numbers of a sequence
unfoldable least : (ℕ → Float) → ℕ → Float
least f zero = inf false
least f (suc n) = min_of (least f n) (f n)

unfoldable most : (ℕ → Float) → ℕ → Float
most f zero = inf true
most f (suc n) = max_of (most f n) (f n)

last_or : {P : Type 0} (i n : ℕ) → i < suc n → (i < n → P) → (i ≡ n → P) → P
last_or {P} i n h a b = go (ltb i n) (λ e. a (ltb-true i n e)) (λ e. b (let l = ltb-false i n e in omega arith))
  where
    go : (t : Bool) → (t ≡ true → P) → (t ≡ false → P) → P
    go true x y = x refl
    go false x y = y refl

module _ (f : ℕ → Float) where
  -- each is one of them
  least_one : (P : Float → Type 0) (n : ℕ) → ((i : ℕ) → i < suc n → T (finite (f i))) → ((i : ℕ) → i < suc n → P (f i)) → P (least f (suc n))
  unfolding least
  least_one P zero g p = subst P (sym (min_start (f 0) (g 0 (omega arith)))) (p 0 (omega arith))
  least_one P (suc n) g p = min_either P _ _ (least_one P n (λ i h. g i (omega arith)) (λ i h. p i (omega arith))) (p (suc n) (omega arith))

  most_one : (P : Float → Type 0) (n : ℕ) → ((i : ℕ) → i < suc n → T (finite (f i))) → ((i : ℕ) → i < suc n → P (f i)) → P (most f (suc n))
  unfolding most
  most_one P zero g p = subst P (sym (max_start (f 0) (g 0 (omega arith)))) (p 0 (omega arith))
  most_one P (suc n) g p = either_of P _ _ (most_one P n (λ i h. g i (omega arith)) (λ i h. p i (omega arith))) (p (suc n) (omega arith))

  least_finite : (n : ℕ) → ((i : ℕ) → i < suc n → T (finite (f i))) → T (finite (least f (suc n)))
  least_finite n g = least_one (λ v. T (finite v)) n g g

  most_finite : (n : ℕ) → ((i : ℕ) → i < suc n → T (finite (f i))) → T (finite (most f (suc n)))
  most_finite n g = most_one (λ v. T (finite v)) n g g

  -- and none lies beyond it
  least_le : (n : ℕ) → ((i : ℕ) → i < suc n → T (finite (f i))) → (i : ℕ) → i < suc n → T (le (least f (suc n)) (f i))
  unfolding least
  least_le zero g i h =
      let z : i ≡ 0 = omega arith in
      rw (z, min_start (f 0) (g 0 (omega arith))) (le_self (f 0) (g 0 (omega arith)))
  least_le (suc n) g i h =
      let a = least_finite n (λ i h. g i (omega arith)) in
      let b = g (suc n) (omega arith) in
      last_or i (suc n) h
      (λ l. le_trans_finite _ (least f (suc n)) _ (least_finite (suc n) g) a (g i h) (min_first _ _ a b) (least_le n (λ i h. g i (omega arith)) i l))
      (λ e. rw e (min_second _ _ a b))

  le_most : (n : ℕ) → ((i : ℕ) → i < suc n → T (finite (f i))) → (i : ℕ) → i < suc n → T (le (f i) (most f (suc n)))
  unfolding most
  le_most zero g i h =
      let z : i ≡ 0 = omega arith in
      rw (z, max_start (f 0) (g 0 (omega arith))) (le_self (f 0) (g 0 (omega arith)))
  le_most (suc n) g i h =
      let a = most_finite n (λ i h. g i (omega arith)) in
      let b = g (suc n) (omega arith) in
      last_or i (suc n) h
      (λ l. le_trans_finite _ (most f (suc n)) _ (g i h) a (most_finite (suc n) g) (le_most n (λ i h. g i (omega arith)) i l) (max_first _ _ a b))
      (λ e. rw e (max_least _ _ a b))

-- ---- on one axis: the boxes' ends, of which each is a coordinate
good_finite : (x : Float) → is_coordinate x ≡ true → T (finite x)
good_finite x e = coordinate_finite x (coordinate x e)

-- lo and hi are coordinates, and low and high lie between them in this order
pub record Ordered (lo low high hi : Float) : Type 0 where
  pub lo_good : is_coordinate lo ≡ true
  pub low_good : is_coordinate low ≡ true
  pub high_good : is_coordinate high ≡ true
  pub hi_good : is_coordinate hi ≡ true
  pub above : T (le lo low)
  pub order : T (le low high)
  pub under : T (le high hi)

ordered : (low high : ℕ → Float) (n : ℕ) → ((i : ℕ) → i < suc n → (is_coordinate (low i) ≡ true) × (is_coordinate (high i) ≡ true) × T (le (low i) (high i)))
    → (i : ℕ) → i < suc n → Ordered (least low (suc n)) (low i) (high i) (most high (suc n))
ordered low high n g i h =
    let a : (i : ℕ) → i < suc n → T (finite (low i)) = λ i h. good_finite _ (g i h).0 in
    let b : (i : ℕ) → i < suc n → T (finite (high i)) = λ i h. good_finite _ (g i h).1 in
    record {
      lo_good = least_one low (λ v. is_coordinate v ≡ true) n a (λ i h. (g i h).0);
      low_good = (g i h).0;
      high_good = (g i h).1;
      hi_good = most_one high (λ v. is_coordinate v ≡ true) n b (λ i h. (g i h).1);
      above = least_le low n a i h;
      order = (g i h).2;
      under = le_most high n b i h;
    }

-- the lowest and the highest of three coordinates
three : (a b c : Float) → is_coordinate a ≡ true → is_coordinate b ≡ true → is_coordinate c ≡ true
    → (is_coordinate (lowest a b c) ≡ true) × (is_coordinate (highest a b c) ≡ true) × T (le (lowest a b c) (highest a b c))
unfolding lowest highest
three a b c p q r =
    let low = min_either (λ v. is_coordinate v ≡ true) a b p q in
    let high = either_of (λ v. is_coordinate v ≡ true) a b p q in
    let l = min_either (λ v. is_coordinate v ≡ true) _ c low r in
    let h = either_of (λ v. is_coordinate v ≡ true) _ c high r in (
      l,
      h,
      le_trans_finite _ c _ (good_finite _ l) (good_finite c r) (good_finite _ h) (min_second _ c (good_finite _ low) (good_finite c r))
          (max_least _ c (good_finite _ high) (good_finite c r)),
    )

-- ---- of a mesh
module _ (mesh : List Float) where
  left_is : (n : ℕ) → (extent_of mesh n).left ≡ least (λ i. (box_of mesh i).low_x) n
  unfolding extent_of widened least
  left_is zero = refl
  left_is (suc n) = ap (λ (v : Float). min_of v (box_of mesh n).low_x) (left_is n)

  right_is : (n : ℕ) → (extent_of mesh n).right ≡ most (λ i. (box_of mesh i).high_x) n
  unfolding extent_of widened most
  right_is zero = refl
  right_is (suc n) = ap (λ (v : Float). max_of v (box_of mesh n).high_x) (right_is n)

  bottom_is : (n : ℕ) → (extent_of mesh n).bottom ≡ least (λ i. (box_of mesh i).low_y) n
  unfolding extent_of widened least
  bottom_is zero = refl
  bottom_is (suc n) = ap (λ (v : Float). min_of v (box_of mesh n).low_y) (bottom_is n)

  top_is : (n : ℕ) → (extent_of mesh n).top ≡ most (λ i. (box_of mesh i).high_y) n
  unfolding extent_of widened most
  top_is zero = refl
  top_is (suc n) = ap (λ (v : Float). max_of v (box_of mesh n).high_y) (top_is n)

  module _ (good : (k : ℕ) → k < length mesh → is_coordinate (num mesh k) ≡ true) where
    pub box_x : (i : ℕ) → i * 9 + 9 ≤ length mesh → (is_coordinate (box_of mesh i).low_x ≡ true) × (is_coordinate (box_of mesh i).high_x ≡ true)
        × T (le (box_of mesh i).low_x (box_of mesh i).high_x)
    unfolding box_of bounds_of triangle_of
    box_x i h = three _ _ _ (good _ (omega arith)) (good _ (omega arith)) (good _ (omega arith))

    pub box_y : (i : ℕ) → i * 9 + 9 ≤ length mesh → (is_coordinate (box_of mesh i).low_y ≡ true) × (is_coordinate (box_of mesh i).high_y ≡ true)
        × T (le (box_of mesh i).low_y (box_of mesh i).high_y)
    unfolding box_of bounds_of triangle_of
    box_y i h = three _ _ _ (good _ (omega arith)) (good _ (omega arith)) (good _ (omega arith))

    pub ordered_x : (n : ℕ) → n * 9 ≤ length mesh → (i : ℕ) → i < n
        → Ordered (extent_of mesh n).left (box_of mesh i).low_x (box_of mesh i).high_x (extent_of mesh n).right
    ordered_x zero nine i h = absurd (omega arith)
    ordered_x (suc n) nine i h =
        rw (left_is (suc n), right_is (suc n)) (ordered (λ i. (box_of mesh i).low_x) (λ i. (box_of mesh i).high_x) n (λ i h. box_x i (omega arith)) i h)

    pub ordered_y : (n : ℕ) → n * 9 ≤ length mesh → (i : ℕ) → i < n
        → Ordered (extent_of mesh n).bottom (box_of mesh i).low_y (box_of mesh i).high_y (extent_of mesh n).top
    ordered_y zero nine i h = absurd (omega arith)
    ordered_y (suc n) nine i h =
        rw (bottom_is (suc n), top_is (suc n)) (ordered (λ i. (box_of mesh i).low_y) (λ i. (box_of mesh i).high_y) n (λ i h. box_y i (omega arith)) i h)

-- ---- the cells on an axis
module _ (lo low high hi s : Float) (o : Ordered lo low high hi) (z : Size s) where
  lo_c : Coordinate lo
  lo_c = coordinate lo o.lo_good

  low_c : Coordinate low
  low_c = coordinate low o.low_good

  high_c : Coordinate high
  high_c = coordinate high o.high_good

  hi_c : Coordinate hi
  hi_c = coordinate hi o.hi_good

  lo_high : T (le lo high)
  lo_high = le_trans_finite lo low high (coordinate_finite _ lo_c) (coordinate_finite _ low_c) (coordinate_finite _ high_c) o.above o.order

  lo_hi : T (le lo hi)
  lo_hi = le_trans_finite lo high hi (coordinate_finite _ lo_c) (coordinate_finite _ high_c) (coordinate_finite _ hi_c) lo_high o.under

  along : cells_along lo hi s ≡ cell_at lo s hi + 1
  unfolding cells_along cell_at
  along = ap (λ (k : ℕ). k + 1) (round_down_cuts ((hi ⊖ lo) ⊘ s) (omega (arith, cells_few lo hi s lo_c hi_c z lo_hi)))

  pub along_few : cells_along lo hi s ≤ 2000000000001
  along_few = omega (arith, along, cells_few lo hi s lo_c hi_c z lo_hi)

  -- holding the end to the last cell changes nothing
  pub in_order : (stretch_of lo s (cells_along lo hi s) low high).first ≤ (stretch_of lo s (cells_along lo hi s) low high).last
  unfolding stretch_of
  in_order =
      omega (arith, along, cells_mono lo low high s lo_c low_c high_c z o.above o.order, cells_mono lo high hi s lo_c high_c hi_c z lo_high o.under)

  pub near_ends : cells_along lo hi s ≤ 65536 → Near lo s low × Near lo s high
  near_ends k =
      let a = cells_mono lo low high s lo_c low_c high_c z o.above o.order in
      let b = cells_mono lo high hi s lo_c high_c hi_c z lo_high o.under in (
        record { above = rw f0_is (quotient_low lo low s lo_c low_c z o.above); few = omega (arith, along) },
        record {
          above =
              rw f0_is (quotient_low lo high s lo_c high_c z lo_high);
          few = omega (arith, along);
        },
      )
