-- Where a weight is below -1e-12 at all places of a box, none of them is on the triangle, so the facet has no candidate.
use Rattle.std.specs.Prelude.{None}
use mathlib.Core.Bool.{Bool, true, false, cond, ◌&&◌}
use mathlib.Core.Logic.{◌⊎◌, inl, inr}
use mathlib.Core.Path.{◌≡◌, refl, sym}
use lib.Dec.{T}
use lib.Ieee.{Float, nan, inf, fin, binary64, neg, lt, le, eq, of_bits}
use lib.Ieee.Scale.{finite}
use lib.Ieee.Positive.{positive}
use Rattle.numbers.specs.Reals.{◌⊕◌, ◌⊖◌, ◌⊗◌, ◌⊘◌, f1, tiny, minus_slack, no_slope, abs_of, min_of, max_of}
use Rattle.roots.specs.Root.{root_of}
use Rattle.rules.proofs.Branches.{both_true, no, by_test}
use Rattle.plane.specs.declared.Triangle.{Triangle}
use Rattle.plane.specs.Distance.{bary_of, at_least}
use Rattle.cutters.specs.declared.Gradient.{Gradient}
use Rattle.cutters.specs.declared.Rest.{Rest}
use Rattle.cutters.specs.Touch.{weighed_of, spot_height, rest_of}
use Rattle.plane.specs.Ranges.{is_coordinate}
use Rattle.order.proofs.Ranges.{finite_between, sub_mono}
use Rattle.order.proofs.Extremes.{either_of, not_below_lem, above_finite, min_either}
use Rattle.order.proofs.Order.{le_trans, sub_turns, add_left}
use Rattle.bound.proofs.Along.{Between, add_parts, sub_parts}
use Rattle.bound.proofs.Small.{Small, small, small_finite, small_sub}
use Rattle.bull.specs.declared.Bull.{Bull}
use Rattle.bull.specs.Bull.{bull_sloped, bull_rest}
use Rattle.bull_pass.specs.declared.Range.{Range}
use Rattle.bull_pass.specs.declared.Products.{Products}
use Rattle.bull_pass.specs.Inside.{range_of, weight_of, plain_products, plain_range, outside_of, ranges_miss, products_miss, misses_of}
use Rattle.bull_pass.proofs.Spread.{mul_parts, product_left, product_right, minus_between, quotient, below_all, div_parts}
use Rattle.bull_pass.proofs.Blocks.{chosen}

-- ---- a determinant that counts is not 0
whole_positive : T (positive tiny)
unfolding of_bits
whole_positive = tt

tiny_fine : T (finite tiny)
unfolding of_bits
tiny_fine = tt

abs_fine : (x : Float) → T (finite x) → T (finite (abs_of x))
unfolding abs_of
abs_fine nan p = absurd p
abs_fine (inf s) p = absurd p
abs_fine (fin s m e) p = tt

by_sign : (x : Float) → T (positive (abs_of x)) → T (positive x) ⊎ T (positive (neg x))
unfolding abs_of neg
by_sign nan p = absurd p
by_sign (inf s) p = absurd p
by_sign (fin true m e) p = inr p
by_sign (fin false m e) p = inl p

sign-of : (x : Float) → T (finite x) → lt (abs_of x) tiny ≡ false → T (positive x) ⊎ T (positive (neg x))
sign-of x p h = let f = abs_fine x p in by_sign x (above_finite tiny (abs_of x) whole_positive (not_below_lem (abs_of x) tiny f tiny_fine h) f)

-- ---- a weight over ranges
module _ (k : Products) (det x y : Float) (fd : T (finite det)) (s : T (positive det) ⊎ T (positive (neg det))) (e : plain_range (weight_of k det) ≡ true)
    (X : Between k.a k.b x) (Y : Between k.c k.d y) where
  abbrev p : Float
  p = (min_of k.a k.b ⊖ max_of k.c k.d) ⊘ det

  abbrev q : Float
  q = (max_of k.a k.b ⊖ min_of k.c k.d) ⊘ det

  ends : T (finite p) × T (finite q)
  unfolding plain_range weight_of
  ends = let t = both_true _ _ e in (small_finite _ (small _ t.0), small_finite _ (small _ t.1))

  lows : T (finite (min_of k.a k.b)) × T (finite (max_of k.c k.d))
  lows = sub_parts _ _ (div_parts _ det ends.0)

  highs : T (finite (max_of k.a k.b)) × T (finite (min_of k.c k.d))
  highs = sub_parts _ _ (div_parts _ det ends.1)

  bounds : T (le (min_of k.a k.b ⊖ max_of k.c k.d) (x ⊖ y)) × T (le (x ⊖ y) (max_of k.a k.b ⊖ min_of k.c k.d))
  bounds = minus_between x y _ _ _ _ lows.0 highs.0 highs.1 lows.1 X.fine Y.fine X.low X.high Y.low Y.high

  weight_in : Between p q ((x ⊖ y) ⊘ det)
  weight_in =
      quotient _ _ (x ⊖ y) det fd s ends.0 ends.1
      (finite_between _ _ _ (div_parts _ det ends.0) (div_parts _ det ends.1) bounds.0 bounds.1) bounds.0 bounds.1

-- ---- one of the three weights is too small
off : (a b : Bool) → b ≡ false → (a && b) ≡ false
off true b h = h
off false b h = refl

off_left : (a b : Bool) → a ≡ false → (a && b) ≡ false
off_left true b h = absurd (no (sym h))
off_left false b h = refl

next : (a b : Bool) → cond a true b ≡ true → a ≡ false → b ≡ true
next true b e f = absurd (no (sym f))
next false b e f = e

small_one : Small f1
unfolding of_bits le lt eq
small_one = record { low = tt; high = tt }

least_small : (v : Range) → plain_range v ≡ true → Small (min_of v.low v.high) × Small (max_of v.low v.high)
unfolding plain_range
least_small v e = let t = both_true _ _ e in (min_either Small _ _ (small _ t.0) (small _ t.1), either_of Small _ _ (small _ t.0) (small _ t.1))

inside_small : (v : Range) (l : Float) → plain_range v ≡ true → Between v.low v.high l → Small l
inside_small v l e b =
    let s = least_small v e in
    record { low = le_trans _ (min_of v.low v.high) _ s.0.low b.low; high = le_trans _ (max_of v.low v.high) _ b.high s.1.high }

module _ (v w : Range) (l m : Float) (ev : plain_range v ≡ true) (ew : plain_range w ≡ true) (A : Between v.low v.high l)
    (B : Between w.low w.high m) where
  abbrev lv : Float
  lv = min_of v.low v.high

  abbrev lw : Float
  lw = min_of w.low w.high

  fl : T (finite l)
  fl = small_finite l (inside_small v l ev A)

  flv : T (finite lv)
  flv = small_finite lv (least_small v ev).0

  flw : T (finite lw)
  flw = small_finite lw (least_small w ew).0

  g : T (finite (f1 ⊖ l))
  g = small_sub f1 l small_one (inside_small v l ev A)

  h : T (finite (f1 ⊖ lv))
  h = small_sub f1 lv small_one (least_small v ev).0

  rest : T (le (f1 ⊖ l ⊖ m) (f1 ⊖ lv ⊖ lw))
  rest =
      le_trans _ (f1 ⊖ lv ⊖ m) _ (sub_mono binary64 (f1 ⊖ l) (f1 ⊖ lv) m g h B.fine (sub_turns binary64 lv l f1 flv fl (small_finite f1 small_one) A.low))
      (sub_turns binary64 lw m (f1 ⊖ lv) flw B.fine h B.low)

  none_of : outside_of (range_of v.low v.high) (range_of w.low w.high) ≡ true
      → (le minus_slack (f1 ⊖ l ⊖ m) && (le minus_slack l && le minus_slack m)) ≡ false
  unfolding outside_of range_of
  none_of e =
      by_test (lt (max_of v.low v.high) minus_slack)
      (λ p. off (le minus_slack (f1 ⊖ l ⊖ m)) (le minus_slack l && le minus_slack m)
      (off_left (le minus_slack l) (le minus_slack m) (below_all l _ minus_slack A.high p)))
      (λ p.
      let e₁ = next (lt (max_of v.low v.high) minus_slack) (cond (lt (max_of w.low w.high) minus_slack) true (lt (f1 ⊖ lv ⊖ lw) minus_slack)) e p in
      by_test (lt (max_of w.low w.high) minus_slack)
      (λ q. off (le minus_slack (f1 ⊖ l ⊖ m)) (le minus_slack l && le minus_slack m)
      (off (le minus_slack l) (le minus_slack m) (below_all m _ minus_slack B.high q)))
      (λ q. off_left (le minus_slack (f1 ⊖ l ⊖ m)) (le minus_slack l && le minus_slack m)
      (below_all (f1 ⊖ l ⊖ m) _ minus_slack rest (next (lt (max_of w.low w.high) minus_slack) (lt (f1 ⊖ lv ⊖ lw) minus_slack) e₁ q))))

-- ---- the facet
module _ (t : Triangle) (p q : Rest) (miss : misses_of t p q ≡ true) where
  abbrev bx : Float
  bx = t.bx ⊖ t.ax

  abbrev by : Float
  by = t.by ⊖ t.ay

  abbrev cx : Float
  cx = t.cx ⊖ t.ax

  abbrev cy : Float
  cy = t.cy ⊖ t.ay

  abbrev dx : Float
  dx = p.x ⊖ t.ax

  abbrev dy : Float
  dy = p.y ⊖ t.ay

  abbrev gx : Float
  gx = q.x ⊖ t.ax

  abbrev gy : Float
  gy = q.y ⊖ t.ay

  abbrev det : Float
  det = bx ⊗ cy ⊖ cx ⊗ by

  abbrev kv : Products
  kv = record { a = dx ⊗ cy; b = gx ⊗ cy; c = cx ⊗ dy; d = cx ⊗ gy }

  abbrev kw : Products
  kw = record { a = bx ⊗ dy; b = bx ⊗ gy; c = dx ⊗ by; d = gx ⊗ by }

  first : (is_coordinate det ≡ true) × (products_miss kv kw det ≡ true)
  unfolding misses_of
  first = chosen (is_coordinate det) (products_miss kv kw det) miss

  second : (plain_products kv ≡ true) × (plain_products kw ≡ true) × (ranges_miss (weight_of kv det) (weight_of kw det) ≡ true)
  unfolding products_miss
  second =
      let a = chosen (plain_products kv) (cond (plain_products kw) (ranges_miss (weight_of kv det) (weight_of kw det)) false) first.1 in
      let b = chosen (plain_products kw) (ranges_miss (weight_of kv det) (weight_of kw det)) a.1 in
      (a.0, b.0, b.1)

  abbrev rv : Range
  rv = weight_of kv det

  abbrev rw' : Range
  rw' = weight_of kw det

  third : (plain_range rv ≡ true) × (plain_range rw' ≡ true) × (outside_of (range_of rv.low rv.high) (range_of rw'.low rw'.high) ≡ true)
  unfolding ranges_miss
  third =
      let o = outside_of (range_of rv.low rv.high) (range_of rw'.low rw'.high) in
      let a = chosen (plain_range rv) (cond (plain_range rw') o false) second.2 in
      let b = chosen (plain_range rw') o a.1 in
      (a.0, b.0, b.1)

  fdet : T (finite det)
  fdet = small_finite det (small det first.0)

  pv : T (finite (dx ⊗ cy)) × T (finite (gx ⊗ cy)) × T (finite (cx ⊗ dy)) × T (finite (cx ⊗ gy))
  unfolding plain_products
  pv =
      let a = both_true _ _ second.0 in
      let b = both_true _ _ a.1 in
      let c = both_true _ _ b.1 in
      (small_finite _ (small _ a.0), small_finite _ (small _ b.0), small_finite _ (small _ c.0), small_finite _ (small _ c.1))

  pw : T (finite (bx ⊗ dy)) × T (finite (bx ⊗ gy)) × T (finite (dx ⊗ by)) × T (finite (gx ⊗ by))
  unfolding plain_products
  pw =
      let a = both_true _ _ second.1 in
      let b = both_true _ _ a.1 in
      let c = both_true _ _ b.1 in
      (small_finite _ (small _ a.0), small_finite _ (small _ b.0), small_finite _ (small _ c.0), small_finite _ (small _ c.1))

  fdx : T (finite dx)
  fdx = (mul_parts dx cy pv.0).0

  fgx : T (finite gx)
  fgx = (mul_parts gx cy pv.1).0

  fdy : T (finite dy)
  fdy = (mul_parts cx dy pv.2).1

  fgy : T (finite gy)
  fgy = (mul_parts cx gy pv.3).1

  pub missed_fine : T (finite p.x) × T (finite p.y) × T (finite q.x) × T (finite q.y)
  missed_fine = ((sub_parts p.x t.ax fdx).0, (sub_parts p.y t.ay fdy).0, (sub_parts q.x t.ax fgx).0, (sub_parts q.y t.ay fgy).0)

  module _ (x y : Float) (px : T (le p.x x)) (xq : T (le x q.x)) (py : T (le p.y y)) (yq : T (le y q.y)) where
    abbrev ex : Float
    ex = x ⊖ t.ax

    abbrev ey : Float
    ey = y ⊖ t.ay

    fx : T (finite x)
    fx = finite_between _ x _ (sub_parts p.x t.ax fdx).0 (sub_parts q.x t.ax fgx).0 px xq

    fy : T (finite y)
    fy = finite_between _ y _ (sub_parts p.y t.ay fdy).0 (sub_parts q.y t.ay fgy).0 py yq

    ex_in : T (le dx ex) × T (le ex gx)
    ex_in =
        let a = sub_parts p.x t.ax fdx in
        let b = sub_parts q.x t.ax fgx in
        (sub_mono binary64 p.x x t.ax a.0 fx a.1 px, sub_mono binary64 x q.x t.ax fx b.0 a.1 xq)

    ey_in : T (le dy ey) × T (le ey gy)
    ey_in =
        let a = sub_parts p.y t.ay fdy in
        let b = sub_parts q.y t.ay fgy in
        (sub_mono binary64 p.y y t.ay a.0 fy a.1 py, sub_mono binary64 y q.y t.ay fy b.0 a.1 yq)

    fex : T (finite ex)
    fex = finite_between dx ex gx fdx fgx ex_in.0 ex_in.1

    fey : T (finite ey)
    fey = finite_between dy ey gy fdy fgy ey_in.0 ey_in.1

    module _ (s : T (positive det) ⊎ T (positive (neg det))) where
      lv_in : Between rv.low rv.high ((ex ⊗ cy ⊖ cx ⊗ ey) ⊘ det)
      unfolding weight_of
      lv_in =
          weight_in kv det (ex ⊗ cy) (cx ⊗ ey) fdet s third.0
          (product_left dx gx ex cy fdx fgx fex (mul_parts dx cy pv.0).1 ex_in.0 ex_in.1 pv.0 pv.1)
          (product_right dy gy ey cx fdy fgy fey (mul_parts cx dy pv.2).0 ey_in.0 ey_in.1 pv.2 pv.3)

      lw_in : Between rw'.low rw'.high ((bx ⊗ ey ⊖ ex ⊗ by) ⊘ det)
      unfolding weight_of
      lw_in =
          weight_in kw det (bx ⊗ ey) (ex ⊗ by) fdet s third.1
          (product_right dy gy ey bx fdy fgy fey (mul_parts bx dy pw.0).0 ey_in.0 ey_in.1 pw.0 pw.1)
          (product_left dx gx ex by fdx fgx fex (mul_parts dx by pw.2).1 ex_in.0 ex_in.1 pw.2 pw.3)

      none : (drop : Float) → weighed_of t drop
          (record { u = f1 ⊖ (ex ⊗ cy ⊖ cx ⊗ ey) ⊘ det ⊖ (bx ⊗ ey ⊖ ex ⊗ by) ⊘ det; v = (ex ⊗ cy ⊖ cx ⊗ ey) ⊘ det; w = (bx ⊗ ey ⊖ ex ⊗ by) ⊘ det }) ≡ None
      unfolding weighed_of at_least
      none drop = rw (none_of rv rw' _ _ third.0 third.1 lv_in lw_in third.2)

    pub facet_none : (drop : Float) → spot_height t drop (bary_of t x y) ≡ None
    unfolding spot_height bary_of
    facet_none drop =
        by_test (lt (abs_of det) tiny)
        (λ e. rw e)
        (λ e. rw e (none (sign-of det fdet e) drop))

-- ---- places of rest stand in the axis's order
module _ (g : Gradient) (w z x x' y y' r rc : Float) where
  -- a place of rest that is finite
  abbrev some : Bull
  some = record { x = w; y = z; r = r; rc = rc }

  abbrev low : Bull
  low = record { x = x; y = y; r = r; rc = rc }

  abbrev high : Bull
  high = record { x = x'; y = y'; r = r; rc = rc }

  abbrev reach : Float
  reach = r ⊖ rc ⊕ rc ⊗ g.steep ⊘ root_of (f1 ⊕ g.steep ⊗ g.steep)

  pub rest_x : T (finite x) → T (finite x') → T (finite (bull_rest some g).x) → T (le x x') → T (le (bull_rest low g).x (bull_rest high g).x)
  unfolding bull_rest bull_sloped rest_of
  rest_x fl fh fr h =
      by_test (lt g.steep no_slope)
      (λ e. rw e h)
      (λ e. rw e (add_left binary64 x x' (g.x ⊘ g.steep ⊗ reach) fl fh (add_parts w (g.x ⊘ g.steep ⊗ reach) (rw e at fr)).1 h))

  pub rest_y : T (finite y) → T (finite y') → T (finite (bull_rest some g).y) → T (le y y') → T (le (bull_rest low g).y (bull_rest high g).y)
  unfolding bull_rest bull_sloped rest_of
  rest_y fl fh fr h =
      by_test (lt g.steep no_slope)
      (λ e. rw e h)
      (λ e. rw e (add_left binary64 y y' (g.y ⊘ g.steep ⊗ reach) fl fh (add_parts z (g.y ⊘ g.steep ⊗ reach) (rw e at fr)).1 h))
