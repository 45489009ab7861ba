-- Where the boxes say that the cutter passes, no contact on that part of the chord, lifted, stands above the tip.
use Rattle.cutters.specs.declared.Gradient.{Gradient}
use Rattle.std.specs.Prelude.{None, Option, Some}
use mathlib.Core.Bool.{Bool, true, false, cond}
use mathlib.Core.Path.{◌≡◌, refl, sym, ◌∙◌, subst}
use Prim.Native.Nat.{ℕ, zero, suc}
use lib.Dec.{T}
use lib.Ieee.{Float, nan, inf, fin, binary64, add, sub, div, neg, lt, le, eq, fits, is_nan, of_bits}
use lib.Ieee.Fits.{div-fits}
use lib.Ieee.Scale.{finite}
use Rattle.numbers.specs.Reals.{◌⊕◌, ◌⊖◌, ◌⊗◌, ◌⊘◌, f0, f1, f2, f4, min_of, max_of, f0_is, f1_is}
use Rattle.roots.specs.Root.{root_of}
use Rattle.roots.specs.Hypot.{hypot_of}
use Rattle.rules.proofs.Branches.{either, left, no, both_true, by_test, holds}
use Rattle.plane.specs.declared.Triangle.{Triangle}
use Rattle.plane.specs.declared.Touch.{Touch}
use Rattle.plane.specs.declared.Contact.{Contact}
use Rattle.plane.specs.Contacts.{exceeds_of, take_of, at_height}
use Rattle.golden.specs.Upper.{minus_infinity}
use Rattle.cutters.specs.declared.Edge.{Edge}
use Rattle.above.specs.Above.{offer_of}
use Rattle.cutters.specs.Touch.{edge_ab, edge_bc, edge_ca, along, distance_at, length2, crossed_of, reached_of, facing_of, facet_height, from_to}
use Rattle.order.proofs.Ranges.{sub_mono}
use Rattle.order.proofs.Extremes.{either_of, le_self, not_below_lem, min_either, lt_le, not_above, le_not_nan}
use Rattle.order.proofs.Order.{O, le_trans, sub_turns, add_left}
use Rattle.bound.proofs.Unit.{I, Unit, unit_finite}
use Rattle.bound.proofs.Held.{max_under}
use Rattle.bound.proofs.Along.{Between, sub_parts, add_parts}
use Rattle.bound.proofs.Small.{small, small_finite}
use Rattle.bull.specs.declared.Bull.{Bull}
use Rattle.bull.specs.Bull.{bull_profile, bull_over, bull_vertex, bull_vertices, bull_at, bull_stretch, too_low}
use Rattle.bull.specs.Bull.{bull_edge, bull_edges, bull_rest, bull_facet, bull_contact_above, bull_contact}
use Rattle.reach.specs.declared.Chord.{Chord}
use Rattle.reach.specs.Reach.{above_of, gap_of}
use Rattle.bull_pass.specs.declared.Strip.{Strip}
use Rattle.bull_pass.specs.declared.March.{March}
use Rattle.bull_pass.specs.Inside.{strip_of, axis_fair, tip_kept, tip_fair, cutter_fair, fair_of, side_tame, tame_of, under_of, point_block, edge_block, corners_pass}
use Rattle.bull_pass.specs.Inside.{edge_fair, piece_under, march_step, march_run, edge_passes, edges_pass, rests_miss, facet_passes, passes_of}
use Rattle.bull_pass.proofs.Spread.{along_part, mul_parts}
use Rattle.bull_pass.proofs.Marching.{step_under, step_over}
use Rattle.bull_pass.proofs.Blocks.{chosen, OnStrip, InBlock, block_under}
use Rattle.bull_pass.proofs.Facets.{facet_none, missed_fine, rest_x, rest_y}

next : (a b : Bool) → cond a true b ≡ true → a ≡ false → b ≡ true
next true b e f = absurd (no (sym f))
next false b e f = e

-- a contact that is not above h
unfoldable pub Low : Float → Option Contact → Type 0
Low h None = T true
Low h (Some m) = lt h m.height ≡ false

low_take : (h : Float) (c : Option Contact) (z : Float) (t : Touch) → Low h c → lt h z ≡ false → Low h (take_of c z t)
unfolding Low take_of
low_take h None z t a b = b
low_take h (Some m) z t a b = either (Low h) (exceeds_of z m.height) (at_height z t) (at_height m.height m.touch) (λ e. b) (λ e. a)

low_offer : (h : Float) (c d : Option Contact) → Low h c → Low h d → Low h (offer_of c d)
unfolding Low offer_of
low_offer h c None a b = a
low_offer h c (Some m) a b = low_take h c m.height m.touch a b

-- ---- the order where there is no NaN
not_less : (x y : Float) → is_nan x ≡ false → is_nan y ≡ false → lt x y ≡ false → T (le y x)
unfolding is_nan lt le eq
not_less nan y p q h = absurd (no (sym p))
not_less (inf s) nan p q h = absurd (no (sym q))
not_less (inf true) (inf true) p q h = tt
not_less (inf true) (inf false) p q h = absurd (no (sym h))
not_less (inf true) (fin t n d) p q h = absurd (no (sym h))
not_less (inf false) (inf true) p q h = tt
not_less (inf false) (inf false) p q h = tt
not_less (inf false) (fin t n d) p q h = tt
not_less (fin s m e) nan p q h = absurd (no (sym q))
not_less (fin s m e) (inf true) p q h = tt
not_less (fin s m e) (inf false) p q h = absurd (no (sym h))
not_less (fin s m e) (fin t n d) p q h = not_below_lem (fin s m e) (fin t n d) tt tt h

-- ---- the gap of a low contact
module _ (v h tip low : Float) (fh : T (finite h)) (ft : T (finite tip)) (fl : T (finite low)) (k : T (le low tip)) (e : T (le (h ⊖ low) f0)) where
  sink_fine : T (finite v) → T (le v h) → lt f0 (v ⊖ tip) ≡ false
  sink_fine fv g = not_above _ f0
      (le_trans (v ⊖ tip) (h ⊖ tip) f0 (sub_mono binary64 v h tip fv fh ft g) (le_trans (h ⊖ tip) (h ⊖ low) f0 (sub_turns binary64 low tip h fl ft fh k) e))

  sink : T (le v h) → lt f0 (v ⊖ tip) ≡ false
  sink = go v h tip sink_fine fh ft
    where
      go : (v h tip : Float) → (T (finite v) → T (le v h) → lt f0 (v ⊖ tip) ≡ false) → T (finite h) → T (finite tip) → T (le v h) → lt f0 (v ⊖ tip) ≡ false
      go nan h tip f p q g = absurd (unfold le lt eq in g)
      go (inf s) nan tip f p q g = absurd p
      go (inf s) (inf t) tip f p q g = absurd p
      go (inf s) (fin t n d) nan f p q g = absurd q
      go (inf s) (fin t n d) (inf u) f p q g = absurd q
      go (inf true) (fin t n d) (fin u k c) f p q g = unfold of_bits sub add neg lt in refl
      go (inf false) (fin t n d) (fin u k c) f p q g = absurd (unfold le lt eq in g)
      go (fin s m e) h tip f p q g = f tt g

-- the height z, not above h, lifted and seen from the tip
gap_low : (z h lift tip low : Float) → T (finite h) → T (finite lift) → T (finite tip) → T (finite low) → T (finite (h ⊕ lift)) → T (le low tip)
    → T (le (h ⊕ lift ⊖ low) f0) → lt h z ≡ false → lt f0 (z ⊕ lift ⊖ tip) ≡ false
gap_low nan h lift tip low a b c d e p q l = unfold of_bits sub add lt in refl
gap_low (inf s) nan lift tip low a b c d e p q l = absurd a
gap_low (inf s) (inf t) lift tip low a b c d e p q l = absurd a
gap_low (inf false) (fin t n g) lift tip low a b c d e p q l = absurd (no (sym (unfold lt in l)))
gap_low (inf true) (fin t n g) nan tip low a b c d e p q l = absurd b
gap_low (inf true) (fin t n g) (inf u) tip low a b c d e p q l = absurd b
gap_low (inf true) (fin t n g) (fin u m i) nan low a b c d e p q l = absurd c
gap_low (inf true) (fin t n g) (fin u m i) (inf v) low a b c d e p q l = absurd c
gap_low (inf true) (fin t n g) (fin u m i) (fin v k j) low a b c d e p q l = unfold of_bits sub add neg lt in refl
gap_low (fin s m i) h lift tip low a b c d e p q l =
    sink (fin s m i ⊕ lift) (h ⊕ lift) tip low e c d p q (add_left binary64 (fin s m i) h lift tt a b (not_below_lem h (fin s m i) a tt l))

-- ---- corners
first_not_nan : (v b : Float) → T (le v b) → is_nan v ≡ false
unfolding le lt eq is_nan
first_not_nan nan b h = absurd h
first_not_nan (inf s) b h = refl
first_not_nan (fin s m e) b h = refl

min_is : (d r : Float) → T (le d r) → min_of d r ≡ d
unfolding min_of
min_is d r h = rw (first_not_nan d r h, not_above d r h)

max_unit : (v : Float) → T (fits binary64 v) → T (le O (max_of v f0)) × T (fits binary64 (max_of v f0))
unfolding max_of of_bits
max_unit v g =
    by_test (is_nan v) (λ n. rw n (le_self O tt, unfold fits in tt))
    (λ n. by_test (lt v O) (λ l. rw (n, l) (le_self O tt, unfold fits in tt)) (λ l. rw (n, l) (not_less v O n (unfold is_nan in refl) l, g)))

min_unit : (v : Float) → T (fits binary64 v) → T (le (min_of v f1) I) × T (fits binary64 (min_of v f1))
unfolding min_of of_bits
min_unit v g =
    by_test (is_nan v) (λ n. rw n (le_self I tt, unfold fits in tt))
    (λ n. by_test (lt I v) (λ l. rw (n, l) (le_self I tt, unfold fits in tt)) (λ l. rw (n, l) (not_less I v (unfold is_nan in refl) n l, g)))

module _ (k : Strip) (cut : cutter_fair k.r k.rc ≡ true) (x y : Float) (on : OnStrip k x y) where
  abbrev K : Bull
  K = record { x = x; y = y; r = k.r; rc = k.rc }

  point_in : (vx vy vz : Float) → under_of k (point_block vx vy vz) ≡ true → InBlock (point_block vx vy vz) vx vy vz
  unfolding under_of tame_of side_tame point_block
  point_in vx vy vz u =
      let a = both_true _ _ (chosen (tame_of k (point_block vx vy vz)) _ u).0 in
      let b = both_true _ _ a.1 in
      let fx = (sub_parts vx k.high_x (small_finite _ (small _ (both_true _ _ a.0).0))).0 in
      let fy = (sub_parts vy k.high_y (small_finite _ (small _ (both_true _ _ b.0).0))).0 in
      let fz = small_finite _ (small _ b.1) in
      record { left = le_self vx fx; right = le_self vx fx; front = le_self vy fy; back = le_self vy fy; under = le_self vz fz; fine = fz }

  corner_low : (n : ℕ) (vx vy vz : Float) → under_of k (point_block vx vy vz) ≡ true → Low k.high (bull_vertex K n vx vy vz)
  unfolding bull_vertex bull_over Low
  corner_low n vx vy vz u =
      let d = hypot_of (vx ⊖ x) (vy ⊖ y) in
      either (Low k.high) (le d k.r) (at_height (vz ⊖ bull_profile d k.r k.rc) _) None
      (λ e. not_above _ k.high (subst (λ (v : Float). T (le (vz ⊖ bull_profile v k.r k.rc) k.high)) (min_is d k.r (holds _ e))
      (block_under k (point_block vx vy vz) cut u x y vx vy vz on (point_in vx vy vz u))))
      (λ e. tt)

  none_low : Low k.high None
  unfolding Low
  none_low = tt

  nowhere_low : (e : Edge) → Low k.high (bull_stretch K e None)
  unfolding bull_stretch
  nowhere_low e = none_low

  corners_low : (t : Triangle) → corners_pass k t ≡ true → Low k.high (bull_vertices K t)
  unfolding corners_pass bull_vertices
  corners_low t e =
      let a = both_true _ _ e in
      let b = both_true _ _ a.1 in
      low_offer _ _ _ (low_offer _ _ _ (low_offer _ None _ none_low (corner_low 0 _ _ _ a.0)) (corner_low 1 _ _ _ b.0)) (corner_low 2 _ _ _ b.1)

  -- ---- edges
  module _ (e : Edge) where
    edge_in : (lo hi t : Float) → edge_fair e lo hi ≡ true → T (le lo t) → T (le t hi)
        → InBlock (edge_block e lo hi) (along e.ax e.bx t) (along e.ay e.by t) (along e.az e.bz t)
    unfolding edge_fair axis_fair edge_block
    edge_in lo hi t f a b =
        let p = both_true _ _ f in
        let q = both_true _ _ p.1 in
        let px = both_true _ _ p.0 in
        let py = both_true _ _ q.0 in
        let pz = both_true _ _ q.1 in
        let X = along_part e.ax e.bx lo hi t a b (small_finite _ (small _ px.0)) (small_finite _ (small _ px.1)) in
        let Y = along_part e.ay e.by lo hi t a b (small_finite _ (small _ py.0)) (small_finite _ (small _ py.1)) in
        let Z = along_part e.az e.bz lo hi t a b (small_finite _ (small _ pz.0)) (small_finite _ (small _ pz.1)) in
        record { left = X.low; right = X.high; front = Y.low; back = Y.high; under = Z.high; fine = Z.fine }

    lo_fine : (lo hi : Float) → edge_fair e lo hi ≡ true → T (finite lo)
    unfolding edge_fair axis_fair
    lo_fine lo hi f = let p = both_true _ _ (both_true _ _ f).0 in
        (mul_parts lo (e.bx ⊖ e.ax) (add_parts e.ax (lo ⊗ (e.bx ⊖ e.ax)) (small_finite _ (small _ p.0))).1).0

    piece_low : (lo hi t : Float) → piece_under k e lo hi ≡ true → T (le lo t) → T (le t hi) → T (le (bull_at K e t) k.high)
    unfolding piece_under bull_at distance_at
    piece_low lo hi t u a b =
        let c = chosen (edge_fair e lo hi) (under_of k (edge_block e lo hi)) u in
        block_under k (edge_block e lo hi) cut c.1 x y _ _ _ on (edge_in lo hi t c.0 a b)

    fair_of_lem : (lo hi : Float) → piece_under k e lo hi ≡ true → edge_fair e lo hi ≡ true
    unfolding piece_under
    fair_of_lem lo hi u = (chosen (edge_fair e lo hi) (under_of k (edge_block e lo hi)) u).0

    march_low : (n : ℕ) (s : March) → march_run k e n s ≡ true
        → ((t : Float) → T (finite t) → T (le O t) → lt t s.lo ≡ true → T (le (bull_at K e t) k.high))
        → (t : Float) → T (finite t) → T (le O t) → T (le t I) → T (le (bull_at K e t) k.high)
    unfolding march_run
    march_low zero s h prior t f a b = absurd (no h)
    march_low (suc n) s h prior t f a b =
        let hi = min_of (s.lo ⊕ s.w) f1 in
        let cont : (u : March) → u ≡ march_step k e s → cond u.done true (march_run k e n u) ≡ true =
        λ u q. subst (λ (v : March). cond v.done true (march_run k e n v) ≡ true) (sym q) h in
        by_test (piece_under k e s.lo hi)
        (λ p.
        let more : (v : Float) → T (finite v) → T (le O v) → T (le v hi) → T (le (bull_at K e v) k.high) =
        λ v g c d. by_test (lt v s.lo) (λ l. prior v g c l)
        (λ l. piece_low s.lo hi v p (not_below_lem v s.lo g (lo_fine s.lo hi (fair_of_lem s.lo hi p)) l) d) in
        let u : March = record { lo = hi; w = f2 ⊗ s.w; done = le f1 hi } in
        by_test (le f1 hi)
        (λ d. more t f a (le_trans t I hi b (subst (λ (z : Float). T (le z hi)) f1_is (holds _ d))))
        (λ d. march_low n u (next (le f1 hi) (march_run k e n u) (cont u (step_under k e s hi true refl (sym p) refl)) d)
        (λ v g c l. more v g c (lt_le v hi l)) t f a b))
        (λ p. march_low n (record { lo = s.lo; w = s.w ⊘ f2; done = false }) (cont _ (step_over k e s hi false refl (sym p) refl)) prior t f a b)

    edge_low : edge_passes k e ≡ true → (t : Float) → Unit t → T (le (bull_at K e t) k.high)
    unfolding edge_passes
    edge_low h t u =
        march_low 20 (record { lo = f0; w = f1; done = false }) h
        (λ v g c l. absurd (no (sym (not_above O v c) ∙ subst (λ (z : Float). lt v z ≡ true) f0_is l)))
        t (unit_finite t u) u.low u.high

    -- the stretch under the cutter lies from 0 to 1
    crossed_low : edge_passes k e ≡ true → (qa qb root : Float) → Low k.high (bull_stretch K e (crossed_of qa qb root))
    unfolding crossed_of bull_stretch Low
    crossed_low h qa qb root =
        let t0 = max_of ((neg qb ⊖ root) ⊘ (f2 ⊗ qa)) f0 in
        let t1 = min_of ((neg qb ⊕ root) ⊘ (f2 ⊗ qa)) f1 in
        let a = max_unit ((neg qb ⊖ root) ⊘ (f2 ⊗ qa)) (div-fits binary64 (neg qb ⊖ root) (f2 ⊗ qa)) in
        let b = min_unit ((neg qb ⊕ root) ⊘ (f2 ⊗ qa)) (div-fits binary64 (neg qb ⊕ root) (f2 ⊗ qa)) in
        either (λ v. Low k.high (bull_stretch K e v)) (lt t1 t0) None (from_to t0 t1) (λ l. tt)
        (λ l.
        let c = not_less t1 t0 (first_not_nan t1 I b.0) (le_not_nan O t0 a.0) l in
        max_under (bull_at K e) k.high t0 t1 40
        (record { low = a.0; high = le_trans t0 t1 I c b.0; fit = a.1 })
        (record { low = le_trans O t0 t1 a.0 c; high = b.0; fit = b.1 })
        (λ t u. not_above _ k.high (edge_low h t u)))

    stretch_low : edge_passes k e ≡ true → Low k.high (bull_stretch K e (reached_of e x y k.r))
    unfolding reached_of
    stretch_low h =
        let ex = e.bx ⊖ e.ax in
        let ey = e.by ⊖ e.ay in
        let wx = e.ax ⊖ x in
        let wy = e.ay ⊖ y in
        let qa = length2 e in
        let qb = f2 ⊗ (ex ⊗ wx ⊕ ey ⊗ wy) in
        let qc = wx ⊗ wx ⊕ wy ⊗ wy ⊖ k.r ⊗ k.r in
        let disc = qb ⊗ qb ⊖ f4 ⊗ qa ⊗ qc in
        either (λ v. Low k.high (bull_stretch K e v)) (le qa f0) None (cond (lt disc f0) None (crossed_of qa qb (root_of disc))) (λ l. nowhere_low e)
        (λ l. either (λ v. Low k.high (bull_stretch K e v)) (lt disc f0) None (crossed_of qa qb (root_of disc)) (λ p. nowhere_low e)
        (λ p. crossed_low h qa qb (root_of disc)))

    pub edge_offered : edge_passes k e ≡ true → (floor : Float) (c : Option Contact) → Low k.high c → Low k.high (bull_edge K floor c e)
    unfolding bull_edge
    edge_offered h floor c l =
        either (Low k.high) (too_low floor c e) c (offer_of c (bull_stretch K e (reached_of e x y k.r))) (λ p. l) (λ p. low_offer _ _ _ l (stretch_low h))

  edges_low : (t : Triangle) (floor : Float) (c : Option Contact) → edges_pass k t ≡ true → Low k.high c → Low k.high (bull_edges K floor t c)
  unfolding edges_pass bull_edges
  edges_low t floor c h l =
      let a = both_true _ _ h in
      let b = both_true _ _ a.1 in
      edge_offered (edge_ca t) b.1 floor _ (edge_offered (edge_bc t) b.0 floor _ (edge_offered (edge_ab t) a.0 floor c l))

  -- ---- the facet
  module _ (fx : T (finite x)) (fy : T (finite y)) (hx : T (finite k.high_x)) (hy : T (finite k.high_y)) (lx : T (finite k.low_x))
      (ly : T (finite k.low_y)) where
    facet_low : (t : Triangle) (f : Option Gradient) → facet_passes k t f ≡ true → Low k.high (bull_facet K t f)
    unfolding facet_passes rests_miss bull_facet facet_height
    facet_low t None h = none_low
    facet_low t (Some g) h =
        let p = bull_rest (record { x = k.low_x; y = k.low_y; r = k.r; rc = k.rc }) g in
        let q = bull_rest (record { x = k.high_x; y = k.high_y; r = k.r; rc = k.rc }) g in
        let m = missed_fine t p q h in
        subst (Low k.high)
        (sym (facet_none t p q h (bull_rest K g).x (bull_rest K g).y
        (rest_x g k.low_x k.low_y k.low_x x k.low_y y k.r k.rc lx fx m.0 on.left)
        (rest_x g k.low_x k.low_y x k.high_x y k.high_y k.r k.rc fx hx m.0 on.right)
        (rest_y g k.low_x k.low_y k.low_x x k.low_y y k.r k.rc ly fy m.1 on.front)
        (rest_y g k.low_x k.low_y x k.high_x y k.high_y k.r k.rc fy hy m.1 on.back)
        (bull_rest K g).drop))
        none_low

    contact_low : (t : Triangle) → corners_pass k t ≡ true → facet_passes k t (facing_of t) ≡ true → edges_pass k t ≡ true → Low k.high (bull_contact t K)
    unfolding bull_contact bull_contact_above
    contact_low t a b c = low_offer _ _ _ (edges_low t minus_infinity _ c (corners_low t a)) (facet_low t (facing_of t) b)

-- ---- the whole
gap_none : (h : Float) (m : Chord) (s low : Float) (c : Option Contact) → T (finite h) → T (finite m.lift) → T (finite (along m.az m.bz s)) → T (finite low)
    → T (finite (h ⊕ m.lift)) → T (le low (along m.az m.bz s)) → T (le (h ⊕ m.lift ⊖ low) f0) → Low h c → lt f0 (gap_of m s c) ≡ false
unfolding Low gap_of above_of
gap_none h m s low None a b c d e p q l = unfold of_bits div lt in refl
gap_none h m s low (Some n) a b c d e p q l = gap_low n.height h m.lift (along m.az m.bz s) low a b c d e p q l

module _ (t : Triangle) (m : Chord) (r rc lo hi : Float) (pass : passes_of t m r rc lo hi ≡ true) where
  abbrev k : Strip
  k = strip_of m r rc lo hi

  parts : (fair_of m r rc lo hi ≡ true) × (corners_pass k t ≡ true) × (facet_passes k t (facing_of t) ≡ true) × (edges_pass k t ≡ true)
  unfolding passes_of
  parts = let a = both_true _ _ pass in let b = both_true _ _ a.1 in let c = both_true _ _ b.1 in (a.0, b.0, c.0, c.1)

  fair : (cutter_fair r rc ≡ true) × (axis_fair m.ax m.bx lo hi ≡ true) × (axis_fair m.ay m.by lo hi ≡ true) × (axis_fair m.az m.bz lo hi ≡ true)
      × (tip_fair m lo hi ≡ true)
  unfolding fair_of
  fair =
      let a = both_true _ _ parts.0 in
      let b = both_true _ _ a.1 in
      let c = both_true _ _ b.1 in
      let d = both_true _ _ c.1 in
      (a.0, b.0, c.0, d.0, d.1)

  axis : (a b : Float) → axis_fair a b lo hi ≡ true → T (finite (along a b lo)) × T (finite (along a b hi))
  unfolding axis_fair
  axis a b e = let p = both_true _ _ e in (small_finite _ (small _ p.0), small_finite _ (small _ p.1))

  abbrev low : Float
  low = min_of (along m.az m.bz lo) (along m.az m.bz hi)

  tip : T (finite m.lift) × T (finite (low ⊖ m.lift)) × T (finite (low ⊖ m.lift ⊕ m.lift)) × T (le (low ⊖ m.lift ⊕ m.lift ⊖ low) f0)
  unfolding tip_fair tip_kept
  tip =
      let a = both_true _ _ fair.4 in
      let b = both_true _ _ a.1 in
      let c = both_true _ _ b.1 in
      (small_finite _ (small _ a.0), small_finite _ (small _ b.0), small_finite _ (small _ c.0), holds _ c.1)

  module _ (s : Float) (above : T (le lo s)) (below : T (le s hi)) where
    X : Between (along m.ax m.bx lo) (along m.ax m.bx hi) (along m.ax m.bx s)
    X = let f = axis _ _ fair.1 in along_part m.ax m.bx lo hi s above below f.0 f.1

    Y : Between (along m.ay m.by lo) (along m.ay m.by hi) (along m.ay m.by s)
    Y = let f = axis _ _ fair.2 in along_part m.ay m.by lo hi s above below f.0 f.1

    Z : Between (along m.az m.bz lo) (along m.az m.bz hi) (along m.az m.bz s)
    Z = let f = axis _ _ fair.3 in along_part m.az m.bz lo hi s above below f.0 f.1

    on : OnStrip k (along m.ax m.bx s) (along m.ay m.by s)
    unfolding strip_of
    on = record { left = X.low; right = X.high; front = Y.low; back = Y.high }

    ends : T (finite k.high_x) × T (finite k.high_y) × T (finite k.low_x) × T (finite k.low_y)
    unfolding strip_of
    ends =
        let f = axis _ _ fair.1 in
        let g = axis _ _ fair.2 in (
          either_of (λ v. T (finite v)) _ _ f.0 f.1,
          either_of (λ v. T (finite v)) _ _ g.0 g.1,
          min_either (λ v. T (finite v)) _ _ f.0 f.1,
          min_either (λ v. T (finite v)) _ _ g.0 g.1,
        )

    low_fine : T (finite low)
    low_fine = let f = axis _ _ fair.3 in min_either (λ v. T (finite v)) _ _ f.0 f.1

    there : Low (low ⊖ m.lift) (bull_contact t (record { x = along m.ax m.bx s; y = along m.ay m.by s; r = r; rc = rc }))
    unfolding strip_of
    there = contact_low k fair.0 _ _ on X.fine Y.fine ends.0 ends.1 ends.2 ends.3 t parts.1 parts.2 parts.3

    pub never_above : lt f0 (gap_of m s (bull_contact t (record { x = along m.ax m.bx s; y = along m.ay m.by s; r = r; rc = rc }))) ≡ false
    never_above = gap_none (low ⊖ m.lift) m s low _ tip.1 tip.0 Z.fine low_fine tip.2 Z.low tip.3 there
