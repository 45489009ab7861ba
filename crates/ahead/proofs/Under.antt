-- No candidate of a triangle whose corners lie a margin under `from` is above it. So the contact with it changes nothing on top of `from`.
use Rattle.cutters.specs.declared.Gradient.{Gradient}
use Rattle.plane.specs.declared.Weights.{Weights}
use Rattle.std.specs.Prelude.{None, Option, Some}
use mathlib.Core.Bool.{true, false, ◌&&◌}
use mathlib.Core.Path.{◌≡◌, refl, ap, ◌∙◌}
use Prim.Native.Nat.{ℕ}
use lib.Dec.{T}
use lib.Ieee.{Float, nan, inf, fin, binary64, sub, add, neg, sum, round, lt, le, eq, fits, is_nan, of_bits}
use lib.Ieee.Fits.{add-fits, sub-fits}
use lib.Ieee.Scale.{finite}
use Rattle.numbers.specs.Reals.{◌⊕◌, ◌⊖◌, ◌⊗◌, ◌⊘◌, f0, f1, tiny, minus_slack, minus_slack_is, abs_of, min_of, f1_is}
use Rattle.roots.specs.Hypot.{hypot_of}
use Rattle.rules.proofs.Branches.{either, both_true, holds}
use Rattle.plane.specs.declared.Touch.{Touch}
use Rattle.plane.specs.declared.Triangle.{Triangle}
use Rattle.plane.specs.declared.Contact.{Contact}
use Rattle.plane.specs.Contacts.{corner, face, exceeds_of, at_height}
use Rattle.plane.specs.Distance.{bary_of, at_least}
use Rattle.cutters.specs.declared.Edge.{Edge}
use Rattle.cutters.specs.declared.Rest.{Rest}
use Rattle.cutters.specs.Touch.{along, distance_at, reached_of, weighed_of, spot_height, facet_height}
use Rattle.above.specs.Above.{offer_of, so_far}
use Rattle.above.proofs.Above.{waits, offers}
use Rattle.order.proofs.Ranges.{finite_between, sub_mono}
use Rattle.order.proofs.Extremes.{le_self}
use Rattle.order.proofs.Order.{le_trans}
use Rattle.bound.proofs.Unit.{Unit}
use Rattle.bound.proofs.Held.{max_under}
use Rattle.caps.proofs.Places.{reached_all, number_of}
use Rattle.tops.specs.Inside.{margin, deepest, lowest_start, highest_start, is_start, is_low}
use Rattle.tops.proofs.Weights.{S}
use Rattle.tops.proofs.Tops.{deep, first, last, step, corner_under, edge_under, facet_under}
use Rattle.bull.specs.declared.Bull.{Bull}
use Rattle.bull.specs.Bull.{bull_profile, bull_over, bull_vertex, bull_vertices, bull_at, bull_stretch, bull_rest, bull_facet}
use Rattle.bull.specs.Inside.{base_of}
use Rattle.ahead.proofs.Lowered.{lowered, Dropped, dropped, distance_up, profile_up, rim}
use Rattle.ahead.proofs.Resting.{rest_drop}

-- ---- what changes nothing on top of f
abbrev pub Under : Float → Option Contact → Type 0
Under f c = offer_of (so_far f) c ≡ so_far f

pub not_exceeds : (f z : Float) → is_nan f ≡ false → lt f z ≡ false → exceeds_of z f ≡ false
unfolding exceeds_of
not_exceeds f z n h = rw (n, h)

pub under_none : (f : Float) → Under f None
unfolding offer_of
under_none f = refl

pub under_height : (f z : Float) (t : Touch) → is_nan f ≡ false → lt f z ≡ false → Under f (at_height z t)
unfolding offer_of
under_height f z t n h = waits f z _ t (not_exceeds f z n h)

pub under_offer : (f : Float) (c d : Option Contact) → Under f c → Under f d → Under f (offer_of c d)
under_offer f c d p q = offers (so_far f) c d ∙ ap (λ (k : Option Contact). offer_of k d) p ∙ q

-- the candidate of an edge
abbrev pub edge_of : Bull → Edge → Option Contact
edge_of k e = bull_stretch k e (reached_of e k.x k.y k.r)

-- ---- a height at which a walk may begin
pub record Begun (f : Float) : Type 0 where
  pub least : T (le first f)
  pub most : T (le f last)

pub begun : (f : Float) → is_start f ≡ true → Begun f
unfolding is_start of_bits
begun f h = let p = both_true (le lowest_start f) (le f highest_start) h in record { least = holds _ p.0; most = holds _ p.1 }

-- a corner that lies low
pub record Low (f z : Float) : Type 0 where
  pub deeper : T (le deep z)
  pub lower : T (le z (f ⊖ step))

pub low_is : (f z : Float) → is_low (f ⊖ margin) z ≡ true → Low f z
unfolding is_low of_bits
low_is f z h = let p = both_true (le deepest z) (le z (f ⊖ margin)) h in record { deeper = holds _ p.0; lower = holds _ p.1 }

module _ (f : Float) (b : Begun f) where
  pub ff : T (finite f)
  ff = finite_between first f last tt tt b.least b.most

  pub number : is_nan f ≡ false
  number = (number_of first f b.least).1

  -- the height of what lies low is not above f
  low_least : T (le deep (f ⊖ step))
  low_least =
      le_trans deep (first ⊖ step) (f ⊖ step) (unfold sub add neg sum round le lt eq in tt) (sub_mono binary64 first f step tt ff tt b.least)

  low_most : T (le (f ⊖ step) (last ⊖ step))
  low_most = sub_mono binary64 f last step ff tt tt b.most

  low_fine : T (finite (f ⊖ step))
  low_fine = finite_between deep (f ⊖ step) (last ⊖ step) tt (unfold sub add neg sum round in tt) low_least low_most

  low_under : T (le (f ⊖ step) f)
  low_under = corner_under f b.least b.most (f ⊖ step) low_least (le_self (f ⊖ step) low_fine)

  module _ (k : Bull) (level : le f0 (base_of k) ≡ true) (fit : T (fits binary64 k.rc)) where
    -- ---- a vertex
    vertex_under : (n : ℕ) (x y z : Float) → Low f z → Under f (bull_vertex k n x y z)
    unfolding bull_vertex bull_over
    vertex_under n x y z l =
        let d = hypot_of (x ⊖ k.x) (y ⊖ k.y) in
        either (Under f) (le d k.r) (at_height (z ⊖ bull_profile d k.r k.rc) (corner n)) None
        (λ e.
        let h = holds (le d k.r) e in
        let p = profile_up k level d (distance_up (x ⊖ k.x) (y ⊖ k.y) (number_of d k.r h).0) h in
        under_height f _ _ number (lowered z (f ⊖ step) (bull_profile d k.r k.rc) f (sub-fits binary64 f step) ff l.lower low_under p.0 p.1))
        (λ e. under_none f)

    pub vertices_under : (t : Triangle) → Low f t.az → Low f t.bz → Low f t.cz → Under f (bull_vertices k t)
    unfolding bull_vertices
    vertices_under t a b c =
        under_offer f _ _ (under_offer f _ _ (under_offer f _ _ (under_none f) (vertex_under 0 t.ax t.ay t.az a))
        (vertex_under 1 t.bx t.by t.bz b)) (vertex_under 2 t.cx t.cy t.cz c)

    -- ---- an edge
    at_under : (e : Edge) → Low f e.az → Low f e.bz → (t : Float) → Unit t → lt f (bull_at k e t) ≡ false
    unfolding bull_at distance_at
    at_under e p q t u =
        let z = along e.az e.bz t in
        let d = hypot_of (along e.ax e.bx t ⊖ k.x) (along e.ay e.by t ⊖ k.y) in
        let l = edge_under f b.least b.most e.az e.bz t p.deeper p.lower q.deeper q.lower u.low u.high in
        let r = rim k level d (distance_up _ _) in
        let o = profile_up k level (min_of d k.r) r.0 r.1 in
        lowered z z _ f (add-fits binary64 e.az (t ⊗ (e.bz ⊖ e.az))) ff (self z f l) l o.0 o.1
      where
        self : (z f : Float) → T (le z f) → T (le z z)
        self nan f l = absurd (unfold le lt eq in l)
        self (inf true) f l = unfold le lt eq in tt
        self (inf false) f l = unfold le lt eq in tt
        self (fin s m e) f l = le_self (fin s m e) tt

    pub edge_low : (e : Edge) → Low f e.az → Low f e.bz → Under f (edge_of k e)
    edge_low e p q =
        reached_all (λ s. Under f (bull_stretch k e s)) (unfold bull_stretch in under_none f)
        (λ lo hi u v o. unfold bull_stretch in under_height f _ _ number (max_under (bull_at k e) f lo hi 40 u v (at_under e p q))) e k.x k.y k.r

    -- ---- the facet
    weighed_under : (t : Triangle) → Low f t.az → Low f t.bz → Low f t.cz → (drop : Float) → Dropped drop → (v w : Float)
        → Under f (weighed_of t drop (record { u = f1 ⊖ v ⊖ w; v = v; w = w }))
    unfolding weighed_of at_least
    weighed_under t p q r drop d v w =
        let u = f1 ⊖ v ⊖ w in
        let z = u ⊗ t.az ⊕ v ⊗ t.bz ⊕ w ⊗ t.cz in
        either (Under f) _ (at_height (z ⊖ drop) face) None
        (λ o.
        let x = both_true (le minus_slack u) (le minus_slack v && le minus_slack w) o in
        let y = both_true (le minus_slack v) (le minus_slack w) x.1 in
        let g : (s : Float) → le minus_slack s ≡ true → T (le S s) = λ s e. rw minus_slack_is at (holds _ e) in
        let l : T (le z f) =
        rw f1_is (facet_under f b.least b.most v w t.az t.bz t.cz (g v y.0) (g w y.1) (rw f1_is at (g u x.0)) p.deeper p.lower
        q.deeper q.lower r.deeper r.lower) in
        under_height f _ _ number (dropped z z drop f (add-fits binary64 (u ⊗ t.az ⊕ v ⊗ t.bz) (w ⊗ t.cz)) ff (self z f l) l d))
        (λ o. under_none f)
      where
        self : (z f : Float) → T (le z f) → T (le z z)
        self nan f l = absurd (unfold le lt eq in l)
        self (inf true) f l = unfold le lt eq in tt
        self (inf false) f l = unfold le lt eq in tt
        self (fin s m e) f l = le_self (fin s m e) tt

    rest_under : (t : Triangle) → Low f t.az → Low f t.bz → Low f t.cz → (r : Rest) → Dropped r.drop → Under f (facet_height t r)
    unfolding facet_height spot_height bary_of
    rest_under t p q s r d =
        let bx = t.bx ⊖ t.ax in
        let by = t.by ⊖ t.ay in
        let cx = t.cx ⊖ t.ax in
        let cy = t.cy ⊖ t.ay in
        let dx = r.x ⊖ t.ax in
        let dy = r.y ⊖ t.ay in
        let det = bx ⊗ cy ⊖ cx ⊗ by in
        let l1 = (dx ⊗ cy ⊖ cx ⊗ dy) ⊘ det in
        let l2 = (bx ⊗ dy ⊖ dx ⊗ by) ⊘ det in
        either (λ (w : Option Weights). Under f (spot_height t r.drop w)) (lt (abs_of det) tiny) None (Some (record { u = f1 ⊖ l1 ⊖ l2; v = l1; w = l2 }))
        (λ e. unfold spot_height in under_none f) (λ e. weighed_under t p q s r.drop d l1 l2)

    pub facet_low : (t : Triangle) → Low f t.az → Low f t.bz → Low f t.cz → (g : Option Gradient) → Under f (bull_facet k t g)
    unfolding bull_facet
    facet_low t p q s None = under_none f
    facet_low t p q s (Some g) = rest_under t p q s (bull_rest k g) (rest_drop k level fit g)
