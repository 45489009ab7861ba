-- The contact of one triangle on top of `from` is the same whether the floor is `from` or lies under it,
-- where no edge has its higher end under `from` and its tip above.
use Rattle.std.specs.Prelude.{None, Option, Some}
use mathlib.Core.Bool.{true, false}
use mathlib.Core.Path.{◌≡◌, refl, ap, sym, ◌∙◌, subst}
use lib.Ieee.{Float, inf, lt, le, div, is_nan, of_bits}
use lib.Ieee.Bits.{is_true}
use Rattle.numbers.specs.Reals.{max_of}
use Rattle.rules.proofs.Branches.{either, by_test, no, holds}
use Rattle.golden.specs.Upper.{minus_infinity}
use Rattle.plane.specs.declared.Touch.{Touch}
use Rattle.plane.specs.declared.Triangle.{Triangle}
use Rattle.plane.specs.declared.Contact.{Contact}
use Rattle.plane.specs.Contacts.{exceeds_of, at_height}
use Rattle.plane.proofs.Higher.{same_waits}
use Rattle.cutters.specs.declared.Edge.{Edge}
use Rattle.cutters.specs.Touch.{edge_ab, edge_bc, edge_ca, facing_of}
use Rattle.above.specs.Above.{offer_of, so_far}
use Rattle.above.specs.Inside.{limit_of}
use Rattle.above.proofs.Above.{passes, takes, waits, offers}
use Rattle.order.proofs.Extremes.{either_of}
use Rattle.order.proofs.Order.{le_trans}
use Rattle.caps.proofs.Places.{not_less, number_of}
use Rattle.bull.specs.declared.Bull.{Bull}
use Rattle.bull.specs.Bull.{best_so_far, too_low, bull_edge, bull_edges, bull_vertices, bull_facet, bull_contact_above}
use Rattle.ahead.proofs.Lowered.{nothing_under}
use Rattle.ahead.proofs.Under.{Under, under_none, under_offer, edge_of}

least_is : minus_infinity ≡ inf true
unfolding of_bits div
least_is = refl

-- a height that takes b's place is the larger
larger : (b z : Float) → exceeds_of z b ≡ true → max_of b z ≡ z
unfolding exceeds_of max_of
larger b z h = by_test (is_nan b) (λ n. rw n) (λ n. rw (n, rw n at h))

module _ (f : Float) (n : is_nan f ≡ false) where
  not_lt : (w : Float) → exceeds_of w f ≡ false → lt f w ≡ false
  unfolding exceeds_of
  not_lt w h = rw n at h

  -- what is at most a height that is not above f is at most f
  pub under_from : (m w : Float) → exceeds_of w f ≡ false → le m w ≡ true → le m f ≡ true
  under_from m w h l =
      let k = number_of m w (holds _ l) in
      is_true _ (le_trans m w f (holds _ l) (not_less f w n k.1 (not_lt w h)))

  -- ---- a contact that is not above f, and one that is
  none_above : exceeds_of minus_infinity f ≡ false
  unfolding exceeds_of
  none_above = rw (n, least_is) (nothing_under f)

  pub height_of_lem : (c : Option Contact) → Under f c → exceeds_of (best_so_far c) f ≡ false
  unfolding best_so_far offer_of limit_of
  height_of_lem None u = none_above
  height_of_lem (Some m) u =
      by_test (exceeds_of m.height f)
      (λ h.
      let e : m.height ≡ f = ap limit_of (sym (takes f m.height _ m.touch h) ∙ u) in
      absurd (no (sym (same_waits f) ∙ subst (λ (w : Float). exceeds_of w f ≡ true) e h)))
      (λ h. h)

  -- one that takes f's place is itself on top of f, and so is what is the same there
  same_above : (z : Float) (t : Touch) (q : Option Contact) → exceeds_of z f ≡ true → offer_of (so_far f) (at_height z t) ≡ offer_of (so_far f) q → q ≡ at_height z t
  unfolding offer_of limit_of
  same_above z t None h e =
      let i : z ≡ f = ap limit_of (sym (takes f z _ t h) ∙ e) in
      absurd (no (sym (same_waits f) ∙ subst (λ (w : Float). exceeds_of w f ≡ true) i h))
  same_above z t (Some m) h e =
      by_test (exceeds_of m.height f)
      (λ g. sym (takes f m.height _ m.touch g) ∙ sym e ∙ takes f z _ t h)
      (λ g.
      let i : z ≡ f = ap limit_of (sym (takes f z _ t h) ∙ e ∙ waits f m.height _ m.touch g) in
      absurd (no (sym (same_waits f) ∙ subst (λ (w : Float). exceeds_of w f ≡ true) i h)))

  -- ---- one edge
  module _ (k : Bull) (e : Edge) (low : le (max_of e.az e.bz) f ≡ true → Under f (edge_of k e)) where
    too_low_lem : (b : Float) (c : Option Contact) → exceeds_of b f ≡ false → Under f c → too_low b c e ≡ true → le (max_of e.az e.bz) f ≡ true
    unfolding too_low
    too_low_lem b c h u g = under_from _ (max_of b (best_so_far c)) (either_of (λ w. exceeds_of w f ≡ false) b (best_so_far c) h (height_of_lem c u)) g

    -- beside a contact that is not above f it does not matter whether an edge is left out
    low_edge_lem : (b : Float) (c : Option Contact) → exceeds_of b f ≡ false → Under f c → offer_of (so_far f) (bull_edge k b c e) ≡ offer_of (so_far f) (offer_of c (edge_of k e))
    unfolding bull_edge
    low_edge_lem b c h u =
        either (λ d. offer_of (so_far f) d ≡ offer_of (so_far f) (offer_of c (edge_of k e))) (too_low b c e) c (offer_of c (edge_of k e))
        (λ g. u ∙ sym (under_offer f c (edge_of k e) u (low (too_low_lem b c h u g))))
        (λ g. refl)

    -- beside one that is above f both leave it out or neither does
    high_edge : (b z : Float) (t : Touch) → exceeds_of b f ≡ false → exceeds_of z f ≡ true → bull_edge k b (at_height z t) e ≡ bull_edge k f (at_height z t) e
    unfolding bull_edge too_low best_so_far
    high_edge b z t h g = rw (larger b z (over b h), larger f z g)
      where
        over : (b : Float) → exceeds_of b f ≡ false → exceeds_of z b ≡ true
        over b h = by_test (exceeds_of z b) (λ i. i) (λ i. absurd (no (sym h ∙ passes f z b g i)))

    pub edge_same : (b : Float) (p q : Option Contact) → exceeds_of b f ≡ false → offer_of (so_far f) p ≡ offer_of (so_far f) q
        → offer_of (so_far f) (bull_edge k b p e) ≡ offer_of (so_far f) (bull_edge k f q e)
    edge_same b p q h i = by_contact p refl
      where
        lows : Under f p → offer_of (so_far f) (bull_edge k b p e) ≡ offer_of (so_far f) (bull_edge k f q e)
        lows u =
            low_edge_lem b p h u ∙ offers (so_far f) p (edge_of k e) ∙ ap (λ (c : Option Contact). offer_of c (edge_of k e)) i
            ∙ sym (offers (so_far f) q (edge_of k e)) ∙ sym (low_edge_lem f q (same_waits f) (sym i ∙ u))

        by_contact : (c : Option Contact) → p ≡ c → offer_of (so_far f) (bull_edge k b p e) ≡ offer_of (so_far f) (bull_edge k f q e)
        by_contact None j = lows (ap (offer_of (so_far f)) j ∙ under_none f)
        by_contact (Some m) j =
            by_test (exceeds_of m.height f)
            (λ g.
            let o : q ≡ at_height m.height m.touch = same_above m.height m.touch q g (ap (offer_of (so_far f)) (sym j) ∙ i) in
            ap (λ (c : Option Contact). offer_of (so_far f) (bull_edge k b c e)) j ∙ ap (offer_of (so_far f)) (high_edge b m.height m.touch h g)
            ∙ ap (λ (c : Option Contact). offer_of (so_far f) (bull_edge k f c e)) (sym o))
            (λ g. lows (ap (offer_of (so_far f)) j ∙ (unfold offer_of in waits f m.height _ m.touch g)))

  -- ---- the triangle
  module _ (k : Bull) (t : Triangle) where
    abbrev Edges : (Edge → Type 0) → Type 0
    Edges P = P (edge_ab t) × P (edge_bc t) × P (edge_ca t)

    pub contact_same : (b : Float) → exceeds_of b f ≡ false → Edges (λ e. le (max_of e.az e.bz) f ≡ true → Under f (edge_of k e))
        → offer_of (so_far f) (bull_contact_above t k b) ≡ offer_of (so_far f) (bull_contact_above t k f)
    unfolding bull_contact_above bull_edges
    contact_same b h low =
        let v = bull_vertices k t in
        let g = bull_facet k t (facing_of t) in
        let s =
        edge_same k (edge_ca t) low.2 b _ _ h
        (edge_same k (edge_bc t) low.1 b _ _ h
        (edge_same k (edge_ab t) low.0 b v v h refl)) in
        offers (so_far f) _ g ∙ ap (λ (c : Option Contact). offer_of c g) s ∙ sym (offers (so_far f) _ g)

    edge_under : (b : Float) (c : Option Contact) (e : Edge) → Under f c → Under f (edge_of k e) → Under f (bull_edge k b c e)
    unfolding bull_edge
    edge_under b c e u w = either (Under f) (too_low b c e) c (offer_of c (edge_of k e)) (λ g. u) (λ g. under_offer f c (edge_of k e) u w)

    pub contact_under : (b : Float) → Under f (bull_vertices k t) → Edges (λ e. Under f (edge_of k e)) → Under f (bull_facet k t (facing_of t))
        → Under f (bull_contact_above t k b)
    unfolding bull_contact_above bull_edges
    contact_under b v e g =
        under_offer f _ _ (edge_under b _ (edge_ca t) (edge_under b _ (edge_bc t) (edge_under b _ (edge_ab t) v e.0) e.1) e.2) g
