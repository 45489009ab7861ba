-- A triangle that passes the test has the same contact on top of `from`, whatever lower best so far its candidates are taken beside;
-- and none there where its top is not above.
use mathlib.Core.Bool.{true, false}
use mathlib.Core.Path.{◌≡◌}
use lib.Dec.{T}
use lib.Ieee.{Float, binary64, lt, le, fits, is_nan}
use lib.Ieee.Bits.{is_true}
use Rattle.numbers.specs.Reals.{◌⊖◌, f0, max_of}
use Rattle.rules.proofs.Branches.{by_test, both_true, holds}
use Rattle.order.proofs.Strict.{lt_goes_on, lt_number, le_not_lt}
use Rattle.plane.specs.declared.Triangle.{Triangle}
use Rattle.plane.specs.Contacts.{exceeds_of}
use Rattle.cutters.specs.declared.Edge.{Edge}
use Rattle.cutters.specs.Touch.{edge_ab, edge_bc, edge_ca, facing_of}
use Rattle.above.specs.Above.{offer_of, so_far}
use Rattle.order.proofs.Order.{le_trans}
use Rattle.caps.proofs.Places.{not_less}
use Rattle.tops.specs.Inside.{margin, is_low, lies_low, is_apart, lies_apart, is_parted}
use Rattle.bull.specs.declared.Bull.{Bull}
use Rattle.bull.specs.Bull.{bull_contact_above}
use Rattle.bull.specs.Inside.{base_of}
use Rattle.ahead.proofs.Under.{Under, edge_of, Begun, number, Low, low_is, vertices_under, edge_low, facet_low}
use Rattle.ahead.proofs.Same.{contact_same, contact_under}

-- neither end is above f where the larger is not
module _ (a b f : Float) (h : le (max_of a b) f ≡ true) where
  not_first : lt f a ≡ true → ⊥
  unfolding max_of
  not_first l =
      let n = lt_number f a l in
      by_test (lt a b) (λ g. le_not_lt b f (rw (n, g) at h) (lt_goes_on f a b l g)) (λ g. le_not_lt a f (rw (n, g) at h) l)

  not_second : lt f b ≡ true → ⊥
  unfolding max_of
  not_second l =
      let m = lt_number f b l in
      by_test (is_nan a) (λ n. le_not_lt b f (rw n at h) l)
      (λ n. by_test (lt a b) (λ g. le_not_lt b f (rw (n, g) at h) l)
      (λ g.
      let k : le a f ≡ true = rw (n, g) at h in
      le_not_lt b f (is_true _ (le_trans b a f (not_less a b n m g) (holds _ k))) l))

module _ (f : Float) (b : Begun f) where
  -- a corner that is not above f lies low
  apart_low : (z : Float) → is_apart (f ⊖ margin) f z ≡ true → (lt f z ≡ true → ⊥) → Low f z
  unfolding is_apart
  apart_low z h n = by_test (lt f z) (λ l. absurd (n l)) (λ l. low_is f z (rw l at h))

  module _ (k : Bull) (level : le f0 (base_of k) ≡ true) (fit : T (fits binary64 k.rc)) (t : Triangle) where
    low_edge_lem : (e : Edge) → is_apart (f ⊖ margin) f e.az ≡ true → is_apart (f ⊖ margin) f e.bz ≡ true → le (max_of e.az e.bz) f ≡ true
        → Under f (edge_of k e)
    low_edge_lem e p q l =
        edge_low f b k level fit e (apart_low e.az p (not_first e.az e.bz f l)) (apart_low e.bz q (not_second e.az e.bz f l))

    -- each corner is above f or lies low
    pub apart_same : lies_apart (f ⊖ margin) f t ≡ true → (c : Float) → exceeds_of c f ≡ false
        → offer_of (so_far f) (bull_contact_above t k c) ≡ offer_of (so_far f) (bull_contact_above t k f)
    unfolding lies_apart
    apart_same h c l =
        let p = both_true (is_apart (f ⊖ margin) f t.az) _ h in
        let q = both_true (is_apart (f ⊖ margin) f t.bz) _ p.1 in
        let x = p.0 in
        let y = q.0 in
        let z = q.1 in
        contact_same f (number f b) k t c l (low_edge_lem (edge_ab t) x y, low_edge_lem (edge_bc t) y z, low_edge_lem (edge_ca t) z x)

    module _ (top : Float) (h : is_parted f top t ≡ true) where
      -- its top is not above f
      module _ (u : le top f ≡ true) where
        lows : Low f t.az × Low f t.bz × Low f t.cz
        unfolding is_parted lies_low
        lows =
            let l : lies_low (f ⊖ margin) t ≡ true = rw u at h in
            let p = both_true (is_low (f ⊖ margin) t.az) _ l in
            let q = both_true (is_low (f ⊖ margin) t.bz) _ p.1 in
            (low_is f t.az p.0, low_is f t.bz q.0, low_is f t.cz q.1)

        pub parted_under : (c : Float) → Under f (bull_contact_above t k c)
        parted_under c =
            let x = lows.0 in
            let y = lows.1 in
            let z = lows.2 in
            contact_under f (number f b) k t c (vertices_under f b k level fit t x y z)
            (edge_low f b k level fit (edge_ab t) x y, edge_low f b k level fit (edge_bc t) y z, edge_low f b k level fit (edge_ca t) z x)
            (facet_low f b k level fit t x y z (facing_of t))

      -- it is
      module _ (u : le top f ≡ false) where
        pub parted_same : (c : Float) → exceeds_of c f ≡ false → offer_of (so_far f) (bull_contact_above t k c) ≡ offer_of (so_far f) (bull_contact_above t k f)
        unfolding is_parted
        parted_same = apart_same (rw u at h)
