-- The candidates of a cutter that go on from the floor:
-- the edges that the floor leaves out are the same, since a best so far that is the floor does not raise the larger of the two.
use Rattle.std.specs.Prelude.{None, Option, Some}
use mathlib.Core.Bool.{true, false}
use mathlib.Core.Path.{◌≡◌, refl, ap, sym, ◌∙◌}
use lib.Ieee.{Float, nan, inf, fin, lt, le, is_nan, div, of_bits}
use Rattle.numbers.specs.Reals.{max_of}
use Rattle.rules.proofs.Branches.{by_test}
use Rattle.plane.specs.declared.Touch.{Touch}
use Rattle.plane.specs.declared.Triangle.{Triangle}
use Rattle.plane.specs.declared.Contact.{Contact}
use Rattle.plane.specs.Contacts.{exceeds_of, at_height}
use Rattle.above.specs.Above.{offer_of, so_far}
use Rattle.above.proofs.Above.{takes, waits, offers}
use Rattle.golden.specs.Upper.{minus_infinity}
use Rattle.cutters.specs.declared.Edge.{Edge}
use Rattle.cutters.specs.Touch.{edge_ab, edge_bc, edge_ca, reached_of, facing_of}
use Rattle.bull.specs.declared.Bull.{Bull}
use Rattle.bull.specs.Bull.{bull_vertices, bull_stretch, best_so_far, too_low, bull_edge, bull_edges, bull_facet, bull_contact_above}

none_below : (f : Float) → lt f minus_infinity ≡ false
unfolding of_bits div lt
none_below nan = refl
none_below (inf true) = refl
none_below (inf false) = refl
none_below (fin s m e) = refl

larger_is : (f b : Float) → is_nan f ≡ false → lt f b ≡ false → max_of f b ≡ f
unfolding max_of
larger_is f b n l = rw (n, l)

larger_self : (f : Float) → is_nan f ≡ false → max_of f f ≡ f
unfolding max_of
larger_self f n = by_test (lt f f) (λ l. rw (n, l)) (λ l. rw (n, l))

exceeds_is : (b f : Float) → is_nan f ≡ false → exceeds_of b f ≡ lt f b
unfolding exceeds_of
exceeds_is b f n = rw n

module _ (floor : Float) (s : Touch) (n : is_nan floor ≡ false) where
  best_beside : (c : Option Contact) → max_of floor (best_so_far (offer_of (at_height floor s) c)) ≡ max_of floor (best_so_far c)
  unfolding best_so_far offer_of
  best_beside None = larger_self floor n ∙ sym (larger_is floor minus_infinity n (none_below floor))
  best_beside (Some m) =
      by_test (exceeds_of m.height floor)
      (λ e. ap (λ d. max_of floor (best_so_far d)) (takes floor m.height s m.touch e))
      (λ e. ap (λ d. max_of floor (best_so_far d)) (waits floor m.height s m.touch e) ∙ larger_self floor n ∙ sym (larger_is floor m.height n (sym (exceeds_is m.height floor n) ∙ e)))

  low_beside : (c : Option Contact) (e : Edge) → too_low floor (offer_of (at_height floor s) c) e ≡ too_low floor c e
  unfolding too_low
  low_beside c e = ap (le (max_of e.az e.bz)) (best_beside c)

  edge_beside : (k : Bull) (c : Option Contact) (e : Edge) → offer_of (at_height floor s) (bull_edge k floor c e) ≡ bull_edge k floor (offer_of (at_height floor s) c) e
  unfolding bull_edge
  edge_beside k c e =
      let S = at_height floor s in
      let d = bull_stretch k e (reached_of e k.x k.y k.r) in
      by_test (too_low floor c e)
      (λ l. let m = low_beside c e ∙ l in rw (l, m))
      (λ l. let m = low_beside c e ∙ l in rw (l, m) (offers S c d))

  edges_beside : (k : Bull) (t : Triangle) (c : Option Contact) → offer_of (at_height floor s) (bull_edges k floor t c) ≡ bull_edges k floor t (offer_of (at_height floor s) c)
  unfolding bull_edges
  edges_beside k t c =
      edge_beside k (bull_edge k floor (bull_edge k floor c (edge_ab t)) (edge_bc t)) (edge_ca t)
      ∙ ap (λ d. bull_edge k floor d (edge_ca t)) (edge_beside k (bull_edge k floor c (edge_ab t)) (edge_bc t)
      ∙ ap (λ d. bull_edge k floor d (edge_bc t)) (edge_beside k c (edge_ab t)))

pub contact_beside : (t : Triangle) (k : Bull) (floor : Float) (c r : Option Contact) → is_nan floor ≡ false → c ≡ so_far floor
    → r ≡ offer_of (bull_edges k floor t (offer_of c (bull_vertices k t))) (bull_facet k t (facing_of t)) → r ≡ offer_of (so_far floor) (bull_contact_above t k floor)
unfolding bull_contact_above
contact_beside t k floor c r n p q =
    let F = bull_facet k t (facing_of t) in
    q
    ∙ ap (λ d. offer_of (bull_edges k floor t (offer_of d (bull_vertices k t))) F) p
    ∙ ap (λ d. offer_of d F) (sym (edges_beside floor _ n k t (bull_vertices k t)))
    ∙ sym (offers (so_far floor) (bull_edges k floor t (bull_vertices k t)) F)
