-- Candidates that change nothing: what is not higher than the best so far, a point offered before, a way of no length.
use Rattle.plane.specs.Contacts.{at_height}
use Rattle.std.specs.Prelude.{None, Option}
use mathlib.Core.Bool.{Bool, true, false, cond, ◌||◌, beq}
use mathlib.Core.List.{List, [], ◌∷◌, ◌++◌}
use mathlib.Core.Path.{◌≡◌, refl, sym, ap, ◌∙◌, subst}
use Prim.Native.Nat.{◌+◌, ◌*◌, ◌^◌}
use native.Mathlib.Nat.{zero-mul, mul-one, zero-div}
use native.Mathlib.Omega.{arith}
use borrow.Author.Tests.{eqb-true, not-false}
use lib.Dec.{T, eqb}
use lib.Ieee.{Float, nan, inf, fin, binary64, of_bits, up, down, size, units, lt, le, eq, ne, is_nan}
use lib.Ieee.Bits.{is_true}
use lib.Ieee.Scale.{finite}
use Rattle.numbers.specs.Reals.{◌⊕◌, ◌⊖◌, ◌⊗◌, ◌⊘◌, f0, f1, f2, f4, minus_slack, past_one, three_million, max_of, abs_of, clamp_unit}
use Rattle.roots.specs.Root.{whole_root, root_of}
use Rattle.roots.specs.Hypot.{infinite, count_of, even_root, hypot_of_count, hypot_of}
use Rattle.rules.proofs.Branches.{by_test, both_true, no}
use Rattle.order.proofs.Ranges.{finite_between}
use Rattle.order.proofs.Extremes.{not_below_lem, max_least, max_first, lt_le}
use Rattle.order.proofs.Order.{O, le_trans, add_right, mul_up, mul_down, no_lower, no_upper}
use Rattle.bound.proofs.Unit.{I}
use Rattle.bound.proofs.Along.{add_parts, mul_part}
use Rattle.plane.specs.declared.Touch.{Touch}
use Rattle.plane.specs.declared.Triangle.{Triangle}
use Rattle.plane.specs.declared.Contact.{Contact}
use Rattle.above.specs.Above as above
use Rattle.above.specs.Inside.{limit_of}
use Rattle.above.proofs.Above.{goes_on, stays_under}
use Rattle.apart.specs.Inside.{Apart}
use Rattle.capsule.specs.declared.Capsule.{Capsule}
use Rattle.capsule.specs.declared.Place.{Place}
use Rattle.capsule.specs.declared.Point.{Point}
use Rattle.capsule.specs.declared.Edge.{Edge}
use Rattle.capsule.specs.declared.Rise.{Rise}
use Rattle.capsule.specs.Region.{in_capsule, offer_of, offered_all}
use Rattle.capsule.specs.Candidates.{each, corner_a, corner_b, corner_c, corners, edge_of, edges, on_edge, point_on, reached, squared, solved, circled}
use Rattle.capsule.specs.Candidates.{ends, sided, sides, crossed, tangents, flank, flanks, places, candidates, highest_in}
use Rattle.capsule.specs.Inside.{on_top, Higher, NotAbove, Outside, Away, Ordinary, centre, Single, firsts}
use Rattle.capsule.proofs.Gathering.{offered_all_append, both}
use Rattle.capsule.proofs.Again.{Held, held_on, held_now, held_same}

-- ---- candidates on top of a best so far give what their contact gives on top of it
module _ (k : Capsule) where
  top_one : (c d : Option Contact) (v : Point) → above.offer_of c (offer_of k d v) ≡ offer_of k (above.offer_of c d) v
  unfolding offer_of
  top_one c d v = by_test (in_capsule k v.x v.y) (λ e. rw e (goes_on c d v.z v.touch)) (λ e. rw e)

  top_all : (c d : Option Contact) (vs : List Point) → above.offer_of c (offered_all k d vs) ≡ offered_all k (above.offer_of c d) vs
  unfolding offered_all
  top_all c d [] = refl
  top_all c d (v ∷ vs) = top_all c (offer_of k d v) vs ∙ ap (λ b. offered_all k b vs) (top_one c d v)

pub topped : (k : Capsule) (t : Triangle) (z : Float) → offered_all k (above.so_far z) (candidates k t) ≡ on_top z (highest_in k t)
unfolding highest_in above.offer_of
topped k t z = sym (top_all k (above.so_far z) None (candidates k t))

-- ---- one candidate
module _ (k : Capsule) (c : Option Contact) (v : Point) where
  pub lower_stays : (r : Bool) → Higher c v.z r → r ≡ false → c ≡ offer_of k c v
  unfolding offer_of
  lower_stays r h e = by_test (in_capsule k v.x v.y) (λ i. rw i (sym (h v.touch ∙ rw e))) (λ i. rw i)

  pub outside_stays : in_capsule k v.x v.y ≡ false → c ≡ offer_of k c v
  unfolding offer_of
  outside_stays i = rw i

  pub higher_takes : (r : Bool) → Higher c v.z r → r ≡ true → in_capsule k v.x v.y ≡ true → at_height v.z v.touch ≡ offer_of k c v
  unfolding offer_of
  higher_takes r h e i = rw i (sym (h v.touch ∙ rw e))

-- ---- an edge none of whose points is higher
pub ordinary_size : (x : Float) → le (abs_of x) three_million ≡ true → T (finite x)
unfolding abs_of of_bits
ordinary_size nan h = absurd (unfold le in (subst T (sym h) tt))
ordinary_size (inf s) h = absurd (unfold le in (subst T (sym h) tt))
ordinary_size (fin s m e) h = tt

module _ (z d b : Float) (P : T (finite (z ⊕ O ⊗ d))) (Q : T (finite (z ⊕ I ⊗ d))) (h : T (le (max_of (z ⊕ O ⊗ d) (z ⊕ I ⊗ d)) b)) where
  fz : T (finite z)
  fz = (add_parts z (O ⊗ d) P).0

  f_o : T (finite (O ⊗ d))
  f_o = (add_parts z (O ⊗ d) P).1

  f_i : T (finite (I ⊗ d))
  f_i = (add_parts z (I ⊗ d) Q).1

  fd : T (finite d)
  fd = mul_part O d tt f_o

  point_under : (s : Float) → T (le O s) → T (le s I) → T (le (z ⊕ s ⊗ d) b)
  point_under s lo hi =
      let fs = finite_between O s I tt tt lo hi in
      by_test (lt d O)
      (λ l.
      let u = no_upper d fd (lt_le d O l) in
      let p = mul_down O s d tt fs fd lo u in
      let q = mul_down s I d fs tt fd hi u in
      let f = finite_between (I ⊗ d) (s ⊗ d) (O ⊗ d) f_i f_o q p in
      le_trans _ _ b (add_right binary64 (s ⊗ d) (O ⊗ d) z f f_o fz p) (le_trans _ _ b (max_first (z ⊕ O ⊗ d) (z ⊕ I ⊗ d) P Q) h))
      (λ l.
      let u = no_lower d fd (not_below_lem d O fd tt l) in
      let p = mul_up O s d tt fs fd lo u in
      let q = mul_up s I d fs tt fd hi u in
      let f = finite_between (O ⊗ d) (s ⊗ d) (I ⊗ d) f_o f_i p q in
      le_trans _ _ b (add_right binary64 (s ⊗ d) (I ⊗ d) z f f_i fz q) (le_trans _ _ b (max_least (z ⊕ O ⊗ d) (z ⊕ I ⊗ d) P Q) h))

pub edge_under : (b : Float) (g : Touch) (e : Edge) → Ordinary (e.z ⊕ f0 ⊗ e.dz) (e.z ⊕ f1 ⊗ e.dz)
    → le (max_of (e.z ⊕ f0 ⊗ e.dz) (e.z ⊕ f1 ⊗ e.dz)) b ≡ true → NotAbove (at_height b g) e
unfolding of_bits limit_of
edge_under b g e o h s lo hi t =
    stays_under (at_height b g) (e.z ⊕ s ⊗ e.dz) t
    (is_true _ (point_under e.z e.dz b o.0 o.1 (subst T (sym h) tt) s (subst T (sym lo) tt) (subst T (sym hi) tt)))

-- a place on an edge lies from 0 to 1 once its slack is cut off
clamped : (t : Float) → on_edge t ≡ true → (le f0 (clamp_unit t) ≡ true) × (le (clamp_unit t) f1 ≡ true)
unfolding on_edge clamp_unit of_bits le
clamped t h =
    let p = both_true (le minus_slack t) (le t past_one) h in
    let f = finite_between minus_slack t past_one tt tt (subst T (sym p.0) tt) (subst T (sym p.1) tt) in
    by_test (lt t f0) (λ e. rw e (refl, refl))
    (λ e. by_test (lt f1 t) (λ g. rw (e, g) (refl, refl))
    (λ g. rw (e, g) (is_true _ (not_below_lem t f0 f tt e), is_true _ (not_below_lem f1 t tt f g))))

-- the same lists change nothing that none of an edge's points changes
abbrev Kept : Capsule → Option Contact → Edge → Type 0
Kept k c e = (s : Float) → le f0 s ≡ true → le s f1 ≡ true → offer_of k c (point_on e s) ≡ c

low_kept : (k : Capsule) (c : Option Contact) (e : Edge) → NotAbove c e → Kept k c e
unfolding offer_of point_on
low_kept k c e u s lo hi = by_test (in_capsule k (e.x ⊕ s ⊗ e.dx) (e.y ⊕ s ⊗ e.dy)) (λ i. rw i (u s lo hi _)) (λ i. rw i)

far_kept : (k : Capsule) (c : Option Contact) (e : Edge) → Outside k e → Kept k c e
unfolding offer_of point_on
far_kept k c e u s lo hi = rw (u s lo hi)

module _ (k : Capsule) (e : Edge) (c : Option Contact) (point-same : Kept k c e) where
  reached_same : (t : Float) → offered_all k c (reached e t) ≡ c
  unfolding reached offered_all
  reached_same t = by_test (on_edge t) (λ i. let p = clamped t i in rw i (point-same (clamp_unit t) p.0 p.1)) (λ i. rw i)

  both_same : (xs ys : List Point) → offered_all k c xs ≡ c → offered_all k c ys ≡ c → offered_all k c (xs ++ ys) ≡ c
  both_same xs ys p q = offered_all_append k c xs ys ∙ (ap (λ d. offered_all k d ys) p ∙ q)

  if-same : (b : Bool) (xs : List Point) → offered_all k c xs ≡ c → offered_all k c (cond b xs []) ≡ c
  unfolding offered_all
  if-same true xs p = p
  if-same false xs p = refl

  each_same : {A : Type 0} (f : A → List Point) → ((x : A) → offered_all k c (f x) ≡ c) → (xs : List A) → offered_all k c (each f xs) ≡ c
  unfolding each offered_all
  each_same f h [] = refl
  each_same f h (x ∷ xs) = both_same (f x) (each f xs) (h x) (each_same f h xs)

  solved_same : (b s : Float) → offered_all k c (solved e b s) ≡ c
  unfolding solved
  solved_same b s = both_same (reached e _) (reached e _) (reached_same _) (reached_same _)

  circled_same : (p : Place) → offered_all k c (circled k e p) ≡ c
  unfolding circled
  circled_same p =
      let fx = e.x ⊖ p.x in
      let fy = e.y ⊖ p.y in
      let bq = f2 ⊗ (fx ⊗ e.dx ⊕ fy ⊗ e.dy) in
      let disc = bq ⊗ bq ⊖ f4 ⊗ squared e ⊗ (fx ⊗ fx ⊕ fy ⊗ fy ⊖ k.r ⊗ k.r) in
      if-same (le f0 disc) (solved e bq (root_of disc)) (solved_same bq (root_of disc))

  sided_same : (s : Float) → offered_all k c (sided k e s) ≡ c
  unfolding sided
  sided_same s =
      let den = e.dx ⊗ k.nx ⊕ e.dy ⊗ k.ny in
      let off = s ⊗ k.r ⊖ ((e.x ⊖ k.px) ⊗ k.nx ⊕ (e.y ⊖ k.py) ⊗ k.ny) in
      if-same (ne den f0) (reached e (off ⊘ den)) (reached_same (off ⊘ den))

  crossed_kept : offered_all k c (crossed k e) ≡ c
  unfolding crossed
  crossed_kept =
      if-same (lt f0 (squared e)) (each (circled k e) (ends k) ++ cond (lt f0 k.len) (each (sided k e) sides) [])
      (both_same (each (circled k e) (ends k)) (cond (lt f0 k.len) (each (sided k e) sides) []) (each_same (circled k e) circled_same (ends k))
      (if-same (lt f0 k.len) (each (sided k e) sides) (each_same (sided k e) sided_same sides)))

pub crossed_same : (k : Capsule) (e : Edge) (c : Option Contact) → NotAbove c e → offered_all k c (crossed k e) ≡ c
crossed_same k e c u = crossed_kept k e c (low_kept k c e u)

-- ---- a triangle whose corners and edges lie outside the capsule
module _ (k : Capsule) (t : Triangle) where
  pub away_x : Apart t.ax t.bx t.cx k.px k.qx k.limit → Away k t
  unfolding in_capsule edge_of corner_a corner_b corner_c
  away_x u =
      record {
        a = (u.at_a _ _ _).0;
        b = (u.at_b _ _ _).0;
        c = (u.at_c _ _ _).0;
        ab = λ s l h. (u.ab s l h _ _ _).0;
        bc = λ s l h. (u.bc s l h _ _ _).0;
        ca = λ s l h. (u.ca s l h _ _ _).0;
      }

  pub away_y : Apart t.ay t.by t.cy k.py k.qy k.limit → Away k t
  unfolding in_capsule edge_of corner_a corner_b corner_c
  away_y u =
      record {
        a = (u.at_a _ _ _).1;
        b = (u.at_b _ _ _).1;
        c = (u.at_c _ _ _).1;
        ab = λ s l h. (u.ab s l h _ _ _).1;
        bc = λ s l h. (u.bc s l h _ _ _).1;
        ca = λ s l h. (u.ca s l h _ _ _).1;
      }

  pub away_corners : (c : Option Contact) → Away k t → c ≡ offered_all k c (corners t)
  unfolding offered_all offer_of corners corner_a corner_b corner_c
  away_corners c u = rw (u.a, u.b, u.c)

  pub away_edges : (c : Option Contact) → Away k t → c ≡ offered_all k c (each (crossed k) (edges t))
  unfolding each edges offered_all
  away_edges c u =
      let e = edge_of 0 (corner_a t) (corner_b t) in
      let f = edge_of 1 (corner_b t) (corner_c t) in
      let g = edge_of 2 (corner_c t) (corner_a t) in
      let p = crossed_kept k e c (far_kept k c e u.ab) in
      let q = crossed_kept k f c (far_kept k c f u.bc) in
      let r = crossed_kept k g c (far_kept k c g u.ca) in
      both k c c c (crossed k e) (crossed k f ++ (crossed k g ++ [])) (sym p)
      (both k c c c (crossed k f) (crossed k g ++ []) (sym q) (both k c c c (crossed k g) [] (sym r) refl))

-- ---- the extreme points of a single point: the same place changes nothing
module _ (k : Capsule) (f : Place → List Point) where
  takes_on : (c : Option Contact) (x : Place) (xs : List Place) → offered_all k c (each f (x ∷ xs)) ≡ offered_all k (offered_all k c (f x)) (each f xs)
  unfolding each
  takes_on c x xs = offered_all_append k c (f x) (each f xs)

  goes_past : (c : Option Contact) (x : Place) (xs : List Place) → Held k c (f x) → offered_all k c (each f (x ∷ xs)) ≡ offered_all k c (each f xs)
  goes_past c x xs h = takes_on c x xs ∙ ap (λ d. offered_all k d (each f xs)) (held_same k c (f x) h)

  four_past : (c : Option Contact) (x : Place) → Held k c (f x) → offered_all k c (each f (x ∷ x ∷ x ∷ x ∷ [])) ≡ c
  unfolding each offered_all
  four_past c x h =
      goes_past c x (x ∷ x ∷ x ∷ []) h ∙ (goes_past c x (x ∷ x ∷ []) h ∙ (goes_past c x (x ∷ []) h ∙ goes_past c x [] h))

  -- p twice, q twice, p four times more; and without q
  steep_past : (c : Option Contact) (p q : Place) → offered_all k c (each f (p ∷ p ∷ q ∷ q ∷ p ∷ p ∷ p ∷ p ∷ [])) ≡ offered_all k c (each f (p ∷ q ∷ []))
  unfolding each offered_all
  steep_past c p q =
      let a = offered_all k c (f p) in
      let b = offered_all k a (f q) in
      let more = p ∷ p ∷ p ∷ p ∷ [] in
      takes_on c p (p ∷ q ∷ q ∷ more) ∙ (goes_past a p (q ∷ q ∷ more) (held_now k c (f p)) ∙ (takes_on a q (q ∷ more) ∙ (goes_past b q more (held_now k a (f q))
      ∙ (four_past b p (held_on k a (f p) (f q) (held_now k c (f p))) ∙ sym (takes_on c p (q ∷ []) ∙ takes_on a q [])))))

  level_past : (c : Option Contact) (p : Place) → offered_all k c (each f (p ∷ p ∷ p ∷ p ∷ p ∷ p ∷ [])) ≡ offered_all k c (each f (p ∷ []))
  unfolding each offered_all
  level_past c p =
      let a = offered_all k c (f p) in
      let h = held_now k c (f p) in
      takes_on c p (p ∷ p ∷ p ∷ p ∷ p ∷ []) ∙ (goes_past a p (p ∷ p ∷ p ∷ p ∷ []) h ∙ (four_past a p h ∙ sym (takes_on c p [])))

module _ (k : Capsule) (h : Rise) (u : Single k) where
  abbrev tangent : Place
  tangent = record { x = k.px ⊕ h.x; y = k.py ⊕ h.y }

  ends_one : ends k ≡ centre k ∷ centre k ∷ []
  unfolding ends
  ends_one = rw (← u.x, ← u.y)

  tangents_one : tangents k h ≡ tangent ∷ tangent ∷ []
  unfolding tangents
  tangents_one = rw (← u.x, ← u.y)

  flanks_one : flanks k ≡ centre k ∷ centre k ∷ centre k ∷ centre k ∷ []
  unfolding flanks flank
  flanks_one = rw (← u.x, ← u.y, ← u.right, ← u.left)

  pub single_places : (f : Place → List Point) (c r : Option Contact) → r ≡ offered_all k c (each f (firsts k h)) → r ≡ offered_all k c (each f (places k h))
  unfolding firsts places
  single_places f c r e =
      by_test (lt f0 h.g)
      (λ g. (rw g at e) ∙ (sym (steep_past k f c (centre k) tangent) ∙ (rw (g, ends_one, tangents_one, flanks_one))))
      (λ g. (rw g at e) ∙ (sym (level_past k f c (centre k)) ∙ (rw (g, ends_one, flanks_one))))

-- the places that are left, one after the other
module _ (k : Capsule) (h : Rise) (f : Place → List Point) (c m : Option Contact) (p : Place) (e : p ≡ centre k) (q : m ≡ offered_all k c (f p)) where
  centre_taken : m ≡ offered_all k c (f (centre k))
  centre_taken = q ∙ ap (λ x. offered_all k c (f x)) e

  pub first_alone : lt f0 h.g ≡ false → m ≡ offered_all k c (each f (firsts k h))
  unfolding firsts each offered_all
  first_alone g = rw g (centre_taken ∙ sym (takes_on k f c (centre k) []))

  pub first_two : (r : Option Contact) (t : Place) → lt f0 h.g ≡ true → t ≡ record { x = k.px ⊕ h.x; y = k.py ⊕ h.y } → r ≡ offered_all k m (f t)
      → r ≡ offered_all k c (each f (firsts k h))
  unfolding firsts each offered_all
  first_two r t g i j =
      rw g
      (j ∙ (ap (λ x. offered_all k m (f x)) i ∙ (ap (λ d. offered_all k d (f (record { x = k.px ⊕ h.x; y = k.py ⊕ h.y }))) centre_taken
      ∙ sym (takes_on k f c (centre k) (record { x = k.px ⊕ h.x; y = k.py ⊕ h.y } ∷ [])
      ∙ takes_on k f (offered_all k c (f (centre k))) (record { x = k.px ⊕ h.x; y = k.py ⊕ h.y }) []))))

-- ---- a way of no length
record Naught (x : Float) : Type 0 where
  count : count_of x ≡ 0
  bounded : infinite x ≡ false
  number : is_nan x ≡ false

none : (x : Float) → ne x f0 ≡ false → Naught x
unfolding ne eq of_bits count_of infinite is_nan
none nan h = absurd (no (sym h))
none (inf s) h = absurd (no (sym h))
none (fin s m e) h =
    let t = both_true (eqb (m * up e * 1) (0 * down e)) (beq s false || eqb (m * up e * 1) 0) (not-false _ h) in
    let z : m * up e ≡ 0 = omega (arith, eqb-true (m * up e * 1) (0 * down e) t.0, mul-one (m * up e), zero-mul (down e)) in
    record { count = rw (z, zero-mul (2 ^ 1074), zero-div (down e)); bounded = refl; number = refl }

zero_root : f0 ≡ hypot_of_count (0 * 0 + 0 * 0)
unfolding hypot_of_count even_root whole_root units size of_bits
zero_root = refl

pub no_length : (x y : Float) → ne x f0 ≡ false → ne y f0 ≡ false → f0 ≡ hypot_of x y
unfolding hypot_of
no_length x y p q =
    let a = none x p in
    let b = none y q in
    zero_root ∙ (rw (a.bounded, b.bounded, a.number, b.number, a.count, b.count))
