-- The contact of a triangle whose corners are low is not above `from`: no candidate of it is.
use Rattle.std.specs.Prelude.{None, Option, Some}
use mathlib.Core.Bool.{Bool, true, false, cond, ◌&&◌}
use mathlib.Core.List.{List, [], ◌∷◌, ◌++◌}
use mathlib.Core.Path.{◌≡◌, refl, sym, subst}
use lib.Dec.{T}
use lib.IntN.{pos}
use lib.Ieee.{Float, fin, lt, le, eq, ne, of_bits}
use Rattle.numbers.specs.Reals.{◌⊕◌, ◌⊖◌, ◌⊗◌, ◌⊘◌, f0, f1, f2, f4, tiny, minus_slack, minus_slack_is, past_one, clamp_unit, abs_of}
use Rattle.roots.specs.Root.{root_of}
use Rattle.rules.proofs.Branches.{either, both_true, by_test}
use Rattle.order.proofs.Ranges.{finite_between}
use Rattle.order.proofs.Extremes.{not_below_lem}
use Rattle.plane.specs.declared.Touch.{Touch}
use Rattle.plane.specs.declared.Triangle.{Triangle}
use Rattle.plane.specs.declared.Contact.{Contact}
use Rattle.plane.specs.Contacts.{exceeds_of, take_of, at_height}
use Rattle.plane.specs.Distance.{bary_of, at_least}
use Rattle.capsule.specs.declared.Capsule.{Capsule}
use Rattle.capsule.specs.declared.Place.{Place}
use Rattle.capsule.specs.declared.Point.{Point}
use Rattle.capsule.specs.declared.Edge.{Edge}
use Rattle.capsule.specs.Region.{in_capsule, offer_of, offered_all}
use Rattle.capsule.specs.Candidates.{each, corner_a, corner_b, corner_c, corners, edge_of, edges, on_edge, point_on, reached, squared, solved, circled, ends, sided}
use Rattle.capsule.specs.Candidates.{sides, crossed, places, determinant_of, rise_of, point_over, raised, plane_over, inner, candidates, highest_in}
use Rattle.tops.specs.Inside.{deepest, is_low, lies_low}
use Rattle.tops.proofs.Weights.{S, I}
use Rattle.tops.proofs.Tops.{deep, first, last, step, corner_under, edge_under, facet_under}

-- ---- a contact, a list of points that are not above a height
pub data Topped (f : Float) : Option Contact → Type 0 where
  none : Topped f None
  met : (z : Float) (t : Touch) → T (le z f) → Topped f (at_height z t)

data All (f : Float) : List Point → Type 0 where
  nil : All f []
  cons : (v : Point) (vs : List Point) → T (le v.z f) → All f vs → All f (v ∷ vs)

module _ (f : Float) where
  all_append : (xs ys : List Point) → All f xs → All f ys → All f (xs ++ ys)
  all_append [] ys a b = b
  all_append (x ∷ xs) ys (cons _ _ l a) b = cons x (xs ++ ys) l (all_append xs ys a b)

  all_each : {A : Type 0} (g : A → List Point) → ((x : A) → All f (g x)) → (xs : List A) → All f (each g xs)
  unfolding each
  all_each g h [] = nil
  all_each g h (x ∷ xs) = all_append (g x) (each g xs) (h x) (all_each g h xs)

  all_if : (b : Bool) (xs : List Point) → (b ≡ true → All f xs) → All f (cond b xs [])
  all_if b xs a = either (All f) b xs [] a (λ e. nil)

  -- what they make of a contact
  taken : (c : Option Contact) (z : Float) (t : Touch) → Topped f c → T (le z f) → Topped f (take_of c z t)
  unfolding take_of
  taken None z t a l = met z t l
  taken (Some m) z t a l = either (Topped f) (exceeds_of z m.height) (at_height z t) (at_height m.height m.touch) (λ e. met z t l) (λ e. a)

  offered : (k : Capsule) (vs : List Point) (c : Option Contact) → Topped f c → All f vs → Topped f (offered_all k c vs)
  unfolding offered_all offer_of
  offered k [] c a l = a
  offered k (v ∷ vs) c a (cons _ _ l m) =
      offered k vs (offer_of k c v)
      (either (Topped f) (in_capsule k v.x v.y) (take_of c v.z v.touch) c (λ e. taken c v.z v.touch a l) (λ e. a)) m

  -- ---- an edge of which no point from 0 to 1 is above it
  abbrev Under : Edge → Type 0
  Under e = (s : Float) → T (le (fin false 0 (pos 0)) s) → T (le s I) → T (le (e.z ⊕ s ⊗ e.dz) f)

  unit : (t : Float) → on_edge t ≡ true → T (le (fin false 0 (pos 0)) (clamp_unit t)) × T (le (clamp_unit t) I)
  unfolding on_edge clamp_unit of_bits
  unit t h =
      let p = both_true (le minus_slack t) (le t past_one) h in
      let f = finite_between minus_slack t past_one tt tt (subst T (sym p.0) tt) (subst T (sym p.1) tt) in
      by_test (lt t f0) (λ e. rw e (unfold le lt eq in tt, unfold le lt eq in tt))
      (λ e. by_test (lt f1 t) (λ g. rw (e, g) (unfold le lt eq in tt, unfold le lt eq in tt))
      (λ g. rw (e, g) (not_below_lem t f0 f tt e, not_below_lem f1 t tt f g)))

  module _ (k : Capsule) (e : Edge) (u : Under e) where
    reached_all : (t : Float) → All f (reached e t)
    unfolding reached point_on
    reached_all t = all_if (on_edge t) (point_on e (clamp_unit t) ∷ []) (λ o. let w = unit t o in cons _ [] (u (clamp_unit t) w.0 w.1) nil)

    solved_all : (b s : Float) → All f (solved e b s)
    unfolding solved
    solved_all b s = all_append _ _ (reached_all _) (reached_all _)

    circled_all : (c : Place) → All f (circled k e c)
    unfolding circled
    circled_all c =
        let fx = e.x ⊖ c.x in
        let fy = e.y ⊖ c.y in
        let bq = f2 ⊗ (fx ⊗ e.dx ⊕ fy ⊗ e.dy) in
        let cq = fx ⊗ fx ⊕ fy ⊗ fy ⊖ k.r ⊗ k.r in
        let disc = bq ⊗ bq ⊖ f4 ⊗ squared e ⊗ cq in
        all_if (le f0 disc) (solved e bq (root_of disc)) (λ o. solved_all bq (root_of disc))

    sided_all : (s : Float) → All f (sided k e s)
    unfolding sided
    sided_all s =
        let den = e.dx ⊗ k.nx ⊕ e.dy ⊗ k.ny in
        let off = s ⊗ k.r ⊖ ((e.x ⊖ k.px) ⊗ k.nx ⊕ (e.y ⊖ k.py) ⊗ k.ny) in
        all_if (ne den f0) (reached e (off ⊘ den)) (λ o. reached_all (off ⊘ den))

    crossed_all : All f (crossed k e)
    unfolding crossed
    crossed_all =
        all_if (lt f0 (squared e)) (each (circled k e) (ends k) ++ cond (lt f0 k.len) (each (sided k e) sides) [])
        (λ o. all_append _ _ (all_each (circled k e) circled_all (ends k)) (all_if (lt f0 k.len) _ (λ i. all_each (sided k e) sided_all sides)))

-- ---- a triangle whose corners are low
low_parts : (low z : Float) → is_low low z ≡ true → T (le deep z) × T (le z low)
unfolding is_low of_bits
low_parts low z h = let p = both_true (le deepest z) (le z low) h in (subst T (sym p.0) tt, subst T (sym p.1) tt)

f1_is : f1 ≡ I
unfolding of_bits
f1_is = refl

module _ (f : Float) (A : T (le first f)) (B : T (le f last)) (t : Triangle) (h : lies_low (f ⊖ step) t ≡ true) where
  parts : (is_low (f ⊖ step) t.az ≡ true) × (is_low (f ⊖ step) t.bz ≡ true) × (is_low (f ⊖ step) t.cz ≡ true)
  unfolding lies_low
  parts =
      let p = both_true (is_low (f ⊖ step) t.az) (is_low (f ⊖ step) t.bz && is_low (f ⊖ step) t.cz) h in
      let q = both_true (is_low (f ⊖ step) t.bz) (is_low (f ⊖ step) t.cz) p.1 in
      (p.0, q.0, q.1)

  a_low : T (le deep t.az) × T (le t.az (f ⊖ step))
  a_low = low_parts (f ⊖ step) t.az parts.0

  b_low : T (le deep t.bz) × T (le t.bz (f ⊖ step))
  b_low = low_parts (f ⊖ step) t.bz parts.1

  c_low : T (le deep t.cz) × T (le t.cz (f ⊖ step))
  c_low = low_parts (f ⊖ step) t.cz parts.2

  corners_all : All f (corners t)
  unfolding corners corner_a corner_b corner_c
  corners_all =
      cons _ _ (corner_under f A B t.az a_low.0 a_low.1)
      (cons _ _ (corner_under f A B t.bz b_low.0 b_low.1) (cons _ _ (corner_under f A B t.cz c_low.0 c_low.1) nil))

  edges_all : (k : Capsule) → All f (each (crossed k) (edges t))
  unfolding edges each edge_of corner_a corner_b corner_c
  edges_all k =
      all_append f _ _ (crossed_all f k _ (λ s l m. edge_under f A B t.az t.bz s a_low.0 a_low.1 b_low.0 b_low.1 l m))
      (all_append f _ _ (crossed_all f k _ (λ s l m. edge_under f A B t.bz t.cz s b_low.0 b_low.1 c_low.0 c_low.1 l m))
      (all_append f _ _ (crossed_all f k _ (λ s l m. edge_under f A B t.cz t.az s c_low.0 c_low.1 a_low.0 a_low.1 l m)) nil))

  weighed_all : (p : Place) (v w : Float) → All f (raised t p (Some (record { u = f1 ⊖ v ⊖ w; v = v; w = w })))
  unfolding raised point_over at_least
  weighed_all p v w =
      all_if f _ _
      (λ o.
      let x = both_true (le minus_slack (f1 ⊖ v ⊖ w)) (le minus_slack v && le minus_slack w) o in
      let y = both_true (le minus_slack v) (le minus_slack w) x.1 in
      let g : (z : Float) → le minus_slack z ≡ true → T (le S z) = λ z e. rw minus_slack_is at (subst T (sym e) tt) in
      cons _ [] (rw f1_is (facet_under f A B v w t.az t.bz t.cz (g v y.0) (g w y.1) (rw f1_is at (g (f1 ⊖ v ⊖ w) x.0)) a_low.0 a_low.1
      b_low.0 b_low.1 c_low.0 c_low.1)) nil)

  over_all : (p : Place) → All f (plane_over t p)
  unfolding plane_over bary_of
  over_all p =
      let bx = t.bx ⊖ t.ax in
      let by = t.by ⊖ t.ay in
      let cx = t.cx ⊖ t.ax in
      let cy = t.cy ⊖ t.ay in
      let dx = p.x ⊖ t.ax in
      let dy = p.y ⊖ t.ay in
      let det = bx ⊗ cy ⊖ cx ⊗ by in
      let l1 = (dx ⊗ cy ⊖ cx ⊗ dy) ⊘ det in
      let l2 = (bx ⊗ dy ⊖ dx ⊗ by) ⊘ det in
      either (λ s. All f (raised t p s)) (lt (abs_of det) tiny) None (Some (record { u = f1 ⊖ l1 ⊖ l2; v = l1; w = l2 })) (λ e. unfold raised in nil)
      (λ e. weighed_all p l1 l2)

  pub peak : (k : Capsule) → Topped f (highest_in k t)
  unfolding highest_in candidates inner
  peak k =
      offered f k (candidates k t) None none
      (all_append f _ _ corners_all (all_append f _ _ (edges_all k)
      (all_if f (lt tiny (abs_of (determinant_of t))) _ (λ o. all_each f (plane_over t) over_all (places k (rise_of t k.r))))))
