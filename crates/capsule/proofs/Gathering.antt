-- What a list of points makes of a contact, put together from what its parts make of it.
use Rattle.std.specs.Prelude.{Option}
use mathlib.Core.Bool.{Bool, true, false, cond}
use mathlib.Core.List.{List, [], ◌∷◌, ◌++◌}
use mathlib.Core.Path.{◌≡◌, refl, sym, ap, ◌∙◌}
use Prim.Native.Nat.{ℕ, suc, ◌+◌, ◌<◌, ◌≤◌}
use native.Mathlib.Numerals.{add-one}
use lib.Ieee.{Float, lt, le, neg}
use lib.ListN.{length, get_or, drop, drop_of_length-le}
use lib.Seq.{drop-cons}
use Rattle.numbers.specs.Reals.{◌⊕◌, ◌⊖◌, ◌⊗◌, ◌⊘◌, f0, f2, clamp_unit}
use Rattle.roots.specs.Root.{root_of}
use Rattle.plane.specs.declared.Triangle.{Triangle}
use Rattle.plane.specs.declared.Contact.{Contact}
use Rattle.capsule.specs.declared.Capsule.{Capsule}
use Rattle.capsule.specs.declared.Edge.{Edge}
use Rattle.capsule.specs.declared.Point.{Point}
use Rattle.capsule.specs.Region.{offer_of, offered_all}
use Rattle.capsule.specs.Candidates.{each, on_edge, point_on, reached, squared, solved, circled, ends, sided}
use Rattle.capsule.specs.Candidates.{sides, crossed, corners, edges, inner, candidates}

pub offered_all_append : (k : Capsule) (c : Option Contact) (xs ys : List Point) → offered_all k c (xs ++ ys) ≡ offered_all k (offered_all k c xs) ys
unfolding offered_all
offered_all_append k c [] ys = refl
offered_all_append k c (x ∷ xs) ys = offered_all_append k (offer_of k c x) xs ys

-- a test of what a call gave, from what the call ensures
pub le_called : (a b y : Float) (t : Bool) → a ≡ b → le a y ≡ t → le b y ≡ t
le_called a b y t p e = rw p at e

-- one list after the other
pub both : (k : Capsule) (r m c : Option Contact) (xs ys : List Point) →
    m ≡ offered_all k c xs → r ≡ offered_all k m ys → r ≡ offered_all k c (xs ++ ys)
both k r m c xs ys p q = q ∙ (ap (λ (s : Option Contact). offered_all k s ys) p ∙ sym (offered_all_append k c xs ys))

-- a list that counts if a test holds
pub on : (k : Capsule) (r c : Option Contact) (b : Bool) (xs : List Point) → b ≡ true → r ≡ offered_all k c xs → r ≡ offered_all k c (cond b xs [])
on k r c b xs e p = rw e p

pub off : (k : Capsule) (r c : Option Contact) (b : Bool) (xs : List Point) → b ≡ false → r ≡ c → r ≡ offered_all k c (cond b xs [])
unfolding offered_all
off k r c b xs e p = rw e p

-- the point at s along an edge
pub reaching : (k : Capsule) (r c : Option Contact) (e : Edge) (t s : Float) →
    on_edge t ≡ true → s ≡ clamp_unit t → r ≡ offer_of k c (point_on e s) → r ≡ offered_all k c (reached e t)
unfolding reached offered_all
reaching k r c e t s h q p = on k r c (on_edge t) (point_on e (clamp_unit t) ∷ []) h (p ∙ ap (λ u. offer_of k c (point_on e u)) q)

-- both roots of an equation, the root of whose discriminant is s
pub solving : (k : Capsule) (r m c : Option Contact) (e : Edge) (b s d : Float) →
    s ≡ root_of d →
    m ≡ offered_all k c (reached e ((neg b ⊖ s) ⊘ (f2 ⊗ squared e))) →
    r ≡ offered_all k m (reached e ((neg b ⊕ s) ⊘ (f2 ⊗ squared e))) →
    r ≡ offered_all k c (solved e b (root_of d))
unfolding solved
solving k r m c e b s d h p q =
    both k r m c (reached e ((neg b ⊖ s) ⊘ (f2 ⊗ squared e))) (reached e ((neg b ⊕ s) ⊘ (f2 ⊗ squared e))) p q ∙
    ap (λ u. offered_all k c (solved e b u)) h

-- the circles, then the sides
pub crossing : (k : Capsule) (r m c : Option Contact) (e : Edge) →
    lt f0 (squared e) ≡ true →
    m ≡ offered_all k c (each (circled k e) (ends k)) →
    r ≡ offered_all k m (cond (lt f0 k.len) (each (sided k e) sides) []) →
    r ≡ offered_all k c (crossed k e)
unfolding crossed
crossing k r m c e h p q =
    on k r c (lt f0 (squared e)) (each (circled k e) (ends k) ++ cond (lt f0 k.len) (each (sided k e) sides) []) h
    (both k r m c (each (circled k e) (ends k)) (cond (lt f0 k.len) (each (sided k e) sides) []) p q)

-- the corners, the edges, the inner points
pub whole : (k : Capsule) (t : Triangle) (r a b c : Option Contact) →
    a ≡ offered_all k c (corners t) →
    b ≡ offered_all k a (each (crossed k) (edges t)) →
    r ≡ offered_all k b (inner k t) →
    r ≡ offered_all k c (candidates k t)
unfolding candidates
whole k t r a b c p q s =
    both k r a c (corners t) (each (crossed k) (edges t) ++ inner k t) p
    (both k r b a (each (crossed k) (edges t)) (inner k t) q s)

-- A loop over a list: what is left of it, from here, gives what the whole gave from the start. One turn, of the entry x:
pub turn : {A : Type 0} (k : Capsule) (f : A → List Point) (xs : List A) (i : ℕ) (x : A) (c r v : Option Contact) →
    i < length xs →
    x ≡ get_or xs i x →
    r ≡ offered_all k c (f x) →
    offered_all k c (each f (drop i xs)) ≡ v →
    offered_all k r (each f (drop (i + 1) xs)) ≡ v
unfolding each
turn k f xs i x c r v h e p q =
    ap (λ n. offered_all k r (each f (drop n xs))) (add-one i) ∙
    (sym (offered_all_append k c (f x) (each f (drop (suc i) xs)) ∙ ap (λ s. offered_all k s (each f (drop (suc i) xs))) (sym p)) ∙
    (ap (λ y. offered_all k c (f y ++ each f (drop (suc i) xs))) e ∙
    (sym (ap (λ l. offered_all k c (each f l)) (drop-cons xs i x h)) ∙ q)))

-- and its end
pub ended : {A : Type 0} (k : Capsule) (f : A → List Point) (xs : List A) (i : ℕ) (c v : Option Contact) →
    length xs ≤ i → offered_all k c (each f (drop i xs)) ≡ v → c ≡ v
unfolding each offered_all
ended k f xs i c v h q = sym (ap (λ l. offered_all k c (each f l)) (drop_of_length-le xs h)) ∙ q
