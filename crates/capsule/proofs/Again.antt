-- A point that was offered before changes nothing: what was found stays as high, and of equal heights the first is kept.
use Rattle.std.specs.Prelude.{Option}
use mathlib.Core.Bool.{true}
use mathlib.Core.List.{List, [], ◌∷◌, ◌++◌, Memᴰ}
use mathlib.Core.Logic.{◌⊎◌, inl, inr}
use mathlib.Core.Path.{◌≡◌, refl, sym, ap, ◌∙◌, subst}
use Prim.Native.Nat.{ℕ}
use lib.ListN.{length, take}
use Rattle.rules.proofs.Branches.{either}
use Rattle.plane.specs.declared.Contact.{Contact}
use Rattle.plane.specs.Contacts.{take_of}
use Rattle.capsule.specs.declared.Capsule.{Capsule}
use Rattle.capsule.specs.declared.Place.{Place}
use Rattle.capsule.specs.declared.Point.{Point}
use Rattle.capsule.specs.Region.{in_capsule, offer_of, offered_all}
use Rattle.capsule.specs.Candidates.{each, ends}
use Rattle.capsule.proofs.Gathering.{offered_all_append, both}
use Rattle.capsule.proofs.Equal.{place}
use Rattle.plane.proofs.Higher.{Settled, settles, stays, settled}

module _ (k : Capsule) where
  -- v, if it lies in the capsule, is no more than what was found
  abbrev pub Had : Option Contact → Point → Type 0
  Had c v = in_capsule k v.x v.y ≡ true → Settled c v.z

  had_now : (c : Option Contact) (v : Point) → Had (offer_of k c v) v
  unfolding offer_of
  had_now c v i = rw i (settles c v.z v.touch)

  had_on : (c : Option Contact) (v u : Point) → Had c v → Had (offer_of k c u) v
  unfolding offer_of
  had_on c v u h i = either (λ d. Settled d v.z) (in_capsule k u.x u.y) (take_of c u.z u.touch) c
      (λ _. stays c v.z u.z u.touch (h i)) (λ _. h i)

  had_same : (c : Option Contact) (v : Point) → Had c v → offer_of k c v ≡ c
  unfolding offer_of
  had_same c v h = either (λ d. d ≡ c) (in_capsule k v.x v.y) (take_of c v.z v.touch) c (λ i. settled c v.z v.touch (h i)) (λ _. refl)

  had_after : (c : Option Contact) (v : Point) (us : List Point) → Had c v → Had (offered_all k c us) v
  unfolding offered_all
  had_after c v [] h = h
  had_after c v (u ∷ us) h = had_after (offer_of k c u) v us (had_on c v u h)

  -- the same of all points of a list
  abbrev pub Held : Option Contact → List Point → Type 0
  Held c vs = (v : Point) → Memᴰ v vs → Had c v

  pub held_on : (c : Option Contact) (vs us : List Point) → Held c vs → Held (offered_all k c us) vs
  held_on c vs us h v m = had_after c v us (h v m)

  pub held_now : (c : Option Contact) (vs : List Point) → Held (offered_all k c vs) vs
  unfolding offered_all
  held_now c [] v x' = elim x' [ ]
  held_now c (u ∷ vs) v (Memᴰ.head e) = subst (Had (offered_all k (offer_of k c u) vs)) (sym e) (had_after (offer_of k c u) u vs (had_now c u))
  held_now c (u ∷ vs) v (Memᴰ.tail m) = held_now (offer_of k c u) vs v m

  pub held_same : (c : Option Contact) (vs : List Point) → Held c vs → offered_all k c vs ≡ c
  unfolding offered_all
  held_same c [] h = refl
  held_same c (v ∷ vs) h =
      ap (λ d. offered_all k d vs) (had_same c v (h v (Memᴰ.head refl))) ∙ held_same c vs (λ u m. h u (Memᴰ.tail m))

  -- a point that was offered changes nothing
  pub again : (c : Option Contact) (vs us : List Point) (v : Point) → Memᴰ v vs
      → offer_of k (offered_all k (offered_all k c vs) us) v ≡ offered_all k (offered_all k c vs) us
  again c vs us v m = had_same _ v (held_on (offered_all k c vs) vs us (held_now c vs) v m)

  -- nor does a list that was offered
  pub offered : (c d : Option Contact) (vs : List Point) → d ≡ offered_all k c vs → offered_all k d vs ≡ d
  offered c d vs e = subst (λ b. offered_all k b vs ≡ b) (sym e) (held_same _ vs (held_now c vs))

  -- the points of p and of q, and those of p alone where q is the same
  module _ {A : Type 0} (f : A → List Point) where
    two : (p q : A) (r m c : Option Contact) → m ≡ offered_all k c (f p) → r ≡ offered_all k m (f q) → r ≡ offered_all k c (each f (p ∷ q ∷ []))
    unfolding each offered_all
    two p q r m c h g = both k r m c (f p) (f q ++ []) h (both k r r m (f q) [] g refl)

    one : (p q : A) (r c : Option Contact) → p ≡ q → r ≡ offered_all k c (f p) → r ≡ offered_all k c (each f (p ∷ q ∷ []))
    one p q r c e h = two p q r r c h (sym (offered c r (f q) (subst (λ s. r ≡ offered_all k c (f s)) e h)))

-- the circles that are looked at: both, or one around one point
abbrev pub Circles : Capsule → ℕ → Type 0
Circles k n = (n ≡ 2) ⊎ ((n ≡ 1) × (k.px ≡ k.qx) × (k.py ≡ k.qy))

pub ends_taken : (k : Capsule) (n : ℕ) → Circles k n → length (take n (ends k)) ≡ n
unfolding ends
ends_taken k n (inl e) = rw e
ends_taken k n (inr e) = rw e.0

pub all_ends : (k : Capsule) (f : Place → List Point) (n : ℕ) (r c : Option Contact) →
    Circles k n → r ≡ offered_all k c (each f (take n (ends k))) → r ≡ offered_all k c (each f (ends k))
unfolding ends each offered_all
all_ends k f n r c (inl e) q = rw e at q
all_ends k f n r c (inr e) q = one k f p _ r c (place p (record { x = k.qx; y = k.qy }) e.1 e.2) ((rw e.0 at q) ∙ offered_all_append k c (f p) [])
  where
    p : Place
    p = record { x = k.px; y = k.py }
