-- A search given up beside a contact: where no value that it can still find is taken there, the larger end's value is as good as what it would have found.
use Rattle.std.specs.Prelude.{None, Option, Some}
use mathlib.Core.Bool.{true, false}
use mathlib.Core.Path.{◌≡◌, refl, ap, sym, ◌∙◌, subst}
use Prim.Native.Nat.{ℕ, ◌≤◌}
use lib.Dec.{T}
use lib.Ieee.{Float, nan, inf, fin, binary64, add, div, lt, le, eq, is_nan, of_bits}
use Rattle.numbers.specs.Reals.{◌⊕◌, max_of}
use Rattle.rules.proofs.Branches.{no, holds}
use Rattle.plane.specs.declared.Touch.{Touch}
use Rattle.plane.specs.declared.Contact.{Contact}
use Rattle.plane.specs.Contacts.{exceeds_of, take_of}
use Rattle.above.specs.Inside.{limit_of}
use Rattle.above.proofs.Above.{waits}
use Rattle.golden.specs.declared.Golden.{Golden}
use Rattle.golden.specs.Search.{rises, golden_at, golden_max}
use Rattle.order.proofs.Extremes.{either_of, not_above, le_not_nan}
use Rattle.order.proofs.Order.{le_trans, add_left}
use Rattle.caps.specs.Inside.{InnerOf, Alike}
use Rattle.caps.proofs.Bracket.{In}
use Rattle.caps.proofs.Inside.{largest_in}
use Rattle.caps.proofs.Boxes.{Ordered}
use Rattle.caps.proofs.Narrow.{narrow_ends, given_up_lem}

-- ---- what is not above b
nan_under : (b x : Float) → is_nan x ≡ true → lt b x ≡ false
unfolding is_nan lt
nan_under nan nan e = refl
nan_under (inf s) nan e = refl
nan_under (fin s m d) nan e = refl
nan_under b (inf s) e = absurd (no e)
nan_under b (fin s m d) e = absurd (no e)

least_under : (b : Float) → lt b (inf true) ≡ false
unfolding lt
least_under nan = refl
least_under (inf true) = refl
least_under (inf false) = refl
least_under (fin s m e) = refl

under_most : (b v : Float) → T (le (inf false) b) → lt b v ≡ false
unfolding le lt eq
under_most nan v h = absurd h
under_most (inf true) v h = absurd h
under_most (inf false) nan h = refl
under_most (inf false) (inf s) h = refl
under_most (inf false) (fin s m e) h = refl
under_most (fin s m e) v h = absurd h

-- with the same number added, whatever that is
sum_under : (x y z b : Float) → T (le x y) → T (le (y ⊕ z) b) → lt b (x ⊕ z) ≡ false
unfolding add is_nan
sum_under nan y z b h k = absurd (unfold le lt eq in h)
sum_under (inf true) y nan b h k = nan_under b nan refl
sum_under (inf true) y (inf true) b h k = least_under b
sum_under (inf true) y (inf false) b h k = nan_under b nan refl
sum_under (inf true) y (fin u l c) b h k = least_under b
sum_under (inf false) nan z b h k = absurd (unfold le lt eq in h)
sum_under (inf false) (inf true) z b h k = absurd (unfold le lt eq in h)
sum_under (inf false) (inf false) z b h k = not_above (inf false ⊕ z) b k
sum_under (inf false) (fin t n d) z b h k = absurd (unfold le lt eq in h)
sum_under (fin s m e) nan z b h k = absurd (unfold le lt eq in h)
sum_under (fin s m e) (inf true) z b h k = absurd (unfold le lt eq in h)
sum_under (fin s m e) (inf false) nan b h k = nan_under b nan refl
sum_under (fin s m e) (inf false) (inf true) b h k = least_under b
sum_under (fin s m e) (inf false) (inf false) b h k = not_above (inf false) b k
sum_under (fin s m e) (inf false) (fin u l c) b h k = under_most b (fin s m e ⊕ fin u l c) k
sum_under (fin s m e) (fin t n d) nan b h k = nan_under b nan refl
sum_under (fin s m e) (fin t n d) (inf u) b h k = not_above (inf u) b k
sum_under (fin s m e) (fin t n d) (fin u l c) b h k =
    not_above (fin s m e ⊕ fin u l c) b
    (le_trans (fin s m e ⊕ fin u l c) (fin t n d ⊕ fin u l c) b (add_left binary64 (fin s m e) (fin t n d) (fin u l c) tt tt tt h) k)

sum_nan : (x z : Float) → is_nan x ≡ true → is_nan (x ⊕ z) ≡ true
unfolding is_nan add
sum_nan nan z e = refl
sum_nan (inf s) z e = absurd (no e)
sum_nan (fin s m d) z e = absurd (no e)

none_le : (y : Float) → T (le y nan) → ⊥
unfolding le lt eq
none_le nan h = h
none_le (inf s) h = h
none_le (fin s m e) h = h

-- ---- and is not taken, beside a limit that a number is at most
not_taken : (c : Option Contact) (y w : Float) (t : Touch) → T (le y (limit_of c)) → lt (limit_of c) w ≡ false → take_of c w t ≡ c
unfolding limit_of
not_taken None y w t h e = absurd (none_le y (unfold of_bits div in h))
not_taken (Some m) y w t h e = waits m.height w m.touch t (unfold exceeds_of in rw (le_not_nan y m.height h, e))

-- the same height is as good
pub same_beside : (b r z : Float) → r ≡ z → Alike b r z
same_beside b r z e = λ c t q. ap (λ v. take_of c v t) e

-- ---- the search
module _ (f : Float → Float) (lo hi : Float) (n m : ℕ) (g : Golden) (below : n ≤ m) (here : g ≡ golden_at rises f lo hi n) (i : InnerOf g)
    (o : Ordered g.a g.b) (cap : Float) (under : (t : Float) → In g.a g.b t → T (le (f t) cap)) (b : Float) where
  abbrev end : Float
  end = max_of (f lo) (f hi)

  -- no value in the bracket is above the larger end's or the limit
  pub ends_beside : le cap (max_of end b) ≡ true → Alike b end (golden_max f lo hi m)
  ends_beside =
      either_of (λ v. le cap v ≡ true → Alike b end (golden_max f lo hi m)) end b
      (λ h c t q. ap (λ z. take_of c z t) (sym (narrow_ends f lo hi n m g below here i o cap under (holds _ h))))
      (λ h c t q.
      let l = subst (λ (v : Float). T (le cap v)) (sym q) (holds _ h) in
      given_up_lem f lo hi n m g below here i o cap under (λ z. take_of c z t) c
      (λ x k. not_taken c cap x t l (not_above x (limit_of c) (le_trans x cap (limit_of c) k l)))
      (λ x k. not_taken c cap x t l (nan_under (limit_of c) x k)))

  -- the same with a number added to what the search finds
  pub bounds_beside : (more : Float) → le (cap ⊕ more) b ≡ true → Alike b (end ⊕ more) (golden_max f lo hi m ⊕ more)
  bounds_beside more h c t q =
      let l = subst (λ (v : Float). T (le (cap ⊕ more) v)) (sym q) (holds _ h) in
      given_up_lem f lo hi n m g below here i o cap under (λ z. take_of c (z ⊕ more) t) c
      (λ x k. not_taken c (cap ⊕ more) (x ⊕ more) t l (sum_under x cap more (limit_of c) k l))
      (λ x k. not_taken c (cap ⊕ more) (x ⊕ more) t l (nan_under (limit_of c) (x ⊕ more) (sum_nan x more k)))

-- no value from lo to hi is above the limit with that number added, so that the search need not begin
pub whole_beside : (f : Float → Float) (lo hi : Float) → Ordered lo hi → (cap : Float) → ((t : Float) → In lo hi t → T (le (f t) cap))
    → (b more : Float) (m : ℕ) → le (cap ⊕ more) b ≡ true → Alike b (cap ⊕ more) (golden_max f lo hi m ⊕ more)
whole_beside f lo hi o cap under b more m h c t q =
    let l = subst (λ (v : Float). T (le (cap ⊕ more) v)) (sym q) (holds _ h) in
    not_taken c (cap ⊕ more) (cap ⊕ more) t l (not_above (cap ⊕ more) (limit_of c) l)
    ∙ sym (largest_in f lo hi o.low o.high o.order (λ z. take_of c (z ⊕ more) t ≡ c) m
    (λ x i. not_taken c (cap ⊕ more) (f x ⊕ more) t l (sum_under (f x) cap more (limit_of c) (under x i) l)))
