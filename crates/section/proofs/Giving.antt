-- A search along an edge that is given up, or not begun: no place that it can still look at gives a tip above the larger end's, or a bound above the limit.
use Rattle.cutters.specs.Touch.{from_to}
use Rattle.std.specs.Prelude.{None, Option}
use mathlib.Core.Bool.{true, false}
use mathlib.Core.Logic.{⊎_elim}
use mathlib.Core.Path.{◌≡◌, refl, ap, sym, ◌∙◌, subst}
use Prim.Native.Nat.{ℕ, ◌≤◌}
use lib.Dec.{T}
use lib.Ieee.{Float, nan, inf, fin, binary64, add, lt, le, eq, fits, is_nan}
use Rattle.numbers.specs.Reals.{◌⊕◌, ◌⊖◌, ◌⊗◌, max_of}
use Rattle.golden.specs.Phi.{phi60}
use Rattle.rules.proofs.Branches.{no}
use Rattle.plane.specs.Contacts.{edge, at_height}
use Rattle.above.specs.Above.{offer_of}
use Rattle.golden.specs.declared.Golden.{Golden}
use Rattle.golden.specs.Search.{rises, golden_at, golden_max, bound_of, golden_max_bound}
use Rattle.cutters.specs.declared.Edge.{Edge}
use Rattle.cutters.specs.declared.Stretch.{Stretch}
use Rattle.caps.specs.Inside.{InnerOf, Alike}
use Rattle.caps.proofs.Places.{number_of}
use Rattle.caps.proofs.Narrow.{found_last, narrow_ends}
use Rattle.caps.proofs.Beside.{same_beside, bounds_beside, whole_beside}
use Rattle.section.specs.declared.Section.{Section}
use Rattle.section.specs.Section.{section_at, lipschitz_of, section_stretch}
use Rattle.section.specs.Inside.{Firm, cap_of, AsGood, Under, Begun}
use Rattle.section.proofs.Ends.{capped, ordered}

holds_le : (x y : Float) → le x y ≡ true → T (le x y)
holds_le x y e = rw e tt

summand : (x z b : Float) → le (x ⊕ z) b ≡ true → is_nan x ≡ false
unfolding add le lt eq is_nan
summand nan z b h = absurd (no h)
summand (inf s) z b h = refl
summand (fin s m e) z b h = refl

module _ (s : Section) (low x y : Float) (e : Edge) (flat lo hi m more limit : Float) (u : Begun s low x y e flat lo hi m) (n : ℕ) (g : Golden) (below : n ≤ 60)
    (here : g ≡ golden_at rises (section_at s x y e) lo hi n) where
  pub gives_up : InnerOf g × Under (cap_of s low x y e g.a g.b) m more limit → Alike limit (m ⊕ more) (golden_max (section_at s x y e) lo hi 60 ⊕ more)
  gives_up q =
      let i = q.0 in
      let f = section_at s x y e in
      let cap = cap_of s low x y e g.a g.b in
      ⊎_elim
      (λ h.
      let l = holds_le cap m h in
      let r = (number_of cap m l).0 in
      same_beside limit (m ⊕ more) (golden_max f lo hi 60 ⊕ more)
      (ap (λ v. v ⊕ more) (u.ends ∙ sym (narrow_ends f lo hi n 60 g below here i (ordered s low x y e g.a g.b u.firm i.fit_a i.fit_b r) cap
      (capped s low x y e g.a g.b u.firm i.fit_a i.fit_b r) (subst (λ (v : Float). T (le cap v)) u.ends l)))))
      (λ h.
      let r = summand cap more limit h in
      subst (λ (v : Float). Alike limit (v ⊕ more) (golden_max f lo hi 60 ⊕ more)) (sym u.ends)
      (bounds_beside f lo hi n 60 g below here i (ordered s low x y e g.a g.b u.firm i.fit_a i.fit_b r) cap
      (capped s low x y e g.a g.b u.firm i.fit_a i.fit_b r) limit more h))
      q.1

  pub finds : 60 ≤ n → (v r : Float) → v ≡ max_of m g.f1 → r ≡ max_of v g.f2 → Alike limit (r ⊕ more) (golden_max (section_at s x y e) lo hi 60 ⊕ more)
  finds d v r p q = same_beside limit (r ⊕ more) _ (ap (λ z. z ⊕ more) (found_last (section_at s x y e) lo hi n 60 g below d here m v r u.ends p q))

-- ---- the bound
abbrev missed : Float → Float → Float → Float
missed lo hi slope = slope ⊗ ((hi ⊖ lo) ⊗ phi60)

module _ (s : Section) (low x y : Float) (e : Edge) (lo hi limit slope : Float) (k : slope ≡ lipschitz_of s e) where
  pub bound_none : Firm s low → T (fits binary64 lo) → T (fits binary64 hi) → (cap : Float) → cap ≡ cap_of s low x y e lo hi
      → le (cap ⊕ missed lo hi slope) limit ≡ true → Alike limit (cap ⊕ missed lo hi slope) (golden_max_bound (section_at s x y e) lo hi (lipschitz_of s e))
  unfolding golden_max_bound bound_of
  bound_none f p q cap c h =
      let d = cap_of s low x y e lo hi in
      let more = missed lo hi slope in
      let h' : le (d ⊕ more) limit ≡ true = subst (λ (v : Float). le (v ⊕ more) limit ≡ true) c h in
      let r = summand d more limit h' in
      subst (λ (v : Float). Alike limit (cap ⊕ more) (golden_max (section_at s x y e) lo hi 60 ⊕ missed lo hi v)) k
      (subst (λ (v : Float). Alike limit (v ⊕ more) (golden_max (section_at s x y e) lo hi 60 ⊕ more)) (sym c)
      (whole_beside (section_at s x y e) lo hi (ordered s low x y e lo hi f p q r) d (capped s low x y e lo hi f p q r) limit more 60 h'))

  pub bound_found : (best r : Float) → Alike limit (best ⊕ missed lo hi slope) (golden_max (section_at s x y e) lo hi 60 ⊕ missed lo hi slope)
      → r ≡ bound_of best lo hi slope → Alike limit r (golden_max_bound (section_at s x y e) lo hi (lipschitz_of s e))
  unfolding golden_max_bound bound_of
  bound_found best r h q =
      subst (λ (v : Float). Alike limit v (golden_max (section_at s x y e) lo hi 60 ⊕ missed lo hi (lipschitz_of s e))) (sym q)
      (subst (λ (v : Float). Alike limit (best ⊕ missed lo hi slope) (golden_max (section_at s x y e) lo hi 60 ⊕ missed lo hi v)) k h)

-- ---- the stretch
module _ (s : Section) (x y : Float) (e : Edge) (part : Option Stretch) (limit : Float) where
  pub stretch_none : part ≡ None → AsGood limit None (section_stretch s x y e part)
  unfolding section_stretch
  stretch_none p = λ c q. ap (λ k. offer_of c (section_stretch s x y e k)) (sym p)

  pub stretch_some : (lo hi z : Float) → part ≡ from_to lo hi → Alike limit z (golden_max_bound (section_at s x y e) lo hi (lipschitz_of s e))
      → AsGood limit (at_height z (edge e.which)) (section_stretch s x y e part)
  unfolding section_stretch offer_of
  stretch_some lo hi z p h = λ c q. h c (edge e.which) q ∙ ap (λ k. offer_of c (section_stretch s x y e k)) (sym p)
