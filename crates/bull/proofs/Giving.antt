-- A search along an edge that is given up: no place in the bracket that it has come to gives a tip above the larger end's or the limit.
use mathlib.Core.Bool.{true}
use mathlib.Core.Path.{◌≡◌, refl, ap, sym, ◌∙◌, subst}
use Prim.Native.Nat.{ℕ, ◌≤◌}
use lib.Dec.{T}
use lib.Ieee.{Float, le}
use Rattle.numbers.specs.Reals.{max_of}
use Rattle.golden.specs.declared.Golden.{Golden}
use Rattle.golden.specs.Search.{rises, golden_at, golden_max}
use Rattle.cutters.specs.declared.Edge.{Edge}
use Rattle.caps.specs.Inside.{InnerOf, Alike}
use Rattle.caps.proofs.Narrow.{found_last}
use Rattle.caps.proofs.Beside.{same_beside, ends_beside}
use Rattle.bull.specs.declared.Bull.{Bull}
use Rattle.bull.specs.declared.Way.{Way}
use Rattle.bull.specs.Inside.{base_of, cap_of, way_at, Begun}
use Rattle.bull.proofs.Capping.{ordered, capped}
use Rattle.bull.proofs.Taking.{way_at_lem}

module _ (k : Bull) (base : Float) (e : Edge) (w : Way) (flat lo hi m limit : Float) (s : Begun k base e w flat lo hi m) (n : ℕ) (g : Golden) (below : n ≤ 40)
    (here : g ≡ golden_at rises (way_at k w) lo hi n) where
  pub gives_up : (bar : Float) → bar ≡ max_of m limit → InnerOf g × (le (cap_of k base e g.a g.b) bar ≡ true)
      → Alike limit m (golden_max (way_at k w) lo hi 40)
  gives_up bar p q =
      let i = q.0 in
      let cap = cap_of k (base_of k) e g.a g.b in
      let h : le cap bar ≡ true = subst (λ (v : Float). le (cap_of k v e g.a g.b) bar ≡ true) s.base_is q.1 in
      subst (λ (v : Float). Alike limit v (golden_max (way_at k w) lo hi 40)) (sym s.ends)
      (ends_beside (way_at k w) lo hi n 40 g below here i (ordered k e g.a g.b bar i.fit_a i.fit_b h) cap
      (λ t j. subst (λ (v : Float). T (le v cap)) (sym (way_at_lem k e w t (way_at k w t) s.way_is refl))
      (capped k e g.a g.b bar i.fit_a i.fit_b h t j))
      limit (subst (λ (v : Float). le cap v ≡ true) (p ∙ ap (λ (v : Float). max_of v limit) s.ends) h))

  pub finds : 40 ≤ n → (v r : Float) → v ≡ max_of m g.f1 → r ≡ max_of v g.f2 → Alike limit r (golden_max (way_at k w) lo hi 40)
  finds d v r p q = same_beside limit r _ (found_last (way_at k w) lo hi n 40 g below d here m v r s.ends p q)
