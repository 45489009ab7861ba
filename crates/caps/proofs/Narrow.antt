-- A search looks only at places in the bracket that it has come to.
-- So once no value there matters it may be given up: what it would have found adds nothing to the larger end's value.
use mathlib.Core.Bool.{Bool, true, false}
use mathlib.Core.Path.{◌≡◌, refl, ap, sym, ◌∙◌, subst}
use Prim.Native.Nat.{ℕ, zero, suc, ◌≤◌}
use native.Mathlib.Omega.{arith}
use borrow.Author.Tests.{ltb-true, ltb-false}
use lib.Dec.{T, ltb}
use lib.Ieee.{Float, binary64, lt, le, fits, is_nan}
use Rattle.numbers.specs.Reals.{max_of}
use Rattle.rules.proofs.Branches.{by_test, holds}
use Rattle.golden.specs.declared.Golden.{Golden}
use Rattle.golden.specs.Search.{rises, probe_of, narrowed_of, start_of, golden_start, golden_step, golden_at, best_of, golden_max}
use Rattle.order.proofs.Order.{O, le_trans}
use Rattle.order.proofs.Extremes.{lt_le}
use Rattle.bound.proofs.Unit.{I}
use Rattle.caps.specs.Inside.{InnerOf}
use Rattle.caps.proofs.Bracket.{In}
use Rattle.caps.proofs.Inside.{Stays, narrows, found_in, found_ends, low_in, high_in}
use Rattle.caps.proofs.Places.{not_less, number_of}
use Rattle.caps.proofs.Boxes.{Ordered}

module _ (f : Float → Float) (lo hi : Float) where
  -- the values are those at the inner points
  abbrev Valued : Golden → Type 0
  Valued g = (g.f1 ≡ f g.x1) × (g.f2 ≡ f g.x2)

  valued : (l : Bool) (g : Golden) → Valued g → Valued (narrowed_of l g (probe_of l g) (f (probe_of l g)))
  unfolding narrowed_of
  valued true g h = (h.1, refl)
  valued false g h = (refl, h.0)

  values : (n : ℕ) → Valued (golden_at rises f lo hi n)
  unfolding golden_at golden_step golden_start start_of
  values zero = (refl, refl)
  values (suc n) = valued (rises (golden_at rises f lo hi n)) (golden_at rises f lo hi n) (values n)

  -- a search that is not given up finds the largest, from the larger end's value
  pub found_last : (n m : ℕ) (g : Golden) → n ≤ m → m ≤ n → g ≡ golden_at rises f lo hi n → (e v r : Float) → e ≡ max_of (f lo) (f hi) → v ≡ max_of e g.f1
      → r ≡ max_of v g.f2 → r ≡ golden_max f lo hi m
  unfolding golden_max best_of
  found_last n m g below done here e v r p q s = let z : n ≡ m = omega arith in rw (s, q, p, here, z)

  -- a search that has come to stay from a to b stays there
  later : (a b : Float) (n k : ℕ) → n ≤ k → Stays f a b (golden_at rises f lo hi n) → Stays f a b (golden_at rises f lo hi k)
  unfolding golden_at golden_step
  later a b n zero h i = let e : n ≡ 0 = omega arith in subst (λ (z : ℕ). Stays f a b (golden_at rises f lo hi z)) e i
  later a b n (suc k) h i =
      by_test (ltb k n)
      (λ e. let l = ltb-true k n e in let q : n ≡ suc k = omega arith in subst (λ (z : ℕ). Stays f a b (golden_at rises f lo hi z)) q i)
      (λ e. narrows f a b (rises (golden_at rises f lo hi k)) (golden_at rises f lo hi k) (later a b n k (ltb-false k n e) i))

  module _ (n m : ℕ) (g : Golden) (below : n ≤ m) (here : g ≡ golden_at rises f lo hi n) (i : InnerOf g) (o : Ordered g.a g.b) where
    among : (t : Float) → T (fits binary64 t) → le g.a t ≡ true → le t g.b ≡ true → In g.a g.b t
    among t w p q =
        let l = holds _ p in
        let h = holds _ q in
        record { unit = record { low = le_trans O g.a t o.low.low l; high = le_trans t g.b I h o.high.high; fit = w }; low = l; high = h }

    narrow : Stays f g.a g.b g
    narrow =
        let v = subst Valued (sym here) (values n) in
        record {
          a = low_in f g.a g.b o.low o.high o.order;
          b = high_in f g.a g.b o.low o.high o.order;
          x1 = among g.x1 i.fit_x1 i.low_x1 i.high_x1;
          x2 = among g.x2 i.fit_x2 i.low_x2 i.high_x2;
          f1 = v.0;
          f2 = v.1;
        }

    still : Stays f g.a g.b (golden_at rises f lo hi m)
    still = later g.a g.b n m below (subst (Stays f g.a g.b) here narrow)

    -- what holds of the larger end's value and of every value in the bracket holds of the largest
    pub narrow_in : (P : Float → Type 0) → P (max_of (f lo) (f hi)) → ((t : Float) → In g.a g.b t → P (f t)) → P (golden_max f lo hi m)
    narrow_in P = found_in f lo hi m g.a g.b still P

    module _ (c : Float) (under : (t : Float) → In g.a g.b t → T (le (f t) c)) where
      -- no value in the bracket is above the larger end's
      pub narrow_ends : T (le c (max_of (f lo) (f hi))) → golden_max f lo hi m ≡ max_of (f lo) (f hi)
      narrow_ends = found_ends f lo hi m g.a g.b still c under

      -- F makes nothing of a value up to c, nor of a NaN
      pub given_up_lem : {A : Type 0} (F : Float → A) (d : A) → ((x : Float) → T (le x c) → F x ≡ d) → ((x : Float) → is_nan x ≡ true → F x ≡ d)
          → F (max_of (f lo) (f hi)) ≡ F (golden_max f lo hi m)
      given_up_lem F d low none =
          let e = max_of (f lo) (f hi) in
          by_test (lt c e)
          (λ l. ap F (sym (narrow_ends (lt_le c e l))))
          (λ l. let k = by_test (is_nan e) (none e) (λ r. low e (not_less c e (number_of _ _ (under g.x1 narrow.x1)).1 r l)) in k
          ∙ sym (narrow_in (λ x. F x ≡ d) k (λ t j. low (f t) (under t j))))
