-- A search on lo..hi looks at the objective at numbers from lo to hi alone, so what holds of each value there holds of the largest that it finds.
use mathlib.Core.Bool.{Bool, true, false}
use mathlib.Core.Path.{◌≡◌, refl, ap, sym, ◌∙◌, subst}
use Prim.Native.Nat.{ℕ, zero, suc}
use lib.Dec.{T}
use lib.Ieee.{Float, le}
use Rattle.numbers.specs.Reals.{max_of}
use Rattle.golden.specs.declared.Golden.{Golden}
use Rattle.golden.specs.Search.{rises, probe_of, narrowed_of, start_of, golden_start, golden_step, golden_at, best_of, golden_max}
use Rattle.order.proofs.Extremes.{either_of, le_self, not_above, max_stays, le_not_nan}
use Rattle.order.proofs.Order.{le_trans}
use Rattle.bound.proofs.Unit.{Unit, unit_finite}
use Rattle.caps.proofs.Bracket.{In, upper_in, lower_in}

-- where a search stands: all places that it has still to do with lie from lo to hi
pub record Stays (f : Float → Float) (lo hi : Float) (g : Golden) : Type 0 where
  pub a : In lo hi g.a
  pub b : In lo hi g.b
  pub x1 : In lo hi g.x1
  pub x2 : In lo hi g.x2
  pub f1 : g.f1 ≡ f g.x1
  pub f2 : g.f2 ≡ f g.x2

pub narrows : (f : Float → Float) (lo hi : Float) (l : Bool) (g : Golden) → Stays f lo hi g → Stays f lo hi (narrowed_of l g (probe_of l g) (f (probe_of l g)))
unfolding narrowed_of probe_of
narrows f lo hi true g h = record { a = h.x1; b = h.b; x1 = h.x2; x2 = upper_in lo hi g.x1 g.b h.x1 h.b; f1 = h.f2; f2 = refl }
narrows f lo hi false g h = record { a = h.a; b = h.x2; x1 = lower_in lo hi g.a g.x2 h.a h.x2; x2 = h.x1; f1 = refl; f2 = h.f1 }

-- what a search on lo..hi finds that has come to stay from a to b
module _ (f : Float → Float) (lo hi : Float) (n : ℕ) (a b : Float) (h : Stays f a b (golden_at rises f lo hi n)) where
  -- what holds of the larger end's value and of every value from a to b holds of the largest
  pub found_in : (P : Float → Type 0) → P (max_of (f lo) (f hi)) → ((t : Float) → In a b t → P (f t)) → P (golden_max f lo hi n)
  unfolding golden_max best_of
  found_in P m k =
      let g = golden_at rises f lo hi n in
      either_of P (max_of (max_of (f lo) (f hi)) g.f1) g.f2
      (either_of P (max_of (f lo) (f hi)) g.f1 m (subst P (sym h.f1) (k g.x1 h.x1)))
      (subst P (sym h.f2) (k g.x2 h.x2))

  -- where no value from a to b is above the larger end's, that is the largest
  pub found_ends : (c : Float) → ((t : Float) → In a b t → T (le (f t) c)) → T (le c (max_of (f lo) (f hi))) → golden_max f lo hi n ≡ max_of (f lo) (f hi)
  unfolding golden_max best_of
  found_ends c k e =
      let g = golden_at rises f lo hi n in
      let m = max_of (f lo) (f hi) in
      let one : max_of m g.f1 ≡ m = stays m g.f1 e (subst (λ w. T (le w c)) (sym h.f1) (k g.x1 h.x1)) in
      let two : max_of m g.f2 ≡ m = stays m g.f2 e (subst (λ w. T (le w c)) (sym h.f2) (k g.x2 h.x2)) in
      ap (λ w. max_of w g.f2) one ∙ two
    where
      stays : (m w : Float) → T (le c m) → T (le w c) → max_of m w ≡ m
      stays m w e l = max_stays m w (le_not_nan c m e) (not_above w m (le_trans w c m l e))

module _ (f : Float → Float) (lo hi : Float) (u : Unit lo) (v : Unit hi) (o : T (le lo hi)) where
  pub low_in : In lo hi lo
  low_in = record { unit = u; low = le_self lo (unit_finite lo u); high = o }

  pub high_in : In lo hi hi
  high_in = record { unit = v; low = o; high = le_self hi (unit_finite hi v) }

  starts : Stays f lo hi (golden_start f lo hi)
  unfolding golden_start start_of
  starts = record { a = low_in; b = high_in; x1 = lower_in lo hi lo hi low_in high_in; x2 = upper_in lo hi lo hi low_in high_in; f1 = refl; f2 = refl }

  goes : (left : Golden → Bool) (n : ℕ) → Stays f lo hi (golden_at left f lo hi n)
  unfolding golden_at golden_step
  goes left zero = starts
  goes left (suc n) = narrows f lo hi (left (golden_at left f lo hi n)) (golden_at left f lo hi n) (goes left n)

  -- where no value there is above the larger end's, that is the largest
  pub ends_largest : (n : ℕ) (c : Float) → ((t : Float) → In lo hi t → T (le (f t) c)) → T (le c (max_of (f lo) (f hi)))
      → golden_max f lo hi n ≡ max_of (f lo) (f hi)
  ends_largest n c k e = found_ends f lo hi n lo hi (goes rises n) c k e

  -- and what holds of every value there holds of the largest
  pub largest_in : (P : Float → Type 0) (n : ℕ) → ((t : Float) → In lo hi t → P (f t)) → P (golden_max f lo hi n)
  largest_in P n k = found_in f lo hi n lo hi (goes rises n) P (either_of P (f lo) (f hi) (k lo low_in) (k hi high_in)) k
