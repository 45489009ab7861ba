-- A search on a bracket within 0..1 looks at the objective at numbers from 0 to 1 alone. So what no value there exceeds its maximum does not exceed either, and
-- the place of its least value lies from 0 to 1 too.
use mathlib.Core.Bool.{Bool, true, false}
use mathlib.Core.Path.{◌≡◌, refl, ap, ◌∙◌}
use Prim.Native.Nat.{ℕ, zero, suc}
use lib.Dec.{T}
use lib.Ieee.{Float, binary64, sum, round, add, div, lt, le, eq, of_bits}
use lib.Ieee.Fits.{div-fits}
use lib.Ieee.Scale.{finite}
use Rattle.numbers.specs.Reals.{◌⊕◌, ◌⊘◌, f2, max_of}
use Rattle.golden.specs.declared.Golden.{Golden}
use Rattle.golden.specs.Search.{rises, falls, probe_of, narrowed_of, start_of, golden_start, golden_step, golden_at, best_of, golden_max, golden_argmin}
use Rattle.order.proofs.Ranges.{finite_between, div_up}
use Rattle.order.proofs.Extremes.{either_of}
use Rattle.order.proofs.Order.{O, le_trans, add_left, add_right}
use Rattle.bound.proofs.Unit.{I, Unit, unit_finite, upper_stays, lower_stays}
use Rattle.bound.proofs.Small.{sum_nonneg}

pub record Held (f : Float → Float) (g : Golden) : Type 0 where
  pub a : Unit g.a
  pub b : Unit g.b
  pub x1 : Unit g.x1
  pub x2 : Unit g.x2
  pub f1 : g.f1 ≡ f g.x1
  pub f2 : g.f2 ≡ f g.x2

-- the middle of two numbers from 0 to 1
middle : (a b : Float) → Unit a → Unit b → Unit ((a ⊕ b) ⊘ f2)
unfolding of_bits
middle a b u v =
    let p = unit_finite a u in
    let q = unit_finite b v in
    let l = sum_nonneg a b p q u.low v.low in
    let h = le_trans (a ⊕ b) (I ⊕ b) (I ⊕ I) (add_left binary64 a I b p tt q u.high) (add_right binary64 b I I q tt tt v.high) in
    let two : T (finite (I ⊕ I)) = unfold add sum round in tt in
    let f = finite_between O (a ⊕ b) (I ⊕ I) tt two l h in
    record {
      low = le_trans O (O ⊘ f2) ((a ⊕ b) ⊘ f2) (unfold div round le lt eq in tt) (div_up binary64 O (a ⊕ b) f2 tt f tt l);
      high = le_trans ((a ⊕ b) ⊘ f2) ((I ⊕ I) ⊘ f2) I (div_up binary64 (a ⊕ b) (I ⊕ I) f2 f two tt h) (unfold add sum div round le lt eq in tt);
      fit = div-fits binary64 (a ⊕ b) f2;
    }

module _ (f : Float → Float) where
  starts : (lo hi : Float) → Unit lo → Unit hi → Held f (golden_start f lo hi)
  unfolding golden_start start_of
  starts lo hi u v = record { a = u; b = v; x1 = lower_stays lo hi u v; x2 = upper_stays lo hi u v; f1 = refl; f2 = refl }

  narrows : (l : Bool) (g : Golden) → Held f g → Held f (narrowed_of l g (probe_of l g) (f (probe_of l g)))
  unfolding narrowed_of probe_of
  narrows true g h = record { a = h.x1; b = h.b; x1 = h.x2; x2 = upper_stays g.x1 g.b h.x1 h.b; f1 = h.f2; f2 = refl }
  narrows false g h = record { a = h.a; b = h.x2; x1 = lower_stays g.a g.x2 h.a h.x2; x2 = h.x1; f1 = refl; f2 = h.f1 }

  goes : (left : Golden → Bool) (lo hi : Float) (n : ℕ) → Unit lo → Unit hi → Held f (golden_at left f lo hi n)
  unfolding golden_at golden_step
  goes left lo hi zero u v = starts lo hi u v
  goes left lo hi (suc n) u v = narrows (left (golden_at left f lo hi n)) (golden_at left f lo hi n) (goes left lo hi n u v)

  pub max_under : (b lo hi : Float) (n : ℕ) → Unit lo → Unit hi → ((t : Float) → Unit t → lt b (f t) ≡ false) → lt b (golden_max f lo hi n) ≡ false
  unfolding golden_max best_of
  max_under b lo hi n u v k =
      let g = golden_at rises f lo hi n in
      let h = goes rises lo hi n u v in
      either_of (λ z. lt b z ≡ false) (max_of (max_of (f lo) (f hi)) g.f1) g.f2
      (either_of (λ z. lt b z ≡ false) (max_of (f lo) (f hi)) g.f1
      (either_of (λ z. lt b z ≡ false) (f lo) (f hi) (k lo u) (k hi v))
      (ap (lt b) h.f1 ∙ k g.x1 h.x1))
      (ap (lt b) h.f2 ∙ k g.x2 h.x2)

  pub argmin_held : (lo hi : Float) (n : ℕ) → Unit lo → Unit hi → Unit (golden_argmin f lo hi n)
  unfolding golden_argmin
  argmin_held lo hi n u v = let h = goes falls lo hi n u v in middle _ _ h.a h.b
