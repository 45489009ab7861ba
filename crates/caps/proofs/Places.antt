-- Where a search looks: a stretch of an edge is none, or lies from 0 to 1.
use Rattle.std.specs.Prelude.{None, Option}
use mathlib.Core.Bool.{true, false, cond}
use mathlib.Core.Path.{◌≡◌, refl, sym}
use lib.Dec.{T}
use lib.Ieee.{Float, nan, inf, fin, binary64, neg, lt, le, eq, fits, is_nan, of_bits}
use lib.Ieee.Fits.{div-fits}
use Rattle.numbers.specs.Reals.{◌⊕◌, ◌⊖◌, ◌⊗◌, ◌⊘◌, f0, f1, f2, max_of, min_of, f0_is, f1_is}
use Rattle.rules.proofs.Branches.{either, no}
use Rattle.cutters.specs.declared.Edge.{Edge}
use Rattle.cutters.specs.declared.Stretch.{Stretch}
use Rattle.cutters.specs.Touch.{length2, crossed_of, reached_of, from_to}
use Rattle.order.proofs.Extremes.{either_of, not_below_lem}
use Rattle.order.proofs.Order.{O, le_trans}
use Rattle.bound.proofs.Unit.{I, Unit}

-- ---- what is not below another, of two numbers
pub not_less : (x y : Float) → is_nan x ≡ false → is_nan y ≡ false → lt x y ≡ false → T (le y x)
unfolding is_nan le lt eq
not_less nan y p q h = absurd (no (sym p))
not_less (inf true) nan p q h = absurd (no (sym q))
not_less (inf true) (inf true) p q h = tt
not_less (inf true) (inf false) p q h = absurd (no (sym h))
not_less (inf true) (fin t n d) p q h = absurd (no (sym h))
not_less (inf false) nan p q h = absurd (no (sym q))
not_less (inf false) (inf true) p q h = tt
not_less (inf false) (inf false) p q h = tt
not_less (inf false) (fin t n d) p q h = tt
not_less (fin s m e) nan p q h = absurd (no (sym q))
not_less (fin s m e) (inf true) p q h = tt
not_less (fin s m e) (inf false) p q h = absurd (no (sym h))
not_less (fin s m e) (fin t n d) p q h = not_below_lem (fin s m e) (fin t n d) tt tt h

pub number_of : (x y : Float) → T (le x y) → (is_nan x ≡ false) × (is_nan y ≡ false)
unfolding is_nan le lt eq
number_of nan y h = absurd h
number_of (inf s) nan h = absurd h
number_of (inf s) (inf t) h = (refl, refl)
number_of (inf s) (fin t n d) h = (refl, refl)
number_of (fin s m e) nan h = absurd h
number_of (fin s m e) (inf t) h = (refl, refl)
number_of (fin s m e) (fin t n d) h = (refl, refl)

-- ---- the ends of a stretch
max_zero : (p : Float) → T (le O (max_of p f0))
unfolding max_of
max_zero p =
    either (λ v. T (le O v)) (is_nan p) f0 (cond (lt p f0) f0 p) (λ e. unfold of_bits le lt eq in tt)
    (λ e. either (λ v. T (le O v)) (lt p f0) f0 p (λ l. unfold of_bits le lt eq in tt) (λ l. rw f0_is at (not_less p f0 e (unfold of_bits is_nan in refl) l)))

min_one : (p : Float) → T (le (min_of p f1) I)
unfolding min_of
min_one p =
    either (λ v. T (le v I)) (is_nan p) f1 (cond (lt f1 p) f1 p) (λ e. unfold of_bits le lt eq in tt)
    (λ e. either (λ v. T (le v I)) (lt f1 p) f1 p (λ l. unfold of_bits le lt eq in tt) (λ l. rw f1_is at (not_less f1 p (unfold of_bits is_nan in refl) e l)))

max_fits : (p : Float) → T (fits binary64 p) → T (fits binary64 (max_of p f0))
max_fits p f = either_of (λ v. T (fits binary64 v)) p f0 f (unfold of_bits fits in tt)

min_fits : (p : Float) → T (fits binary64 p) → T (fits binary64 (min_of p f1))
unfolding min_of
min_fits p f =
    either (λ v. T (fits binary64 v)) (is_nan p) f1 (cond (lt f1 p) f1 p) (λ e. unfold of_bits fits in tt)
    (λ e. either (λ v. T (fits binary64 v)) (lt f1 p) f1 p (λ l. unfold of_bits fits in tt) (λ l. f))

module _ (p q : Float) (f : T (fits binary64 p)) (g : T (fits binary64 q)) (h : lt (min_of q f1) (max_of p f0) ≡ false) where
  in_order : T (le (max_of p f0) (min_of q f1))
  in_order = not_less (min_of q f1) (max_of p f0) (number_of _ _ (min_one q)).0 (number_of _ _ (max_zero p)).1 h

  low_unit : Unit (max_of p f0)
  low_unit = record { low = max_zero p; high = le_trans (max_of p f0) (min_of q f1) I in_order (min_one q); fit = max_fits p f }

  high_unit : Unit (min_of q f1)
  high_unit = record { low = le_trans O (max_of p f0) (min_of q f1) (max_zero p) in_order; high = min_one q; fit = min_fits q g }

module _ (P : Option Stretch → Type 0) (none : P None) (some : (lo hi : Float) → Unit lo → Unit hi → T (le lo hi) → P (from_to lo hi)) where
  crossed_all : (qa qb root : Float) → P (crossed_of qa qb root)
  unfolding crossed_of
  crossed_all qa qb root =
      let p = (neg qb ⊖ root) ⊘ (f2 ⊗ qa) in
      let q = (neg qb ⊕ root) ⊘ (f2 ⊗ qa) in
      let f = div-fits binary64 (neg qb ⊖ root) (f2 ⊗ qa) in
      let g = div-fits binary64 (neg qb ⊕ root) (f2 ⊗ qa) in
      either P (lt (min_of q f1) (max_of p f0)) None (from_to (max_of p f0) (min_of q f1)) (λ e. none)
      (λ e. some (max_of p f0) (min_of q f1) (low_unit p q f g e) (high_unit p q f g e) (in_order p q f g e))

  -- a stretch is none, or lies from 0 to 1
  pub reached_all : (e : Edge) (x y r : Float) → P (reached_of e x y r)
  unfolding reached_of
  reached_all e x y r =
      either P (le (length2 e) f0) None _ (λ k. none)
      (λ k. either P (lt _ f0) None (crossed_of _ _ _) (λ l. none) (λ l. crossed_all _ _ _))
