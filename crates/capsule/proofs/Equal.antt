-- Numbers of the same bits are the same.
use mathlib.Core.Bool.{true, not}
use mathlib.Core.Path.{◌≡◌, sym, ap, ◌∙◌, subst}
use lib.Dec.{T}
use lib.Ieee.{Float, nan, inf, fin, binary64, of_bits, to_bits, fits, is_nan, eq}
use lib.Ieee.Bits.{of_bits-to_bits}
use Rattle.capsule.specs.declared.Place.{Place}

pub by_bits : (x y : Float) → T (fits binary64 x) → T (fits binary64 y) → to_bits binary64 x ≡ to_bits binary64 y → x ≡ y
by_bits x y p q e = sym (of_bits-to_bits binary64 x p) ∙ ap (of_bits binary64) e ∙ of_bits-to_bits binary64 y q

-- none that compares equal is a NaN
pub equal_numbers : (x y : Float) → eq x y ≡ true → T (not (is_nan x)) × T (not (is_nan y))
unfolding eq is_nan
equal_numbers nan y e = absurd (subst T (sym e) tt)
equal_numbers (inf s) nan e = absurd (subst T (sym e) tt)
equal_numbers (inf s) (inf t) e = (tt, tt)
equal_numbers (inf s) (fin t n d) e = (tt, tt)
equal_numbers (fin s m c) nan e = absurd (subst T (sym e) tt)
equal_numbers (fin s m c) (inf t) e = (tt, tt)
equal_numbers (fin s m c) (fin t n d) e = (tt, tt)

-- places of the same numbers
pub place : (a b : Place) → a.x ≡ b.x → a.y ≡ b.y → a ≡ b
place a b p q = ap (λ u. record { x = u; y = a.y }) p ∙ ap (λ u. record { x = b.x; y = u }) q
