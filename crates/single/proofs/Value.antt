-- The bits of an f32: when they are finite, which number they are, and where a cast to f64 loses nothing.
use mathlib.Core.Bool.{Bool, true, false, not, cond, ◌&&◌}
use mathlib.Core.Path.{◌≡◌, refl, ap, sym, subst, ◌∙◌}
use Prim.Native.Nat.{ℕ, zero, suc, ◌+◌, ◌-◌, ◌*◌, ◌/◌, ◌%◌, ◌^◌}
use native.Mathlib.Omega.{arith}
use lib.Dec.{T, eqb, eqb-suc-zero}
use lib.Ieee.{Float, nan, inf, binary32, binary64, of_fields, of_bits, is_nan, fits}
use lib.Ieee.Bits.{nan_bits_is, of_bits-fits}
use lib.Ieee.Exact.{HasValue, odd_sign}
use lib.Ieee.Fits.{and_i, fits_widens}
use lib.Pow.{field}
use Rattle.fields.specs.Rows.{finite}
use Rattle.fields.proofs.Finite.{pattern_finite, finite_bits}
use Rattle.single.specs.Single.{negative, exponent, digits, whole, IsNumberOf, value_of}

pub bits_finite : (b : ℕ) → finite (value_of b) ≡ not (eqb (b / 2 ^ 23 % 2 ^ 8) 255)
unfolding value_of
bits_finite b = pattern_finite binary32 refl b ∙ ap (λ (x : ℕ). not (eqb x 255)) (field b 8 23)

-- ---- which number

Told : Bool → ℕ → ℕ → Float → Type 0
Told s x t y = HasValue y s (cond (eqb x 0) t (2 ^ 23 + t) * 2 ^ (x - 1)) (2 ^ 149)

chosen : (b z s : Bool) (x t : ℕ) (v : Float) → Told s (suc x) t v → finite (cond b (cond z (inf s) nan) v) ≡ true
    → Told s (suc x) t (cond b (cond z (inf s) nan) v)
unfolding finite
chosen false z s x t v q e = q
chosen true true s x t v q e = absurd (subst T (sym e) tt)
chosen true false s x t v q e = absurd (subst T (sym e) tt)

-- behind exponent 0 the digits have a leading one
led : (x t : ℕ) → (2 ^ 23 + t) * 2 ^ x ≡ cond (eqb (suc x) 0) t (2 ^ 23 + t) * 2 ^ (suc x - 1)
led x t = let e : suc x - 1 ≡ x = omega arith in rw (e, eqb-suc-zero x)

fields_number : (s : Bool) (x t : ℕ) → finite (of_fields binary32 s x t) ≡ true → Told s x t (of_fields binary32 s x t)
unfolding of_fields Told
fields_number s zero t e = odd_sign 24 s t 0 149
fields_number s (suc x) t e = chosen (eqb (suc x) 255) (eqb t 0) s x t _ (rw (← led x t) (odd_sign 24 s (2 ^ 23 + t) x 149)) e

pub number : (b : ℕ) (x : Float) → x ≡ value_of b → finite (value_of b) ≡ true → IsNumberOf b x
unfolding value_of of_bits whole Told
number b x p e = subst (λ (y : Float). IsNumberOf b y) (sym p) (fields_number (negative b) (exponent b) (digits b) e)

-- ---- an f64 holds it as it is
pub kept : (b : ℕ) → finite (value_of b) ≡ true → T (fits binary64 (of_bits binary32 b) && not (is_nan (of_bits binary32 b)))
unfolding value_of
kept b e =
    and_i (fits binary64 (of_bits binary32 b)) (not (is_nan (of_bits binary32 b)))
    (fits_widens _ (of_bits-fits binary32 b))
    (rw (← nan_bits_is binary32 b) (finite_bits binary32 b e))
