-- Which patterns of bits are finite numbers: those whose exponent's field is not all ones.
use mathlib.Core.Bool.{Bool, true, false, not, cond}
use mathlib.Core.Path.{◌≡◌, refl, ap, sym, subst, ◌∙◌}
use Prim.Native.Nat.{ℕ, zero, suc, ◌+◌, ◌/◌, ◌%◌, ◌^◌}
use lib.Dec.{T, eqb, leb}
use lib.Ieee.{Float, nan, inf, fin, Format, binary64, odd, of_fields, of_bits, is_nan, nan_bits, prec, low, hid, ones, top}
use lib.Ieee.Bits.{nan_bits_is}
use lib.Pow.{field}
use Rattle.fields.specs.Rows.{finite}

odd_finite : (d : ℕ) (s : Bool) (q k l : ℕ) → finite (odd d s q k l) ≡ true
unfolding finite odd
odd_finite d s zero k l = refl
odd_finite d s (suc q) k l = refl

picked : (b : Bool) (x y : Float) → finite x ≡ false → finite y ≡ true → finite (cond b x y) ≡ not b
picked true x y p q = p
picked false x y p q = q

endless : (b : Bool) (s : Bool) → finite (cond b (inf s) nan) ≡ false
unfolding finite
endless true s = refl
endless false s = refl

-- of any format in which the field of a subnormal is not all ones
module _ (f : Format) (some : eqb 0 (ones f) ≡ false) where
  fields_finite : (s : Bool) (x t : ℕ) → finite (of_fields f s x t) ≡ not (eqb x (ones f))
  unfolding of_fields
  fields_finite s zero t = odd_finite _ s t 0 _ ∙ sym (ap not some)
  fields_finite s (suc x) t = picked (eqb (suc x) (ones f)) _ _ (endless (eqb t 0) s) (odd_finite (prec f) s (hid f + t) x (low f))

  pub pattern_finite : (b : ℕ) → finite (of_bits f b) ≡ not (eqb (b % top f / hid f) (ones f))
  unfolding of_bits
  pattern_finite b = fields_finite (leb (top f) b) (b % top f / hid f) (b % hid f)

pub bits_finite : (b : ℕ) → finite (of_bits binary64 b) ≡ not (eqb (b / 2 ^ 52 % 2 ^ 11) 2047)
bits_finite b = pattern_finite binary64 refl b ∙ ap (λ (x : ℕ). not (eqb x 2047)) (field b 11 52)

pub finite_no_nan : (x : Float) → finite x ≡ true → T (not (is_nan x))
unfolding finite is_nan
finite_no_nan (inf s) e = tt
finite_no_nan (fin s m k) e = tt
finite_no_nan nan e = absurd (subst T (sym e) tt)

-- so the bits of a finite number are no NaN's
pub finite_bits : (f : Format) (b : ℕ) → finite (of_bits f b) ≡ true → T (not (nan_bits f b))
finite_bits f b e = rw (nan_bits_is f b) (finite_no_nan _ e)
