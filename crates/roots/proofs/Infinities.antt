-- hypot beside a NaN: whether the other is infinite.
use Rattle.std.proofs.Common.{◌≡◌, Bool, true, false, cond, ◌||◌, sym, refl, ap, ◌∙◌}
use lib.Ieee.{Float, nan, inf, fin, binary64, div, eq, of_bits}
use Rattle.numbers.specs.Reals.{abs_of}
use Rattle.roots.specs.Hypot.{infinite}

abbrev pub plus_infinity : Float
plus_infinity = div binary64 (of_bits binary64 0x3ff0_0000_0000_0000) (of_bits binary64 0)

pub infinity_is : plus_infinity ≡ inf false
unfolding div of_bits
infinity_is = refl

pub nan_is : div binary64 (of_bits binary64 0) (of_bits binary64 0) ≡ nan
unfolding div of_bits
nan_is = refl

-- the code's test of an infinite x
infinite_test : (x : Float) → infinite x ≡ eq (abs_of x) (inf false)
unfolding infinite eq abs_of
infinite_test nan = refl
infinite_test (inf s) = refl
infinite_test (fin s m e) = refl

pub infinite_called : (x a : Float) (t : Bool) → a ≡ abs_of x → eq a plus_infinity ≡ t → infinite x ≡ t
infinite_called x a t p e = infinite_test x ∙ ap (λ (z : Float). eq z (inf false)) (sym p) ∙ ap (eq a) (sym infinity_is) ∙ e

pub one_infinite : (a b : Bool) → a ≡ true → plus_infinity ≡ cond (a || b) (inf false) nan
one_infinite a b e = rw e infinity_is

pub other_infinite : (a b : Bool) → a ≡ false → b ≡ true → plus_infinity ≡ cond (a || b) (inf false) nan
other_infinite a b d e = rw d (rw e infinity_is)

pub none_infinite : (a b : Bool) → a ≡ false → b ≡ false → div binary64 (of_bits binary64 0) (of_bits binary64 0) ≡ cond (a || b) (inf false) nan
none_infinite a b d e = rw d (rw e nan_is)
