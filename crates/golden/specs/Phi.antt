-- Document 01, "Numbers": phi is (root 5 - 1)/2; phi to the 60th is 59 multiplications, left to right.
use Rattle.std.specs.Prelude.{ℕ, zero, suc, Float}
use Rattle.std.specs.Float.{binary64}
use Rattle.std.specs.Float.Ieee.{of_bits}
use Rattle.numbers.specs.Reals.{◌⊖◌, ◌⊗◌, ◌⊘◌, f1, f2, f5}
use Rattle.roots.specs.Root.{root_of}

-- x to the power n + 1: n multiplications, left to right
unfoldable pub power_of : Float → ℕ → Float
power_of x zero = x
power_of x (suc n) = power_of x n ⊗ x

-- phi, and phi to the 60th, as they are computed
unfoldable pub phi_of : Float
phi_of = (root_of f5 ⊖ f1) ⊘ f2

unfoldable pub phi60_of : Float
phi60_of = power_of phi_of 59

-- The same by their bits, which is what code and definitions use. `golden::phi` and `golden::phi_60` have contracts that say they are the same.
abbrev pub phi : Float
phi = of_bits binary64 0x3fe3_c6ef_372f_e950

abbrev pub phi60 : Float
phi60 = of_bits binary64 0x3d54_5449_d10d_e112
