-- What comes out by computing: phi and its power.
use mathlib.Core.Path.{◌≡◌, refl, ap, ◌∙◌}
use lib.Ieee.{size, units, odd, round, of_bits, sum, add, sub, neg, mul, div}
use Rattle.roots.specs.Root.{whole_root, nearest_root, root_of_units, root_of}
use Rattle.golden.specs.Phi.{power_of, phi_of, phi60_of, phi, phi60}

pub phi_is : phi ≡ phi_of
unfolding phi_of root_of root_of_units nearest_root whole_root size units odd round of_bits add sub neg div sum
phi_is = refl

power_is : phi60 ≡ power_of phi 59
unfolding power_of mul round of_bits size units odd
power_is = refl

pub phi60_is : phi60 ≡ phi60_of
unfolding phi60_of
phi60_is = power_is ∙ ap (λ x. power_of x 59) phi_is
