-- What comes out by computing: the worked examples.
use Rattle.std.proofs.Common.{refl}
use lib.Ieee.{size, units, odd, round, is_nan}
use Rattle.roots.specs.Root.{whole_root, nearest_root, root_of_units, root_of}
use Rattle.roots.specs.Hypot.{infinite, count_of, even_root, hypot_of_count, hypot_of}
use Rattle.roots.specs.Worked.{Worked}

pub worked : Worked
unfolding root_of root_of_units nearest_root whole_root size units odd round infinite count_of even_root hypot_of_count hypot_of is_nan
worked = record {
  nine = refl;
  smallest = refl;
  largest = refl;
  minus_zero = refl;
  minus_four = refl;
  infinite = refl;
  low_hypot = refl;
  high_hypot = refl;
  tie = refl;
  beyond = refl;
  within = refl;
  zeros = refl;
}
