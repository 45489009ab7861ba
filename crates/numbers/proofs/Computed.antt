-- What comes out by computing: the worked examples.
use Rattle.std.proofs.Common.{refl}
use lib.Ieee.{size, units, odd, round}
use Rattle.numbers.specs.Rounding.{round_down_of}
use Rattle.numbers.specs.Worked.{Worked}

pub worked : Worked
unfolding size units odd round round_down_of
worked = record {
  minus_half = refl;
  stays = refl;
}
