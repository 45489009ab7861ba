-- Document 01, "Proved examples", those that are about rounding. `fin s m e` is m * 2 ^ e, negative where s is true.
use Rattle.std.specs.Prelude.{◌≡◌, true, pos, negsuc}
use Rattle.std.specs.Float.{fin}
use Rattle.numbers.specs.Rounding.{round_down_of}

pub record Worked : Type 0 where
  -- -1/2 is rounded down to -1, and -0.0 stays
  pub minus_half : round_down_of (fin true 1 (negsuc 0)) ≡ fin true 1 (pos 0)
  pub stays : round_down_of (fin true 0 (pos 0)) ≡ fin true 0 (pos 0)
