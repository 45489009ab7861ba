-- The number of the header and its doors: one more each time that a program written for the doors before would have to be changed or compiled again.
use Rattle.std.specs.Prelude.{ℕ}

abbrev pub version : ℕ
version = 1
