-- Document 01, "Levels and runs": where the rows of a level lie, and where their samples.
use Rattle.std.specs.Prelude.{ℕ, pos, Float}
use Rattle.std.specs.Float.{binary64}
use Rattle.std.specs.Float.Ieee.{of_int}
use Rattle.numbers.specs.Reals.{◌⊕◌, ◌⊖◌, ◌⊗◌, ◌⊘◌, f1, f4, min_of, max_of}
use Rattle.numbers.specs.Rounding.{round_up_of, truncated}
use Rattle.levels.specs.declared.Level.{Level}
use Rattle.runs.specs.declared.Run.{Run}
use Rattle.rows.specs.declared.Axis.{Axis}
use Rattle.rows.specs.declared.Axis.TheVariants.{X, Y}
use Rattle.rows.specs.declared.Spread.{Spread}
use Rattle.rows.specs.declared.Lane.{Lane}

-- A whole number as an f64.
abbrev pub real : ℕ → Float
real n = of_int binary64 (pos n)

-- How far a level's rows reach: its box grown by the radius, along the axis from a0 to a1 and across it from c0 to c1.
unfoldable pub spread_of : Axis → Float → Level → Spread
spread_of X r l = record { a0 = l.low_x ⊖ r; a1 = l.high_x ⊕ r; c0 = l.low_y ⊖ r; c1 = l.high_y ⊕ r }
spread_of Y r l = record { a0 = l.low_y ⊖ r; a1 = l.high_y ⊕ r; c0 = l.low_x ⊖ r; c1 = l.high_x ⊕ r }

-- Into how many steps a width is parted: rounded up, at least 1.
unfoldable pub parts_of : Float → Float → ℕ
parts_of width step = truncated (max_of (round_up_of (width ⊘ step)) f1)

-- The rows lie at intervals of at most the stepover.
unfoldable pub intervals_of : Spread → Float → ℕ
intervals_of s stepover = parts_of (s.c1 ⊖ s.c0) stepover

-- The samples lie at most h apart: a quarter of the stepover or of the radius.
unfoldable pub step_of : Float → Float → Float
step_of stepover r = min_of stepover r ⊘ f4

unfoldable pub samples_of : Spread → Float → ℕ
samples_of s h = parts_of (s.a1 ⊖ s.a0) h

-- Where a row lies across the axis.
unfoldable pub cross_of : Spread → ℕ → ℕ → Float
cross_of s intervals row = s.c0 ⊕ real row ⊗ ((s.c1 ⊖ s.c0) ⊘ real intervals)

-- Where sample k of so many lies along it.
unfoldable pub along_of : Spread → ℕ → ℕ → Float
along_of s samples k = s.a0 ⊕ (s.a1 ⊖ s.a0) ⊗ real k ⊘ real samples

-- The run along an axis from a to b, at c across it.
unfoldable pub laid_of : Axis → Float → Float → Float → Float → Run
laid_of X a b c z = record { ax = a; ay = c; bx = b; by = c; z = z }
laid_of Y a b c z = record { ax = c; ay = a; bx = c; by = b; z = z }

-- The run of a row from sample i to sample j.
unfoldable pub between : Lane → ℕ → ℕ → Run
between l i j = laid_of l.axis (along_of l.spread l.samples i) (along_of l.spread l.samples j) l.cross l.z
