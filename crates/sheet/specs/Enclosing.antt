-- What the enclosure of a ball or bull end is for (document 02, request 8): the flat end is nowhere above the curved end that it stands for, so a list that
-- stays clear says so of the real tool.
use Rattle.std.specs.Prelude.{Bool, true, false, ◌&&◌, ◌||◌, List, ◌≡◌, refl, T, negsuc, Float}
use Rattle.std.specs.Float.{fin, binary64}
use Rattle.std.specs.Float.Ieee.{fits, le, of_bits}
use Rattle.numbers.specs.Reals.{f0}
use Rattle.section.specs.Section.{profile_of, height_over}
use Rattle.bull.specs.Bull.{bull_profile}
use Rattle.tool.specs.Tool.{section_of}
use Rattle.sheet.specs.declared.Shape.{Shape}
use Rattle.sheet.specs.declared.Shape.TheVariants.{Flat, Ball, Bull, Drill, Chamfer, Beam}

-- 2 ^ -511: from there on the square of a corner radius is no subnormal number.
abbrev pub least_corner : Float
least_corner = of_bits binary64 0x2000_0000_0000_0000

pub least_corner_is : least_corner ≡ fin false 1 (negsuc 510)
unfolding of_bits
least_corner_is = refl

-- The corner radii of tools of the radius r: none, or from 2 ^ -511 to r. (A ball's is r.)
unfoldable pub is_corner : Float → Float → Bool
is_corner r rc = (le f0 rc && (le rc f0 || le least_corner rc)) && le rc r

-- An end that is curved.
unfoldable pub is_curved : Shape → Bool
is_curved Flat = false
is_curved Ball = true
is_curved Bull = true
is_curved Drill = false
is_curved Chamfer = false
is_curved Beam = false

-- At every distance up to r the list's first section is not above the bull-nose end of any such corner radius, an f64, both as they are computed.
pub record Encloses (r : Float) (table : List Float) : Type 0 where
  pub below : (d rc : Float) → T (fits binary64 rc) → is_corner r rc ≡ true → le d r ≡ true
      → T (le (height_over (profile_of (section_of table 0) d)) (bull_profile d r rc))
