-- What bounds the tip's height over an edge; no answer is defined here.
use Rattle.std.specs.Prelude.{Bool, true, cond, ◌&&◌, ◌≡◌, T, Float, Option}
use Rattle.std.specs.Float.{binary64}
use Rattle.std.specs.Float.Ieee.{of_bits, le, fits}
use Rattle.numbers.specs.Reals.{◌⊖◌, f0, f1, min_of, max_of}
use Rattle.roots.specs.Hypot.{hypot_of}
use Rattle.plane.specs.declared.Touch.{Touch}
use Rattle.plane.specs.declared.Contact.{Contact}
use Rattle.plane.specs.Contacts.{take_of}
use Rattle.above.specs.Inside.{limit_of}
use Rattle.golden.specs.declared.Golden.{Golden}
use Rattle.cutters.specs.declared.Edge.{Edge}
use Rattle.cutters.specs.Touch.{along, length2}
use Rattle.plane.specs.Ranges.{is_coordinate}
use Rattle.bound.specs.Inside.{nearer_of}

-- 2^6, 2^12, 2^22 and their squares
abbrev pub root6 : Float
root6 = of_bits binary64 0x4050_0000_0000_0000

abbrev pub root12 : Float
root12 = of_bits binary64 0x40b0_0000_0000_0000

abbrev pub root22 : Float
root22 = of_bits binary64 0x4150_0000_0000_0000

abbrev pub square12 : Float
square12 = of_bits binary64 0x4170_0000_0000_0000

abbrev pub square22 : Float
square22 = of_bits binary64 0x42b0_0000_0000_0000

-- A number that the root of q is at most, for a q up to 2^44.
unfoldable pub root_most : Float → Float
root_most q = cond (le q f1) f1 (cond (le q root12) root6 (cond (le q square12) root12 root22))

-- The higher of an edge's heights at lo and hi, as a search comes to them.
unfoldable pub high_on : Edge → Float → Float → Float
high_on e lo hi = max_of (along e.az e.bz lo) (along e.az e.bz hi)

-- How near to x the coordinates between a and b come from lo to hi, with its sign.
unfoldable pub side_on : Float → Float → Float → Float → Float → Float
side_on a b x lo hi =
    let p = along a b lo ⊖ x in
    let q = along a b hi ⊖ x in
    nearer_of (min_of p q) (max_of p q)

-- The least distance from the axis (x, y) of the box of an edge from lo to hi.
unfoldable pub least_on : Edge → Float → Float → Float → Float → Float
least_on e x y lo hi = hypot_of (side_on e.ax e.bx x lo hi) (side_on e.ay e.by y lo hi)

-- Numbers of ordinary size, for which nothing overflows, and lo..hi within 0..1.
unfoldable pub side_tame : Float → Float → Float → Float → Float → Bool
side_tame a b x lo hi = is_coordinate (along a b lo ⊖ x) && is_coordinate (along a b hi ⊖ x)

unfoldable pub in_order : Float → Float → Bool
in_order lo hi = le f0 lo && (le lo hi && le hi f1)

unfoldable pub tame_on : Edge → Float → Float → Float → Float → Bool
tame_on e x y lo hi =
    in_order lo hi && (side_tame e.ax e.bx x lo hi && (side_tame e.ay e.by y lo hi && side_tame e.az e.bz f0 lo hi))

-- Heights, rise and length of ordinary size.
unfoldable pub tame_rise : Edge → Bool
tame_rise e =
    is_coordinate (along e.az e.bz f0)
    && (is_coordinate (along e.az e.bz f1) && (is_coordinate (e.bz ⊖ e.az) && le (length2 e) square22))

-- Four f64s, a bracket a..b and two points in it.
pub record Inner (a b x1 x2 : Float) : Type 0 where
  pub fit_a : T (fits binary64 a)
  pub fit_b : T (fits binary64 b)
  pub fit_x1 : T (fits binary64 x1)
  pub fit_x2 : T (fits binary64 x2)
  pub low_x1 : le a x1 ≡ true
  pub high_x1 : le x1 b ≡ true
  pub low_x2 : le a x2 ≡ true
  pub high_x2 : le x2 b ≡ true

-- A search's bracket with its inner points.
abbrev pub InnerOf : Golden → Type 0
InnerOf g = Inner g.a g.b g.x1 g.x2

-- Two heights that are as good as each other beside a contact with the limit b.
abbrev pub Alike : Float → Float → Float → Type 0
Alike b r z = (c : Option Contact) (t : Touch) → limit_of c ≡ b → take_of c r t ≡ take_of c z t
