-- What the functions inside the search promise each other: a sum of two squares that is at most `flat` belongs to a distance within r0.
use Rattle.std.specs.Prelude.{Bool, true, false, cond, ◌⊎◌, ◌≡◌, T, Float, None, Option}
use Rattle.std.specs.Float.{binary64}
use Rattle.std.specs.Float.Ieee.{lt, le, fits, is_nan}
use Rattle.numbers.specs.Reals.{◌⊕◌, ◌⊖◌, ◌⊗◌, ◌⊘◌, f0, f1, min_of, max_of, abs_of}
use Rattle.golden.specs.Phi.{phi60}
use Rattle.roots.specs.Hypot.{hypot_of}
use Rattle.plane.specs.declared.Contact.{Contact}
use Rattle.plane.specs.Ranges.{is_coordinate, is_radius}
use Rattle.golden.specs.declared.Golden.{Golden}
use Rattle.above.specs.Above.{offer_of}
use Rattle.above.specs.Inside.{limit_of}
use Rattle.cutters.specs.declared.Edge.{Edge}
use Rattle.cutters.specs.Touch.{length2}
use Rattle.caps.specs.Inside.{root_most, high_on, least_on, tame_on, tame_rise}
use Rattle.section.specs.declared.Section.{Section}
use Rattle.section.specs.declared.slide.Fence.{Fence}
use Rattle.section.specs.declared.slide.Loose.{Loose}
use Rattle.section.specs.Section.{valid_section, profile_of, height_over, section_at}

pub record FlatTo (s : Section) (flat : Float) : Type 0 where
  pub near : (p q : Float) → le (p ⊗ p ⊕ q ⊗ q) flat ≡ true → T (le (hypot_of p q) s.r0)

-- A sum of two f64s' squares that is at least `far` belongs to a distance beyond the section.
pub record Clear (s : Section) (far : Float) : Type 0 where
  pub out : (p q : Float) → T (fits binary64 p) → T (fits binary64 q) → le far (p ⊗ p ⊕ q ⊗ q) ≡ true → profile_of s (hypot_of p q) ≡ None

-- r is z where it is good, and else a NaN.
abbrev pub KeptIf : Bool → Float → Float → Type 0
KeptIf good z r = (is_nan r ≡ true) ⊎ ((good ≡ true) × (r ≡ z) × T (fits binary64 z))

-- A number that the section's surface is nowhere below: z0 of a valid section, or a NaN.
abbrev pub Firm : Section → Float → Type 0
Firm s low = KeptIf (valid_section s) s.z0 low

-- Whether the bound over any stretch of an edge is at most b. No place of the edge gives a tip above its higher end less z0, and the search's bound adds at
-- most the slope's share over the whole edge, whose length is at most `root_most`.
unfoldable pub low_edge : Section → Float → Edge → Float → Bool
low_edge s low e b =
    cond (tame_rise e) (le (high_on e f0 f1 ⊖ low ⊕ (abs_of (e.bz ⊖ e.az) ⊕ s.rise ⊗ root_most (length2 e)) ⊗ phi60) b) false

-- What the tip's height over an edge from lo to hi is at most. The surface grows with the distance from the axis, so it is the edge's higher end less the
-- surface at the edge's least distance, which is taken from its box in plan. A NaN, by which nothing is left out, where the numbers are not of ordinary size.
unfoldable pub over_of : Section → Float → Float → Float
over_of s z d = z ⊖ height_over (profile_of s d)

unfoldable pub cap_of : Section → Float → Float → Float → Edge → Float → Float → Float
cap_of s low x y e lo hi =
    cond (le f0 low)
    (cond (tame_on e x y lo hi) (over_of s (high_on e lo hi) (min_of (least_on e x y lo hi) s.r1)) (f0 ⊘ f0))
    (f0 ⊘ f0)

-- Two candidates that are as good as each other beside a contact with the limit b.
abbrev pub AsGood : Float → Option Contact → Option Contact → Type 0
AsGood b r k = (c : Option Contact) → limit_of c ≡ b → offer_of c r ≡ offer_of c k

-- The cap is at most m, or with `more` added at most the limit.
abbrev pub Under : Float → Float → Float → Float → Type 0
Under cap m more limit = (le cap m ≡ true) ⊎ (le (cap ⊕ more) limit ≡ true)

-- What the search is handed: a number that the surface is nowhere below, and the larger of the two ends' heights.
pub record Begun (s : Section) (low x y : Float) (e : Edge) (flat lo hi m : Float) : Type 0 where
  pub firm : Firm s low
  pub flat_to : FlatTo s flat
  pub ends : m ≡ max_of (section_at s x y e lo) (section_at s x y e hi)

-- A height z of ordinary size, and a distance d between two numbers of ordinary size.
pub record Around (z near far d : Float) : Type 0 where
  pub height : is_coordinate z ≡ true
  pub small : is_radius near ≡ true
  pub large : is_radius far ≡ true
  pub low : T (le near d)
  pub high : T (le d far)

-- A fence holds the height v: what of it is a number is at most v, or at least.
pub record Held (p : Fence) (v : Float) : Type 0 where
  pub at_least : is_nan p.low ≡ false → T (le p.low v)
  pub at_most : is_nan p.high ≡ false → T (le v p.high)

-- The bracket g with the values of f at its inner points.
unfoldable pub valued_at : (Float → Float) → Golden → Golden
valued_at f g = record { a = g.a; b = g.b; x1 = g.x1; x2 = g.x2; f1 = f g.x1; f2 = f g.x2 }

-- A bracket with its values for fences.
unfoldable pub loose_of : Golden → Loose
loose_of g = record { g = g; one = record { low = g.f1; high = g.f1 }; two = record { low = g.f2; high = g.f2 } }

-- w has the places of the bracket q, whose values its fences hold.
pub record Loosely (f : Float → Float) (q : Golden) (w : Loose) : Type 0 where
  pub spots : valued_at f w.g ≡ q
  pub first : Held w.one (f w.g.x1)
  pub second : Held w.two (f w.g.x2)

-- Whether the fences tell that a step drops the left part, or the right one.
unfoldable pub goes_of : Bool → Loose → Bool
goes_of left w = cond left (lt w.one.high w.two.low) (le w.two.high w.one.low)
