-- What the parts of a height question promise each other.
use Rattle.std.specs.Prelude.{Bool, cond, ◌&&◌, List, ◌≡◌, ℕ, ◌*◌, ◌≤◌, ◌<◌, Float, length, get_or}
use Rattle.std.specs.Float.Ieee.{le}
use Rattle.numbers.specs.Reals.{◌⊘◌, f0, f1}
use Rattle.plane.specs.declared.Triangle.{Triangle}
use Rattle.plane.specs.declared.Bounds.{Bounds}
use Rattle.plane.specs.Mesh.{triangle_of}
use Rattle.rules.specs.Every.{times}
use Rattle.tops.specs.Inside.{is_start, is_parted}
use Rattle.bull.specs.declared.Bull.{Bull}
use Rattle.bull.specs.Inside.{base_of}
use Rattle.ahead.specs.Inside.{sighted_of}
use Rattle.plane.specs.declared.Best.{Best}
use Rattle.walk.specs.Walk.{block}
use Rattle.walk.specs.Inside.{Walkable}
use Rattle.grid.specs.Boxes.{box_at}
use Rattle.query.specs.declared.Patch.{Patch}
use Rattle.ask.specs.Ask.{at_floor}
use Rattle.tips.specs.declared.Sight.{Sight}
use Rattle.tips.specs.Contact.{bull_raised}

-- ---- a walk of a cutter that begins above the floor

-- The height so far with tips over a triangle: a guess of what the walk will find.
unfoldable pub guess_raised : Triangle → Bounds → Sight → Best → Best
guess_raised t b g best = cond (le b.top best.height) best (at_floor (sighted_of g.nose g.limit t b best.height))

unfoldable pub guess_step : List Float → List Float → Sight → Best → ℕ → Best
guess_step mesh boxes g best i = guess_raised (triangle_of mesh i) (box_at boxes i) g best

-- Where a walk that began too high has come to: no height raises it, and it names nothing.
abbrev pub lost : Best
lost = at_floor (f1 ⊘ f0)

-- A triangle before the walk is raised from where it began: it may not lie so that its contact could be on either side of that.
unfoldable pub first_raised : Triangle → Float → ℕ → Sight → Best → Best
first_raised t top i g best = cond (is_parted g.limit top t) (bull_raised t top i g.nose best) lost

unfoldable pub from_raised : Triangle → Float → ℕ → Sight → Best → Best
from_raised t top i g best = cond (le best.height g.limit) (first_raised t top i g best) (bull_raised t top i g.nose best)

unfoldable pub from_step : List Float → List Float → Sight → Best → ℕ → Best
from_step mesh boxes g best i = from_raised (triangle_of mesh i) (box_at boxes i).top i g best

-- Whether a walk over the floor may begin at `from`.
unfoldable pub may_begin : Bull → Float → Float → Bool
may_begin k floor from = is_start from && (le floor from && le f0 (base_of k))

-- Each of the numbers ms has a mark, and that is not the stamp.
abbrev pub Fresh : ℕ → List ℕ → List ℕ → Type 0
Fresh stamp marks ms = (i : ℕ) → 0 < times i ms → (i < length marks) × (get_or marks i 0 ≡ stamp → ⊥)

-- The marks m' are as many as m, and the same but for the numbers ms.
pub record Besides (ms m m' : List ℕ) : Type 0 where
  pub size : length m' ≡ length m
  pub same : (i : ℕ) → times i ms ≡ 0 → get_or m' i 0 ≡ get_or m i 0

-- What such a walk asks of the tables, and of the marks.
pub record Tables (mesh boxes : List Float) (starts members : List ℕ) (columns : ℕ) (p : Patch) (marks : List ℕ) : Type 0 where
  pub nine : length mesh ≡ length marks * 9
  pub five : length boxes ≡ length marks * 5
  pub few : length marks ≤ 65536
  pub cells : Walkable starts members (length marks) columns p.x0 p.x1 p.y0 p.y1

pub record Ready (mesh boxes : List Float) (starts members : List ℕ) (columns : ℕ) (p : Patch) (marks : List ℕ) (stamp : ℕ) : Type 0 where
  pub tables : Tables mesh boxes starts members columns p marks
  pub fresh : Fresh stamp marks (block starts members columns p.x0 p.x1 p.y0 p.y1)
