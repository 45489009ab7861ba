-- Document 02, request 11: the set-up height. All numbers are counted from the least i32.
use Rattle.std.specs.Prelude.{Bool, cond, ◌&&◌, List, ℕ, zero, suc, ◌+◌, ◌-◌, ◌/◌, min, max, leb, ltb, ℤ}
use Rattle.micro.specs.declared.Box.{Box}
use Rattle.micro.specs.Micro.{is_coordinate, is_radius, box_of}
use Rattle.um.specs.declared.Header.{Header}
use Rattle.query.specs.declared.Span.{Span}
use Rattle.query.specs.declared.Patch.{Patch}
use Rattle.query.specs.Patch.{nowhere}
use Rattle.setup.specs.declared.Question.{Question}
use Rattle.setup.specs.declared.Reach.{Reach}
use Rattle.setup.specs.declared.Best.{Best}

-- ---- the question

-- 2: points as coordinates, r as the radius.
unfoldable pub are_points : ℕ → ℕ → ℕ → ℕ → Bool
are_points px py qx qy = is_coordinate px && (is_coordinate py && (is_coordinate qx && is_coordinate qy))

unfoldable pub is_question : Question → Bool
is_question q = are_points q.px q.py q.qx q.qy && is_radius q.r

-- Its box on both axes, and how far it is grown: r counts from 0.
unfoldable pub reach_of : Question → Reach
reach_of q =
    record {
      left = min q.px q.qx;
      right = max q.px q.qx;
      bottom = min q.py q.qy;
      top = max q.py q.qy;
      by = q.r - 2147483648;
    }

-- ---- the answer of one triangle

-- Two stretches of an axis meet, touching included: low to high, and a to b grown by r on both sides.
unfoldable pub touches : ℕ → ℕ → ℕ → ℕ → ℕ → Bool
touches low high a b r = leb a (high + r) && leb low (b + r)

-- The triangle's box meets the question's box grown by r.
unfoldable pub meets : Reach → Box → Bool
meets w b = touches b.low_x b.high_x w.left w.right w.by && touches b.low_y b.high_y w.bottom w.top w.by

-- The height so far and the boxes met so far, with one triangle more: one whose box meets counts, and raises the height to its top where that is higher.
unfoldable pub taken : Reach → Box → Best → Best
taken w b v = cond (meets w b) (record { height = max v.height b.top; met = v.met + 1 }) v

unfoldable pub step_of : List ℤ → Reach → Best → ℕ → Best
step_of mesh w v i = taken w (box_of mesh i) v

-- Before the first triangle: the floor, and none met.
abbrev pub from_floor : ℕ → Best
from_floor floor = record { height = floor; met = 0 }

-- ---- the plain walk over the mesh: triangle 0, then 1, and so on, n of them. There is no grid in this.
unfoldable pub plain_walk : List ℤ → Reach → ℕ → ℕ → Best
plain_walk mesh w floor zero = from_floor floor
plain_walk mesh w floor (suc n) = step_of mesh w (plain_walk mesh w floor n) n

-- ---- the question's cells

-- On an axis of `count` cells from (a - r - origin) / cell to (b + r - origin) / cell, both rounded down and held to the grid; none if the end is below 0 or
-- the start at or past the count. A start below 0 is cell 0: below the origin the difference of counted numbers is 0.
unfoldable pub span_of : ℕ → ℕ → ℕ → ℕ → ℕ → ℕ → Span
span_of a b r origin cell count =
    cond (ltb (b + r) origin) nowhere
    (cond (leb count ((a - (r + origin)) / cell)) nowhere
    (record { first = (a - (r + origin)) / cell; past = min ((b + r - origin) / cell + 1) count }))

-- Columns x0 up to x1 of rows y0 up to y1.
unfoldable pub patch_of : Header → Reach → Patch
patch_of h w =
    let x = span_of w.left w.right w.by h.x h.cell h.columns in
    let y = span_of w.bottom w.top w.by h.y h.cell h.rows in
    record { x0 = x.first; x1 = x.past; y0 = y.first; y1 = y.past }
