-- Document 01, "Questions": `max_bull` and `max_sections`, the highest tip of a tool that rests on the part, at least the floor.
use Rattle.std.specs.Prelude.{Bool, cond, ◌&&◌, List, ℕ, Float}
use Rattle.std.specs.Float.Ieee.{le}
use Rattle.numbers.specs.Reals.{◌⊖◌}
use Rattle.plane.specs.declared.Triangle.{Triangle}
use Rattle.plane.specs.Mesh.{triangle_of}
use Rattle.plane.specs.Ranges.{is_radius, is_point}
use Rattle.bull.specs.declared.Bull.{Bull}
use Rattle.bull.specs.Bull.{bull_contact_above}
use Rattle.plane.specs.declared.Best.{Best}
use Rattle.grid.specs.Boxes.{box_at}
use Rattle.grid.specs.Index.{Index}
use Rattle.query.specs.Patch.{patch_of}
use Rattle.ask.specs.Ask.{Answer}
use Rattle.ask.specs.Ask.{is_corner, Outcome, asked_height}
use Rattle.plane.specs.Contacts.{raised_by}
use Rattle.ask.specs.Demand.{HeightPromise}
use Rattle.tool.specs.Tool.{sections_in, is_tool, widest_of, lowest_of, raised_over}
use Rattle.tips.specs.declared.Axis.{Axis}

-- ---- a bull-nose cutter

-- The best so far with triangle i: it counts only where its top is above the best so far, and its edges only where they can exceed it.
unfoldable pub bull_raised : Triangle → Float → ℕ → Bull → Best → Best
bull_raised t top i k best = cond (le top best.height) best (raised_by (bull_contact_above t k best.height) i best)

-- Triangle i, with its top as the box table has it.
unfoldable pub bull_step : List Float → List Float → Bull → Best → ℕ → Best
bull_step mesh boxes k best i = bull_raised (triangle_of mesh i) (box_at boxes i).top i k best

-- 2: the axis is a point, the radius in its range.
unfoldable pub is_stand : Float → Float → Float → Bool
is_stand x y r = is_point x && (is_point y && is_radius r)

-- max_bull: 1, 23, 2, 8 (the corner radius) and 7; reach is the radius.
unfoldable pub max_bull_of : Index → List ℕ → ℕ → Bull → Outcome Answer
max_bull_of ix marks stamp k =
    asked_height (is_stand k.x k.y k.r) (is_corner k.r k.rc) (bull_step ix.mesh ix.boxes k) ix marks stamp
    (patch_of ix.header k.x k.y k.x k.y k.r)

-- What `max_bull` promises of its answer over the index built from its mesh.
abbrev pub BullPromise : Index → List ℕ → ℕ → Bull → Answer → Type 0
BullPromise ix marks stamp k a =
    HeightPromise (is_stand k.x k.y k.r) (is_corner k.r k.rc) ix marks stamp
    (patch_of ix.header k.x k.y k.x k.y k.r) a

-- ---- a tool of sections

-- The best so far with triangle i: it counts only where its top less the lowest z0 is above the best so far.
unfoldable pub tool_raised : Triangle → Float → ℕ → Axis → List Float → Best → Best
tool_raised t top i a table best =
    cond (le (top ⊖ a.low) best.height) best (raised_over t i a.x a.y table best (sections_in table))

-- Triangle i, with its top as the box table has it.
unfoldable pub tool_step : List Float → List Float → Axis → List Float → Best → ℕ → Best
tool_step mesh boxes a table best i = tool_raised (triangle_of mesh i) (box_at boxes i).top i a table best

-- 2: the axis is a point.
unfoldable pub is_place : Float → Float → Bool
is_place x y = is_point x && is_point y

-- max_sections: 1, 23, 2, 8 (the sections) and 7; reach is the largest r1.
unfoldable pub max_sections_of : Index → List ℕ → ℕ → Float → Float → List Float → Outcome Answer
max_sections_of ix marks stamp x y table =
    asked_height (is_place x y) (is_tool table)
    (tool_step ix.mesh ix.boxes (record { x = x; y = y; low = lowest_of table (sections_in table) }) table)
    ix marks stamp (patch_of ix.header x y x y (widest_of table (sections_in table)))

-- What `max_sections` promises of its answer over the index built from its mesh.
abbrev pub SectionsPromise : Index → List ℕ → ℕ → Float → Float → List Float → Answer → Type 0
SectionsPromise ix marks stamp x y table a =
    HeightPromise (is_place x y) (is_tool table) ix marks stamp (patch_of ix.header x y x y (widest_of table (sections_in table))) a
