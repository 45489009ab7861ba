-- Document 01, "Questions": `bull_chord_clear` and `sections_chord_clear`, whether a tool that moves straight from the tip a to the tip b stays above the part.
use Rattle.std.specs.Prelude.{Bool, false, not, cond, ◌&&◌, List, ℕ, Float}
use Rattle.std.specs.Float.Ieee.{lt, le}
use Rattle.numbers.specs.Reals.{◌⊕◌, ◌⊖◌, min_of}
use Rattle.plane.specs.declared.Triangle.{Triangle}
use Rattle.plane.specs.declared.Bounds.{Bounds}
use Rattle.plane.specs.Mesh.{triangle_of}
use Rattle.plane.specs.Ranges.{is_coordinate, is_radius, is_point}
use Rattle.grid.specs.Boxes.{box_at}
use Rattle.grid.specs.Index.{Index}
use Rattle.query.specs.Patch.{patch_of}
use Rattle.reach.specs.declared.Chord.{Chord}
use Rattle.bull_gap.specs.Blocks.{bull_blocks}
use Rattle.ask.specs.Ask.{Ruling}
use Rattle.ask.specs.Ask.{is_corner, Outcome, asked_chord}
use Rattle.tool.specs.Tool.{sections_in, is_tool, widest_of, lowest_of, passes_all}
use Rattle.chords.specs.Demand.{ChordPromise}

-- ---- what both share

-- 2: all three coordinates of both ends are a point's, the lift's magnitude at most 1e6.
unfoldable pub is_end : Float → Float → Float → Bool
is_end x y z = is_point x && (is_point y && is_point z)

unfoldable pub is_chord : Chord → Bool
is_chord m = is_end m.ax m.ay m.az && (is_end m.bx m.by m.bz && is_coordinate m.lift)

-- A chord whose lower end is under floor + lift is blocked before any walk.
unfoldable pub blocked_at_once : Float → Chord → Bool
blocked_at_once floor m = lt (min_of m.az m.bz) (floor ⊕ m.lift)

-- ---- a bull-nose cutter

-- Triangle i, with its top as the box table has it, blocks it.
unfoldable pub bull_blocks_at : List Float → List Float → Chord → Float → Float → ℕ → Bool
bull_blocks_at mesh boxes m r rc i = bull_blocks (triangle_of mesh i) (box_at boxes i).top m r rc

-- 2: the chord, and the radius in its range.
unfoldable pub is_ride : Chord → Float → Bool
is_ride m r = is_chord m && is_radius r

-- bull_chord_clear: 1, 23, 2, 8 (the corner radius) and 7; reach is the radius.
unfoldable pub bull_chord_of : Index → List ℕ → ℕ → Chord → Float → Float → Outcome Ruling
bull_chord_of ix marks stamp m r rc =
    asked_chord (is_ride m r) (is_corner r rc) (blocked_at_once ix.header.floor m) (bull_blocks_at ix.mesh ix.boxes m r rc)
    ix marks stamp (patch_of ix.header m.ax m.ay m.bx m.by r)

-- What `bull_chord_clear` promises of its verdict over the index built from its mesh.
abbrev pub BullChordPromise : Index → List ℕ → ℕ → Chord → Float → Float → Ruling → Type 0
BullChordPromise ix marks stamp m r rc a =
    ChordPromise (is_ride m r) (is_corner r rc) (blocked_at_once ix.header.floor m) (bull_blocks_at ix.mesh ix.boxes m r rc)
    ix marks stamp (patch_of ix.header m.ax m.ay m.bx m.by r) a

-- ---- a tool of sections, with the lowest z0 of them

-- A triangle with the box b blocks it: a contact is at most the triangle's top less the lowest z0, so one that, lifted, is not above the lower tip does not.
unfoldable pub tool_blocks : Triangle → Bounds → Chord → Float → List Float → Bool
tool_blocks t b m low table =
    cond (le (b.top ⊖ low ⊕ m.lift) (min_of m.az m.bz)) false (not (passes_all t b m table))

-- Triangle i, with its box as the box table has it, blocks it.
unfoldable pub tool_blocks_at : List Float → List Float → Chord → Float → List Float → ℕ → Bool
tool_blocks_at mesh boxes m low table i = tool_blocks (triangle_of mesh i) (box_at boxes i) m low table

-- sections_chord_clear: 1, 23, 2, 8 (the sections) and 7; reach is the largest r1.
unfoldable pub sections_chord_of : Index → List ℕ → ℕ → Chord → List Float → Outcome Ruling
sections_chord_of ix marks stamp m table =
    asked_chord (is_chord m) (is_tool table) (blocked_at_once ix.header.floor m)
    (tool_blocks_at ix.mesh ix.boxes m (lowest_of table (sections_in table)) table)
    ix marks stamp (patch_of ix.header m.ax m.ay m.bx m.by (widest_of table (sections_in table)))

-- What `sections_chord_clear` promises of its verdict over the index built from its mesh.
abbrev pub SectionsChordPromise : Index → List ℕ → ℕ → Chord → List Float → Ruling → Type 0
SectionsChordPromise ix marks stamp m table a =
    ChordPromise (is_chord m) (is_tool table) (blocked_at_once ix.header.floor m)
    (tool_blocks_at ix.mesh ix.boxes m (lowest_of table (sections_in table)) table)
    ix marks stamp (patch_of ix.header m.ax m.ay m.bx m.by (widest_of table (sections_in table))) a
