-- Document 01, "Questions": a tool is a lent list of one to 32 sections, here a flat table of four numbers each: z0, r0, r1 and rise.
use Rattle.std.specs.Prelude.{Bool, not, ◌&&◌, List, ℕ, zero, suc, ◌+◌, ◌*◌, ◌/◌, ◌%◌, eqb, Float, length}
use Rattle.numbers.specs.Reals.{num, f0, max_of, min_of}
use Rattle.rules.specs.Every.{is_from, every}
use Rattle.golden.specs.Upper.{infinity}
use Rattle.plane.specs.declared.Triangle.{Triangle}
use Rattle.plane.specs.declared.Bounds.{Bounds}
use Rattle.plane.specs.declared.Best.{Best}
use Rattle.plane.specs.Contacts.{raised_by}
use Rattle.reach.specs.declared.Chord.{Chord}
use Rattle.section.specs.declared.Section.{Section}
use Rattle.section.specs.Section.{valid_section, section_contact}
use Rattle.section_gap.specs.Blocks.{section_blocks}

-- Section i of a table: its entries from 4 * i on.
unfoldable pub section_of : List Float → ℕ → Section
section_of table i =
    record { z0 = num table (4 * i); r0 = num table (4 * i + 1); r1 = num table (4 * i + 2); rise = num table (4 * i + 3) }

-- How many sections a table has.
abbrev pub sections_in : List Float → ℕ
sections_in table = length table / 4

-- 8: four numbers each, one to 32 sections, each of them valid.
unfoldable pub is_tool : List Float → Bool
is_tool table =
    eqb (length table % 4) 0
    && (is_from 1 32 (sections_in table) && every (λ i. valid_section (section_of table i)) 0 (sections_in table))

-- The largest r1 of the first n sections, from 0 on.
unfoldable pub widest_of : List Float → ℕ → Float
widest_of table zero = f0
widest_of table (suc n) = max_of (widest_of table n) (section_of table n).r1

-- The lowest z0 of the first n sections.
unfoldable pub lowest_of : List Float → ℕ → Float
lowest_of table zero = infinity
lowest_of table (suc n) = min_of (lowest_of table n) (section_of table n).z0

-- The best so far with the contacts of the first n sections on triangle k, in their order; the axis stands at (x, y).
unfoldable pub raised_over : Triangle → ℕ → Float → Float → List Float → Best → ℕ → Best
raised_over t k x y table best zero = best
raised_over t k x y table best (suc n) = raised_by (section_contact t x y (section_of table n)) k (raised_over t k x y table best n)

-- Whether a triangle with the box b blocks none of the sections on a chord.
unfoldable pub passes_all : Triangle → Bounds → Chord → List Float → Bool
passes_all t b m table = every (λ i. not (section_blocks t b m (section_of table i))) 0 (sections_in table)
