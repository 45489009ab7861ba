-- Document 01, "Questions": "the tool arrives as a lent list of one to 32 sections", here a lent slice of structs, and the flat table of four numbers each that
-- the section questions are stated over.
use Rattle.std.specs.Prelude.{cond, List, [], ◌∷◌, ◌++◌, ◌≡◌, ℕ, ◌+◌, leb, Float, length, get_or, take}
use Rattle.std.specs.Float.{nan}
use Rattle.section.specs.declared.Section.{Section}
use Rattle.flatten.specs.declared.Table.{Table}

-- The numbers of a section, in their order.
abbrev pub four : Section → List Float
four s = s.z0 ∷ s.r0 ∷ s.r1 ∷ s.rise ∷ []

-- The flat table of a list of sections: the numbers of each, one section after the other.
unfoldable pub flat_of : List Section → List Float
flat_of [] = []
flat_of (s ∷ rest) = four s ++ flat_of rest

-- Section i of a list.
abbrev pub blank : Section
blank = record { z0 = nan; r0 = nan; r1 = nan; rise = nan }

abbrev pub section_in : List Section → ℕ → Section
section_in ss i = get_or ss i blank

-- ---- what the copy holds

-- How many of n sections are copied: all of up to 32, none of more. A question refuses none and more than 32 alike.
unfoldable pub copied_of : ℕ → ℕ
copied_of n = cond (leb n 32) n 0

-- The numbers that a table holds.
unfoldable pub held_in : Table → List Float
held_in t = take t.count t.numbers

-- A table that holds nothing, with all its room.
pub record Emptied (t : Table) : Type 0 where
  pub room : length t.numbers ≡ 128
  pub none : t.count ≡ 0

-- u holds the numbers of t, then those of s.
pub record Pushed (t : Table) (s : Section) (u : Table) : Type 0 where
  pub room : length u.numbers ≡ 128
  pub more : u.count ≡ t.count + 4
  pub held : held_in u ≡ held_in t ++ four s
