-- What the parts of `look_over` promise each other.
use Rattle.std.specs.Prelude.{Bool, true, false, List, ◌≡◌, ℕ, Float}
use Rattle.grid.specs.Boxes.{is_boxed}
use Rattle.grid.specs.Index.{Index}
use Rattle.query.specs.Usable.{usable_whole}
use Rattle.tool.specs.Tool.{is_tool}
use Rattle.fields.specs.Little.{value}
use Rattle.paths.specs.declared.Move.{Move}
use Rattle.paths.specs.Layout.{count}
use Rattle.paths.specs.Reader as reader
use Rattle.look_over.specs.declared.Fault.{Fault}
use Rattle.look_over.specs.declared.Fault.TheVariants.{Sound, BlockedRapid, ChangedZ, TooDeep}
use Rattle.look_over.specs.Verdict.{is_place, are_places}

unfoldable pub is_sound : Fault → Bool
is_sound Sound = true
is_sound BlockedRapid = false
is_sound ChangedZ = false
is_sound TooDeep = false

-- What 23 and 7 let pass: an index that every question can be asked of.
pub record Indexed (ix : Index) : Type 0 where
  pub boxed : is_boxed ix.mesh ix.boxes ≡ true
  pub whole : usable_whole ix ≡ true

-- and 8: every question about a move can be answered
pub record Answerable (ix : Index) (table : List Float) : Type 0 where
  pub indexed : Indexed ix
  pub tool : is_tool table ≡ true

-- and what the file's refusals and 2 let pass of the moves
pub record Readable (bytes : List ℕ) : Type 0 where
  pub sound : reader.Sound bytes
  pub places : are_places bytes (value count bytes) ≡ true

-- both ends of a move are in their range
pub record Placed (m : Move) : Type 0 where
  pub start : is_place m.start ≡ true
  pub end : is_place m.end ≡ true
