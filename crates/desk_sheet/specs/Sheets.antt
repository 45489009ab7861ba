-- What the C function over a tool's sheet leaves behind: its answer, the lent table, and the fixed array with the count.
use Rattle.std.specs.Prelude.{List, [], ◌∷◌, ℕ, Float}
use Rattle.numbers.specs.Reals.{num}
use Rattle.sheet.specs.declared.Sheet.{Sheet}
use Rattle.sheet.specs.Sheet as sheet

-- Sections listed: the refusal, the table and the count.
pub record SheetLeft : Type 0 where
  pub refusal : ℕ
  pub sections : List Float
  pub count : List ℕ

abbrev pub sheet_left : ℕ → List Float → List ℕ → SheetLeft
sheet_left k ss ns = record { refusal = k; sections = ss; count = ns }

unfoldable pub sheet_left_by : sheet.Outcome → SheetLeft
sheet_left_by o = sheet_left o.answer.refusal o.sections (o.answer.count ∷ [])

-- The sheet from its eight numbers, in C's order.
unfoldable pub sheet_from : List Float → Sheet
sheet_from xs =
    record {
      diameter = num xs 0;
      tip_diameter = num xs 1;
      tip_height = num xs 2;
      cutting_length = num xs 3;
      stickout = num xs 4;
      neck_length = num xs 5;
      above_cut = num xs 6;
      above_neck = num xs 7;
    }
