-- Document 01, "Refusal numbers": what each refusal's number is, and what it tells beside it.
use Rattle.std.specs.Prelude.{ℕ, Result, Ok, Err}
use Rattle.refusals.specs.declared.Refusal.{Refusal}
use Rattle.refusals.specs.declared.Refusal.TheVariants.{Length, Number, Empty, Coordinate, Starts, Members, Index, Tool, Parameter, Depth, Levels, Fine, Runs, Head, Mark, Version, SixthByte, Count, Cut, NotFinite, Surplus, Bytes, Boxes, Shape, Sections, Heights, Id, Kind, State}

-- The numbers of documents 01 and 02.
unfoldable pub number_of : Refusal → ℕ
number_of Length = 1
number_of Number = 2
number_of Empty = 3
number_of (Coordinate p) = 4
number_of Starts = 5
number_of Members = 6
number_of Index = 7
number_of Tool = 8
number_of Parameter = 9
number_of Depth = 10
number_of Levels = 11
number_of Fine = 12
number_of Runs = 13
number_of Head = 14
number_of Mark = 15
number_of Version = 16
number_of SixthByte = 17
number_of Count = 18
number_of (Cut n) = 19
number_of NotFinite = 20
number_of Surplus = 21
number_of Bytes = 22
number_of Boxes = 23
number_of Shape = 24
number_of Sections = 25
number_of Heights = 26
number_of Id = 27
number_of Kind = 28
number_of State = 29

-- 4 tells which number of the mesh comes first of those that are no coordinates, 19 how many triangles stand whole before the cut; all others tell 0.
unfoldable pub told_of : Refusal → ℕ
told_of (Coordinate p) = p
told_of (Cut n) = n
told_of r = 0

-- What C is answered: the number of a refusal, 0 where there is an answer.
unfoldable pub code_of : {A : Type 0} → Result A Refusal → ℕ
code_of (Ok a) = 0
code_of (Err r) = number_of r

-- What a refused call tells, 0 where there is an answer.
unfoldable pub told_in : {A : Type 0} → Result A Refusal → ℕ
told_in (Ok a) = 0
told_in (Err r) = told_of r
