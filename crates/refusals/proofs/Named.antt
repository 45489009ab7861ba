-- No refusal has number 0, which is an answer's; and what `?` hands on.
use Prim.Native.Nat.{◌<◌}
use native.Mathlib.Omega.{arith}
use mathlib.Core.Path.{◌≡◌, ap}
use Rattle.std.specs.Prelude.{Result, Ok, Err, IsErrAnd}
use Rattle.refusals.specs.Numbers.{number_of, code_of}
use Rattle.refusals.specs.declared.Refusal.{Refusal}
use Rattle.refusals.specs.declared.Refusal.TheVariants.{Length, Number, Empty, Coordinate, Starts, Members, Index, Tool, Parameter, Depth, Levels, Fine, Runs, Head, Mark, Version, SixthByte, Count, Cut, NotFinite, Surplus, Bytes, Boxes, Shape, Sections, Heights, Id, Kind, State}

pub numbered : (r : Refusal) → 0 < number_of r
unfolding number_of
numbered Length = omega arith
numbered Number = omega arith
numbered Empty = omega arith
numbered (Coordinate x) = omega arith
numbered Starts = omega arith
numbered Members = omega arith
numbered Index = omega arith
numbered Tool = omega arith
numbered Parameter = omega arith
numbered Depth = omega arith
numbered Levels = omega arith
numbered Fine = omega arith
numbered Runs = omega arith
numbered Head = omega arith
numbered Mark = omega arith
numbered Version = omega arith
numbered SixthByte = omega arith
numbered Count = omega arith
numbered (Cut x) = omega arith
numbered NotFinite = omega arith
numbered Surplus = omega arith
numbered Bytes = omega arith
numbered Boxes = omega arith
numbered Shape = omega arith
numbered Sections = omega arith
numbered Heights = omega arith
numbered Id = omega arith
numbered Kind = omega arith
numbered State = omega arith

pub not_zero : (r : Refusal) → number_of r ≡ 0 → ⊥
not_zero r e = omega (arith, numbered r)

pub refused : (A : Type 0) (r : Refusal) → code_of {A = A} (Err r) ≡ 0 → ⊥
unfolding code_of
refused A r e = omega (arith, numbered r)

-- what `?` hands on is the refusal it met
pub passed_on : {A : Type 0} (a : Result A Refusal) (r : Refusal) → IsErrAnd a (λ e. e ≡ r) → a ≡ Err r
passed_on (Ok x) r h = absurd h
passed_on (Err e) r h = ap Err h
