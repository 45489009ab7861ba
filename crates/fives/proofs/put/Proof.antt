use Rattle.fives.proofs.Writing.{put_stores, put_none}
use lib.ListN.{length-set}
use native.Mathlib.Omega.{arith}
use borrow.Author.Rules.{rules}
use Rattle.fives.proofs.put.Statement.{statement}
use Rattle.fives.proofs.put.Tie as tie
use Rattle.fives.proofs.put.Reads as reads
use Rattle.fives.proofs.put.Lts as lts

returns : tie.Need-returns-then-table-m
returns c = put_none _ _ _ _ _ _ _ c.if-table-m.true

mul_at : tie.Need-overflow_mul-at
mul_at c = search rules

mul-table : tie.Need-offset_bounds-table-at
mul-table c = search rules

slice_write-table : tie.Need-bounds-table-at
slice_write-table c = search rules

add-table : tie.Need-overflow_add-table
add-table c = search rules

mul-table-2 : tie.Need-offset_bounds-table-at-2
mul-table-2 c = search rules

slice_write-table-2 : tie.Need-bounds-table-at-2
slice_write-table-2 c = simp length-set (omega arith)

add-table-2 : tie.Need-overflow_add-table-2
add-table-2 c = search rules

mul-table-3 : tie.Need-offset_bounds-table-at-3
mul-table-3 c = search rules

slice_write-table-3 : tie.Need-bounds-table-at-3
slice_write-table-3 c = simp length-set (omega arith)

add-table-3 : tie.Need-overflow_add-table-3
add-table-3 c = search rules

mul-table-4 : tie.Need-offset_bounds-table-at-4
mul-table-4 c = search rules

slice_write-table-4 : tie.Need-bounds-table-at-4
slice_write-table-4 c = simp length-set (omega arith)

add-table-4 : tie.Need-overflow_add-table-4
add-table-4 c = search rules

mul-table-5 : tie.Need-offset_bounds-table-at-5
mul-table-5 c = search rules

slice_write-table-5 : tie.Need-bounds-table-at-5
slice_write-table-5 c = simp length-set (omega arith)

same_length : tie.Need-shape_of-table
same_length c = search rules

returns-2 : tie.Need-returns
returns-2 c = put_stores _ _ _ _ _ _ _ c.if-table-m.false

pub put_spec : {M : Type 1} → statement M
put_spec =
    tie.close
    (tie.spec
    returns
    mul_at
    mul-table
    slice_write-table
    add-table
    mul-table-2
    slice_write-table-2
    add-table-2
    mul-table-3
    slice_write-table-3
    add-table-3
    mul-table-4
    slice_write-table-4
    add-table-4
    mul-table-5
    slice_write-table-5
    same_length
    returns-2)
