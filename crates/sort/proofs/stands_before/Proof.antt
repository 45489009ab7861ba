use Rattle.rules.proofs.Branches.{flags}
use Rattle.sort.specs.Ranks.{before}
use borrow.Author.Rules.{rules}
use Rattle.sort.proofs.stands_before.Statement.{statement}
use Rattle.sort.proofs.stands_before.Tie as tie
use Rattle.sort.proofs.stands_before.Reads as reads
use Rattle.sort.proofs.stands_before.Lts as lts
use Rattle.numbers.proofs.total_less.Reads as total-less-reads

mul-i : tie.Need-offset_bounds-list-a
mul-i c = search rules

shared_slice_read-i : tie.Need-bounds-list-a
shared_slice_read-i c = search rules

cast-i : tie.Need-overflow_cast-i
cast-i c = search rules

mul-j : tie.Need-offset_bounds-list-b
mul-j c = search rules

shared_slice_read-j : tie.Need-bounds-list-b
shared_slice_read-j c = search rules

cast-j : tie.Need-overflow_cast-j
cast-j c = search rules

mul-zi : tie.Need-overflow_mul-zi
mul-zi c = search rules

add-zi : tie.Need-overflow_add-zi
add-zi c = search rules

mul-zi-2 : tie.Need-offset_bounds-mesh-i
mul-zi-2 c = search rules

shared_slice_read-zi : tie.Need-bounds-mesh-i
shared_slice_read-zi c = search rules

mul-zj : tie.Need-overflow_mul-zj
mul-zj c = search rules

add-zj : tie.Need-overflow_add-zj
add-zj c = search rules

mul-zj-2 : tie.Need-offset_bounds-mesh-j
mul-zj-2 c = search rules

shared_slice_read-zj : tie.Need-bounds-mesh-j
shared_slice_read-zj c = search rules

total_less-requires : tie.Need-total_less-requires
total_less-requires c κs = search rules

returns : tie.Need-returns-then-total_less
unfolding before
returns c = search flags

total_less-requires-2 : tie.Need-total_less-requires-2
total_less-requires-2 c κs = search rules

returns-2 : tie.Need-returns-then-total_less-2
unfolding before
returns-2 c = search flags

returns-3 : tie.Need-returns
unfolding before
returns-3 c = search flags

pub stands_before_spec : {M : Type 1} → statement M
stands_before_spec =
    tie.close
    (tie.spec
    mul-i
    shared_slice_read-i
    cast-i
    mul-j
    shared_slice_read-j
    cast-j
    mul-zi
    add-zi
    mul-zi-2
    shared_slice_read-zi
    mul-zj
    add-zj
    mul-zj-2
    shared_slice_read-zj
    total_less-requires
    returns
    total_less-requires-2
    returns-2
    returns-3)
