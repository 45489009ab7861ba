use Rattle.walk.specs.Walk.{next_stamp, ready_marks}
use Rattle.rules.proofs.Branches.{flags}
use borrow.Author.Rules.{rules}
use Rattle.walk.proofs.next_stamp.Statement.{statement}
use Rattle.walk.proofs.next_stamp.Tie as tie

wipe-requires : tie.Need-wipe-requires
wipe-requires c κs = search rules

same_length : tie.Need-shape_of-marks-then-stamp-eq4294967295
same_length c = search rules

returns : tie.Need-returns-then-stamp-eq4294967295
unfolding next_stamp ready_marks
returns c = (search flags, search flags)

add-result : tie.Need-overflow_add-result
add-result c = search rules

returns-2 : tie.Need-returns
unfolding next_stamp ready_marks
returns-2 c = (search flags, search flags)

pub next_stamp_spec : {M : Type 1} → statement M
next_stamp_spec = tie.close (tie.spec wipe-requires same_length returns add-result returns-2)
