-- `listing::listed`: refused by the builder, or the head line and the questions' lines.
use Rattle.std.proofs.Common.{sym, arith}
use lib.Seq.{length-take-le}
use Rattle.listing.proofs.Telling.{built_err, built_ok}
use Rattle.lines.proofs.Texts.{as_well}
use Rattle.listing.proofs.listed.Goals as goal

pub returns-in-Err : goal.returns-in-Err
returns-in-Err c = (
  as_well (built_err _ _ _ _ _ _ _ _ _ _ c.in-Err.refusal c.in-Err.ensures.boxes_after _ c.number.ensures) c.refused_line.ensures.0,
  omega (arith, c.refused_line.ensures.1),
)

pub answers-requires : goal.answers-requires
answers-requires c = (c.requires.2, omega (arith, c.requires, c.head_line-at.ensures.1, c.head_line-at.auto.out))

pub returns-in-Ok : goal.returns-in-Ok
returns-in-Ok c = (
  built_ok _ _ _ _ _ _ _ _ _ _ c.in-Ok.h c.in-Ok.ensures.boxes_after 256 _ _ _ _ _ c.requires.0 c.head_line-at.ensures.0 c.answers.ensures.0,
  omega (arith, c.head_line-at.ensures.1, c.answers.ensures.1, c.requires.1),
)
