-- a header in its ranges has few triangles
use Rattle.std.proofs.Common.{arith}
use Rattle.rules.proofs.Branches.{bool_called}
use Rattle.header.proofs.Ranges.{in-ranges-is}
use Rattle.raise.proofs.refusal_of_index.Goals as goal

pub overflow_mul-h : goal.overflow_mul-h
overflow_mul-h c =
    let r = bool_called _ _ _ c.in_ranges.ensures c.if-not-in_ranges.false in
    record { fits = omega (arith, (in-ranges-is _ r).few) }
