use native.Mathlib.Omega.{arith}
use Rattle.fields.proofs.Lengths.{is_short, is_surplus, is_exact}
use Rattle.fields.proofs.length_rule.Goals as goal

pub returns-then-length-wanted : goal.returns-then-length-wanted
returns-then-length-wanted c = is_short _ _ _ c.bytes_of-wanted.ensures _ c.if-length-wanted.true c.whole_in.ensures.value

pub returns-then-wanted-length : goal.returns-then-wanted-length
returns-then-wanted-length c = is_surplus _ _ _ c.bytes_of-wanted.ensures c.if-wanted-length.true

pub returns : goal.returns
returns c = is_exact _ _ _ c.bytes_of-wanted.ensures (omega arith)
