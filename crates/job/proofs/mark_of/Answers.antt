use mathlib.Core.Path.{sym}
use native.Mathlib.Omega.{arith}
use Rattle.fields.proofs.Bytes.{joined, value_byte}
use Rattle.job.proofs.mark_of.Goals as goal

pub returns : goal.returns
returns c = joined _ 0 2 1 _ _ (omega arith) c.u16_at.ensures (sym (value_byte _ 2 (omega arith)))
