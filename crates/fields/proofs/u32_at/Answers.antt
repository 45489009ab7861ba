use native.Mathlib.Omega.{arith}
use Rattle.fields.proofs.Bytes.{joined}
use Rattle.fields.proofs.u32_at.Goals as goal

pub returns : goal.returns
returns c = joined _ _ 2 2 _ _ (omega arith) c.u16_at.ensures c.u16_at-2.ensures
