use native.Mathlib.Omega.{arith}
use Rattle.fields.proofs.Bytes.{joined}
use Rattle.fields.proofs.u64_at.Goals as goal

pub returns : goal.returns
returns c = joined _ _ 4 4 _ _ (omega arith) c.u32_at.ensures c.u32_at-2.ensures
