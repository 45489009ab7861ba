use native.Mathlib.Omega.{arith}
use Rattle.stl.proofs.Numbers.{number_at}
use Rattle.stl.proofs.bits_at.Goals as goal

pub returns : goal.returns
returns c = number_at _ _ _ _ (omega arith) c.u32_at.ensures
