use Prim.Native.Nat.{◌+◌}
use mathlib.Core.Path.{sym}
use native.Mathlib.Omega.{arith}
use Rattle.fields.proofs.Bytes.{joined, value_byte}
use Rattle.fields.proofs.u16_at.Goals as goal

pub returns : goal.returns
returns c =
    let xs = c.args.bytes.now in
    let a = c.args.at in
    joined xs a 1 1 _ _ (omega arith) (sym (value_byte xs a (omega arith))) (sym (value_byte xs (a + 1) (omega arith)))
