use native.Mathlib.Numerals.{add-one}
use Rattle.writer.specs.Writer.{digits}
use Rattle.writer.proofs.put_u16.Goals as goal

pub returns : goal.returns
unfolding digits
returns c = rw (add-one)
