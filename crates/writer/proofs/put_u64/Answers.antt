use Rattle.writer.proofs.Stores.{halves}
use Rattle.writer.proofs.put_u64.Goals as goal

pub returns : goal.returns
returns c = rw (c.put_u32-2.ensures, c.put_u32.ensures) (halves _ _ 4 4 _)
