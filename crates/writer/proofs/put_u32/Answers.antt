use Rattle.writer.proofs.Stores.{halves}
use Rattle.writer.proofs.put_u32.Goals as goal

pub returns : goal.returns
returns c = rw (c.put_u16-2.ensures, c.put_u16.ensures) (halves _ _ 2 2 _)
