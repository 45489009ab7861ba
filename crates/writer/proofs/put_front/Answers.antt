use Rattle.writer.proofs.Rows.{front_laid}
use Rattle.writer.proofs.put_front.Goals as goal

pub returns : goal.returns
returns c = rw (c.put_number-2.ensures, c.put_number.ensures, c.put_head.ensures) (front_laid _ _ _ _ _)
