use Rattle.height.proofs.Raising.{raise_skips, raise_takes}
use Rattle.height.proofs.DiskLook.look.Goals as goal

pub returns-then-b-best : goal.returns-then-b-best
returns-then-b-best c = (raise_skips _ _ _ _ _ _ c.box_at-b.ensures c.if-b-best.true, tt)

pub returns : goal.returns
returns c =
    (raise_takes _ _ _ _ _ _ c.box_at-b.ensures c.if-b-best.false _ _ _ c.triangle_at.ensures c.highest_above.ensures c.raise_by.ensures, tt)
