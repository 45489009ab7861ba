use Rattle.std.proofs.Common.{arith}
use Rattle.setup.proofs.Looking.{taken_sane, take_step}
use Rattle.setup.proofs.TopsLook.look.Goals as goal

pub take-requires : goal.take-requires
take-requires c =
    let b = c.box_of-b.ensures in
    (c.requires.0.1, b.1, b.2, omega (arith, c.requires.1.met, c.requires.2))

pub returns : goal.returns
returns c =
    let b = c.box_of-b.ensures in
    (take_step _ _ _ _ _ _ b.0 c.take.ensures, taken_sane _ _ _ _ c.requires.1 b.3 c.take.ensures)
