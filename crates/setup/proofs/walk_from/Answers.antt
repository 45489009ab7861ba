use Rattle.std.proofs.Common.{arith}
use Rattle.walk.proofs.Rings.{unmarked_length}
use Rattle.setup.proofs.walk_from.Goals as goal

pub visit-s-requires : goal.visit-s-requires
visit-s-requires c = (
  rw c.patch_of-p.ensures c.requires.7,
  omega (arith, unmarked_length c.args.stamp c.args.marks.now, c.requires.1),
  λ i h. (omega (arith, c.requires.0), c.requires.3),
  record { met = omega arith; height = c.requires.2 },
)

pub returns : goal.returns
returns c = (rw c.patch_of-p.ensures at c.visit-s.ensures.0, c.visit-s.ensures.1)
