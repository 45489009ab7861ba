use Rattle.std.proofs.Common.{refl}
use Rattle.chords.specs.Inside.{is_under}
use Rattle.chords.proofs.is_under.Goals as goal

pub returns : goal.returns
unfolding is_under
returns c = rw c.min.ensures refl
