-- `spans::lower` meets its contract.
use Rattle.std.proofs.Common.{refl}
use Rattle.numbers.specs.Reals.{min_of}
use Rattle.rules.proofs.Branches.{taken, left}
use Rattle.spans.proofs.lower.Statement.{statement}
use Rattle.spans.proofs.lower.Tie as tie

returns : tie.Need-returns-then-y-x
unfolding min_of
returns c = left _ _ _ _ c.before.requires (taken _ _ _ _ c.if-y-x.true refl)

returns-2 : tie.Need-returns-else-y-x
unfolding min_of
returns-2 c = left _ _ _ _ c.before.requires (left _ _ _ _ c.if-y-x.false refl)

pub lower_spec : {M : Type 1} → statement M
lower_spec = tie.close (tie.spec returns returns-2)
