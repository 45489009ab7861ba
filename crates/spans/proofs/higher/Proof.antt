-- `spans::higher` meets its contract.
use Rattle.std.proofs.Common.{refl}
use Rattle.numbers.specs.Reals.{max_of}
use Rattle.rules.proofs.Branches.{taken, left}
use Rattle.spans.proofs.higher.Statement.{statement}
use Rattle.spans.proofs.higher.Tie as tie

returns : tie.Need-returns-then-x-y
unfolding max_of
returns c = left _ _ _ _ c.before.requires (taken _ _ _ _ c.if-x-y.true refl)

returns-2 : tie.Need-returns-else-x-y
unfolding max_of
returns-2 c = left _ _ _ _ c.before.requires (left _ _ _ _ c.if-x-y.false refl)

pub higher_spec : {M : Type 1} → statement M
higher_spec = tie.close (tie.spec returns returns-2)
