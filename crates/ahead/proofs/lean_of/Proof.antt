use mathlib.Core.Path.{refl}
use Rattle.rules.proofs.Branches.{taken, left}
use Rattle.ahead.specs.Inside.{lean_of}
use Rattle.ahead.proofs.lean_of.Statement.{statement}
use Rattle.ahead.proofs.lean_of.Tie as tie

returns : tie.Need-returns-then-up
unfolding lean_of
returns c = taken _ _ _ _ c.if-up.true refl

returns-2 : tie.Need-returns
unfolding lean_of
returns-2 c = left _ _ _ _ c.if-up.false refl

pub lean_of_spec : {M : Type 1} → statement M
lean_of_spec = tie.close (tie.spec returns returns-2)
