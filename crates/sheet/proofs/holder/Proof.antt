use mathlib.Core.Path.{refl}
use Rattle.rules.proofs.Branches.{taken, left}
use Rattle.sheet.specs.Sheet.{holder_of}
use Rattle.sheet.proofs.holder.Statement.{statement}
use Rattle.sheet.proofs.holder.Tie as tie

returns : tie.Need-returns-then-r1-r0
unfolding holder_of
returns c = taken _ _ _ _ c.if-r1-r0.true refl

returns-2 : tie.Need-returns
unfolding holder_of
returns-2 c = left _ _ _ _ c.before.if-r1-r0.false c.cylinder.ensures

pub holder_spec : {M : Type 1} → statement M
holder_spec = tie.close (tie.spec returns (λ c κs. tt) returns-2)
