use mathlib.Core.Path.{refl}
use Rattle.rules.proofs.Branches.{taken, left}
use Rattle.tips.specs.Contact.{tool_raised}
use Rattle.tips.proofs.raise_tool_on.Statement.{statement}
use Rattle.tips.proofs.raise_tool_on.Tie as tie

returns : tie.Need-returns-then-top-low
unfolding tool_raised
returns c = taken _ _ _ _ c.if-top-low.true refl

returns-2 : tie.Need-returns
unfolding tool_raised
returns-2 c = left _ _ _ _ c.before.if-top-low.false c.raise_over.ensures

pub raise_tool_on_spec : {M : Type 1} → statement M
raise_tool_on_spec = tie.close (tie.spec returns (λ c κs. tt) returns-2)
