use mathlib.Core.Path.{refl}
use Rattle.rules.proofs.Branches.{taken}
use Rattle.query.specs.Patch.{held_to}
use Rattle.query.proofs.Patches.{held_none, held_some}
use Rattle.query.proofs.held.Statement.{statement}
use Rattle.query.proofs.held.Tie as tie

returns : tie.Need-returns-then-hi
unfolding held_to
returns c = taken _ _ _ _ c.if-hi.true refl

returns-2 : tie.Need-returns-then-count-first
returns-2 c = held_none _ _ _ _ c.before.cut-first.ensures c.before.before.if-hi.false c.if-count-first.true

returns-3 : tie.Need-returns
returns-3 c =
    let d = c.before.before in
    held_some _ _ _ _ d.before.cut-first.ensures d.before.before.if-hi.false _ _ c.before.cut.ensures c.one_past.ensures d.if-count-first.false

pub held_spec : {M : Type 1} → statement M
held_spec = tie.close (tie.spec returns (λ c κs. tt) returns-2 (λ c κs. tt) (λ c κs. tt) returns-3)
