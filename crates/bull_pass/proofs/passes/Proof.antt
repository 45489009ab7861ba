use Rattle.rules.proofs.Branches.{and_on, and_off, bool_called}
use Rattle.bull_pass.specs.Inside.{passes_of}
use Rattle.bull_pass.proofs.passes.Statement.{statement}
use Rattle.bull_pass.proofs.passes.Tie as tie

returns : tie.Need-returns-then-fair
unfolding passes_of
returns c = and_on _ _ _ (bool_called _ _ _ c.before.before.before.fair.ensures c.before.before.if-fair.true)
    (rw (c.over_all.ensures, c.before.strip_of.ensures))

returns-2 : tie.Need-returns-else-fair
unfolding passes_of
returns-2 c = and_off _ _ _ (bool_called _ _ _ c.before.fair.ensures c.if-fair.false) c.if-fair.false

pub passes_spec : {M : Type 1} → statement M
passes_spec = tie.close (tie.spec (λ c κs. tt) (λ c κs. tt) (λ c κs. tt) returns returns-2)
