use Rattle.rules.proofs.Branches.{taken, bool_called, flags}
use Rattle.bull_pass.specs.Inside.{ranges_miss}
use Rattle.bull_pass.proofs.ranges_miss.Statement.{statement}
use Rattle.bull_pass.proofs.ranges_miss.Tie as tie

returns : tie.Need-returns-then-plain-2
unfolding ranges_miss
returns c = taken _ _ _ _ (bool_called _ _ _ c.before.before.before.before.before.before.plain.ensures
    c.before.before.before.before.before.if-plain.true) (taken _ _ _ _ (bool_called _ _ _ c.before.before.before.before.plain-then-plain.ensures
    c.before.before.before.if-plain-2.true) (rw (c.outside.ensures, c.before.span_of-then-plain-2.ensures, c.before.before.span_of.ensures)))

returns-2 : tie.Need-returns-else-plain-2
unfolding ranges_miss
returns-2 c = search flags

returns-3 : tie.Need-returns-else-plain
unfolding ranges_miss
returns-3 c = search flags

pub ranges_miss_spec : {M : Type 1} → statement M
ranges_miss_spec = tie.close (tie.spec (λ c κs. tt) (λ c κs. tt) (λ c κs. tt) (λ c κs. tt) (λ c κs. tt) returns returns-2 returns-3)
