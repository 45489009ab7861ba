use Rattle.rules.proofs.Branches.{taken, bool_called, flags}
use Rattle.bull_pass.specs.Inside.{products_miss}
use Rattle.bull_pass.proofs.products_miss.Statement.{statement}
use Rattle.bull_pass.proofs.products_miss.Tie as tie

returns : tie.Need-returns-then-plain_products-2
unfolding products_miss
returns c = taken _ _ _ _ (bool_called _ _ _ c.before.before.before.before.before.before.plain_products.ensures
    c.before.before.before.before.before.if-plain_products.true) (taken _ _ _ _ (bool_called _ _ _ c.before.before.before.before.plain_products-then-plain_products.ensures
    c.before.before.before.if-plain_products-2.true) (rw (c.ranges_miss.ensures, c.before.weight-then-plain_products-2.ensures, c.before.before.weight.ensures)))

returns-2 : tie.Need-returns-else-plain_products-2
unfolding products_miss
returns-2 c = search flags

returns-3 : tie.Need-returns-else-plain_products
unfolding products_miss
returns-3 c = search flags

pub products_miss_spec : {M : Type 1} → statement M
products_miss_spec = tie.close (tie.spec (λ c κs. tt) (λ c κs. tt) (λ c κs. tt) (λ c κs. tt) (λ c κs. tt) returns returns-2 returns-3)
