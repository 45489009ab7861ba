use Rattle.rules.proofs.Branches.{and_on, and_off, bool_called}
use Rattle.bull_pass.specs.Inside.{plain_products}
use Rattle.bull_pass.proofs.plain_products.Statement.{statement}
use Rattle.bull_pass.proofs.plain_products.Tie as tie

returns : tie.Need-returns-then-is_coordinate-3
unfolding plain_products
returns c = search (and_on, and_off, bool_called)

returns-2 : tie.Need-returns-else-is_coordinate-3
unfolding plain_products
returns-2 c = search (and_on, and_off, bool_called)

returns-3 : tie.Need-returns-else-is_coordinate-2
unfolding plain_products
returns-3 c = search (and_on, and_off, bool_called)

returns-4 : tie.Need-returns-else-is_coordinate
unfolding plain_products
returns-4 c = search (and_on, and_off, bool_called)

pub plain_products_spec : {M : Type 1} → statement M
plain_products_spec = tie.close (tie.spec (λ c κs. tt) (λ c κs. tt) (λ c κs. tt) (λ c κs. tt) returns returns-2 returns-3 returns-4)
