use Rattle.roots.proofs.Infinities.{infinite_called, one_infinite, other_infinite, none_infinite}
use Rattle.roots.proofs.hypot_of_nan.Statement.{statement}
use Rattle.roots.proofs.hypot_of_nan.Tie as tie

returns : tie.Need-returns-then-abs
returns c = search (one_infinite, infinite_called)

returns-2 : tie.Need-returns-then-abs-2
returns-2 c = search (other_infinite, infinite_called)

returns-3 : tie.Need-returns
returns-3 c = search (none_infinite, infinite_called)

pub hypot_of_nan_spec : {M : Type 1} → statement M
hypot_of_nan_spec = tie.close (tie.spec (λ c κs. tt) returns (λ c κs. tt) returns-2 returns-3)
