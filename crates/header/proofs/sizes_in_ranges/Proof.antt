use Rattle.rules.proofs.Branches.{branches, bool_called}
use Rattle.header.proofs.Ranges.{sizes_are}
use Rattle.header.proofs.sizes_in_ranges.Statement.{statement}
use Rattle.header.proofs.sizes_in_ranges.Tie as tie

returns : tie.Need-returns-then-counts_in_ranges
returns c = sizes_are _ _ _ _ _ _ (search (branches, bool_called))

returns-2 : tie.Need-returns-else-counts_in_ranges
returns-2 c = sizes_are _ _ _ _ _ _ (search (branches, bool_called))

returns-3 : tie.Need-returns-else-size_in_range
returns-3 c = sizes_are _ _ _ _ _ _ (search (branches, bool_called))

pub sizes_in_ranges_spec : {M : Type 1} → statement M
sizes_in_ranges_spec = tie.close (tie.spec (λ c κs. tt) (λ c κs. tt) (λ c κs. tt) returns returns-2 returns-3)
