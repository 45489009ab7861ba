use Rattle.rules.proofs.Branches.{branches, bool_called}
use Rattle.setup.proofs.Heads.{ranges_are}
use Rattle.setup.proofs.usable.in_ranges.Statement.{statement}
use Rattle.setup.proofs.usable.in_ranges.Tie as tie

returns : tie.Need-returns-then-counts_in
returns c = ranges_are _ _ (search (branches, bool_called))

returns-2 : tie.Need-returns-else-counts_in
returns-2 c = ranges_are _ _ (search (branches, bool_called))

returns-3 : tie.Need-returns-else-places_in
returns-3 c = ranges_are _ _ (search (branches, bool_called))

returns-4 : tie.Need-returns-else-is_from
returns-4 c = ranges_are _ _ (search (branches, bool_called))

pub in_ranges_spec : {M : Type 1} → statement M
in_ranges_spec =
    tie.close
    (tie.spec (λ c κs. tt) (λ c κs. tt) (λ c κs. tt) (λ c κs. tt) returns returns-2 returns-3 returns-4)
