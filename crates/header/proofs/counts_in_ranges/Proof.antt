use mathlib.Core.Path.{sym, ◌∙◌}
use native.Mathlib.Omega.{arith}
use Rattle.rules.proofs.Branches.{branches, bool_called}
use Rattle.header.proofs.Ranges.{few_cells}
use Rattle.header.proofs.counts_in_ranges.Statement.{statement}
use Rattle.header.proofs.counts_in_ranges.Tie as tie

mul-is_from : tie.Need-overflow_mul-rows
mul-is_from c =
    omega (
      arith,
      few_cells _ _ (sym c.before.before.before.is_from.ensures ∙ c.before.before.if-is_from.true)
          (sym c.before.is_from-then-is_from.ensures ∙ c.if-is_from-2.true),
    )

returns : tie.Need-returns-then-is_from-2
returns c = search (branches, bool_called)

returns-2 : tie.Need-returns-else-is_from-2
returns-2 c = search (branches, bool_called)

returns-3 : tie.Need-returns-else-is_from
returns-3 c = search (branches, bool_called)

pub counts_in_ranges_spec : {M : Type 1} → statement M
counts_in_ranges_spec =
    tie.close (tie.spec (λ c κs. tt) (λ c κs. tt) mul-is_from (λ c κs. tt) returns returns-2 returns-3)
