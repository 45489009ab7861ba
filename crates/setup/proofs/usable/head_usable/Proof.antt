use mathlib.Core.Path.{sym, ◌∙◌}
use native.Mathlib.Omega.{arith}
use Rattle.rules.proofs.Branches.{branches, bool_called}
use Rattle.setup.specs.Answer.{head_usable}
use Rattle.setup.proofs.Heads.{Ranged, in-ranges-is}
use Rattle.setup.proofs.usable.head_usable.Statement.{statement}
use Rattle.setup.proofs.usable.head_usable.Tie as tie

ranged : (c : tie.Then-in_ranges) → Ranged c.before.before.before.args.h
ranged c = in-ranges-is _ (sym c.before.in_ranges.ensures ∙ c.if-in_ranges.true)

returns : tie.Need-returns-then-mesh-n
unfolding head_usable
returns c = search (branches, bool_called)

returns-2 : tie.Need-returns-else-mesh-n
unfolding head_usable
returns-2 c = search (branches, bool_called)

returns-3 : tie.Need-returns-else-in_ranges
unfolding head_usable
returns-3 c = search (branches, bool_called)

pub head_usable_spec : {M : Type 1} → statement M
head_usable_spec =
    tie.close
    (tie.spec (λ c κs. tt) (λ c. omega (arith, ranged c)) (λ c. omega (arith, ranged c.before))
    (λ c. omega (arith, ranged c.before)) returns returns-2 returns-3)
