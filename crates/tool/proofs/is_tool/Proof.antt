use borrow.Author.Tests.{eq-eqb, ne_eqb}
use Rattle.rules.proofs.Branches.{and_on, and_off, bool_called}
use Rattle.tool.specs.Tool.{is_tool}
use Rattle.tool.proofs.is_tool.Statement.{statement}
use Rattle.tool.proofs.is_tool.Tie as tie

returns : tie.Need-returns-then-few
unfolding is_tool
returns c = and_on _ _ _ (eq-eqb _ _ c.before.before.before.if-table-eq0.true)
    (and_on _ _ _ (bool_called _ _ _ c.before.before.few.ensures c.before.if-few.true) c.all_valid.ensures)

returns-2 : tie.Need-returns-else-few
unfolding is_tool
returns-2 c = and_on _ _ _ (eq-eqb _ _ c.before.before.if-table-eq0.true)
    (and_off _ _ _ (bool_called _ _ _ c.before.few.ensures c.if-few.false) c.if-few.false)

returns-3 : tie.Need-returns-else-table-eq0
unfolding is_tool
returns-3 c = and_off _ _ _ (ne_eqb _ _ c.if-table-eq0.false) (ne_eqb _ _ c.if-table-eq0.false)

pub is_tool_spec : {M : Type 1} → statement M
is_tool_spec = tie.close (tie.spec (λ c κs. tt) (λ c κs. tt) returns returns-2 returns-3)
