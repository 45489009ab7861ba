use mathlib.Core.Path.{refl, ◌∙◌}
use Rattle.rules.proofs.Branches.{and_on, and_off}
use Rattle.fields.proofs.Tables.{between}
use Rattle.fields.proofs.is_number.Goals as goal

pub returns-then-x : goal.returns-then-x
returns-then-x c = and_on _ _ _ c.if-x.true refl ∙ between _

pub returns-else-x : goal.returns-else-x
returns-else-x c = and_off _ _ _ c.if-x.false c.if-x.false ∙ between _
