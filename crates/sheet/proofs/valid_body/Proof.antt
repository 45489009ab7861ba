use Rattle.rules.proofs.Branches.{and_on, and_off, bool_called}
use Rattle.sheet.proofs.valid_body.Statement.{statement}
use Rattle.sheet.proofs.valid_body.Tie as tie

returns : tie.Need-returns-then-valid_part-2
returns c =
    let one = c.before.before.before in
    and_on _ _ _ (bool_called _ _ _ one.before.valid_part.ensures one.if-valid_part.true)
    (and_on _ _ _ (bool_called _ _ _ c.before.before.valid_part-then-valid_part.ensures c.before.if-valid_part-2.true) c.valid_part-then-valid_part-2.ensures)

returns-2 : tie.Need-returns-else-valid_part-2
returns-2 c =
    let one = c.before.before in
    and_on _ _ _ (bool_called _ _ _ one.before.valid_part.ensures one.if-valid_part.true)
    (and_off _ _ _ (bool_called _ _ _ c.before.valid_part-then-valid_part.ensures c.if-valid_part-2.false) c.if-valid_part-2.false)

returns-3 : tie.Need-returns-else-valid_part
returns-3 c = and_off _ _ _ (bool_called _ _ _ c.before.valid_part.ensures c.if-valid_part.false) c.if-valid_part.false

pub valid_body_spec : {M : Type 1} → statement M
valid_body_spec = tie.close (tie.spec (λ c κs. tt) (λ c κs. tt) (λ c κs. tt) returns returns-2 returns-3)
