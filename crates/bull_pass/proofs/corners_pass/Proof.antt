use mathlib.Core.Path.{ap, ◌∙◌}
use Rattle.rules.proofs.Branches.{and_on, and_off, bool_called}
use Rattle.bull_pass.specs.Inside.{corners_pass, under_of}
use Rattle.bull_pass.proofs.corners_pass.Statement.{statement}
use Rattle.bull_pass.proofs.corners_pass.Tie as tie

returns : tie.Need-returns-then-under-2
unfolding corners_pass
returns c = and_on _ _ _ (bool_called _ _ _ (c.before.before.before.before.before.before.under.ensures ∙ ap (under_of _)
    c.before.before.before.before.before.before.before.point_block.ensures) c.before.before.before.before.before.if-under.true)
    (and_on _ _ _ (bool_called _ _ _ (c.before.before.before.under-then-under.ensures ∙ ap (under_of _) c.before.before.before.before.point_block-then-under.ensures)
    c.before.before.if-under-2.true) (c.under-then-under-2.ensures ∙ ap (under_of _) c.before.point_block-then-under-2.ensures))

returns-2 : tie.Need-returns-else-under-2
unfolding corners_pass
returns-2 c = and_on _ _ _ (bool_called _ _ _ (c.before.before.before.before.under.ensures
    ∙ ap (under_of _) c.before.before.before.before.before.point_block.ensures) c.before.before.before.if-under.true)
    (and_off _ _ _ (bool_called _ _ _ (c.before.under-then-under.ensures ∙ ap (under_of _) c.before.before.point_block-then-under.ensures) c.if-under-2.false) c.if-under-2.false)

returns-3 : tie.Need-returns-else-under
unfolding corners_pass
returns-3 c = and_off _ _ _
    (bool_called _ _ _ (c.before.under.ensures ∙ ap (under_of _) c.before.before.point_block.ensures) c.if-under.false) c.if-under.false

pub corners_pass_spec : {M : Type 1} → statement M
corners_pass_spec = tie.close (tie.spec (λ c κs. tt) (λ c κs. tt) (λ c κs. tt) (λ c κs. tt) (λ c κs. tt) (λ c κs. tt) returns returns-2 returns-3)
