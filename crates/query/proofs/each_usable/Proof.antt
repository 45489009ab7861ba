use mathlib.Core.Path.{ap, ◌∙◌}
use borrow.Author.Rules.{rules}
use Rattle.rules.proofs.Branches.{branches, bool_called}
use Rattle.query.specs.Usable.{box_usable, triangle_usable}
use Rattle.query.proofs.each_usable.Statement.{statement}
use Rattle.query.proofs.each_usable.Tie as tie

returns : tie.Need-returns-then-corners_usable
unfolding triangle_usable
returns c =
    let e = c.box_usable.ensures ∙ ap box_usable c.before.box_at.ensures in
    search (branches, bool_called, e)

returns-2 : tie.Need-returns-else-corners_usable
unfolding triangle_usable
returns-2 c = search (branches, bool_called)

pub each_usable_spec : {M : Type 1} → statement M
each_usable_spec = tie.close (tie.spec (λ c κs. search rules) (λ c κs. search rules) (λ c κs. tt) returns returns-2)
