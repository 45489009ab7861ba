use mathlib.Core.Path.{sym, ap, ◌∙◌}
use Rattle.roots.specs.Root.{root_of}
use Rattle.reach.proofs.Squares.{apart_root}
use Rattle.reach.proofs.apart_at.Statement.{statement}
use Rattle.reach.proofs.apart_at.Tie as tie

returns : tie.Need-returns
returns c = c.root.ensures ∙ ap root_of c.before.square_at.ensures ∙ sym (apart_root _ _ _)

pub apart_at_spec : {M : Type 1} → statement M
apart_at_spec = tie.close (tie.spec (λ c κs. tt) (λ c κs. tt) returns)
