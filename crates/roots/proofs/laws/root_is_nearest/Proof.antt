use Rattle.std.proofs.Common.{T, sym, subst}
use lib.Ieee.{Float}
use Rattle.roots.specs.Root.{RootBetween}
use Rattle.roots.proofs.Between.{root_nearest}
use Rattle.roots.proofs.laws.root_is_nearest.Statement.{statement}
use Rattle.roots.proofs.laws.root_is_nearest.Tie as tie

returns : tie.Need-returns
returns c = (
  c.root.ensures,
  λ p. subst (λ (r : Float). RootBetween c.before.args.x r) (sym c.root.ensures)
      (root_nearest c.before.args.x (subst T (sym c.before.well_formed.0.1) tt) p),
)

pub root_is_nearest_spec : {M : Type 1} → statement M
root_is_nearest_spec = tie.close (tie.spec (λ c κs. tt) returns)
