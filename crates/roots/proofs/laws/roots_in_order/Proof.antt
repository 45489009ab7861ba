use Rattle.std.proofs.Common.{T, sym, subst}
use lib.Ieee.{Float, le}
use Rattle.roots.specs.Root.{root_of}
use Rattle.roots.proofs.Monotone.{root_mono}
use Rattle.roots.proofs.laws.roots_in_order.Statement.{statement}
use Rattle.roots.proofs.laws.roots_in_order.Tie as tie

returns : tie.Need-returns
returns c =
    let a = c.before.before in (
      rw (c.before.root.ensures, c.root-2.ensures),
      λ p q h.
          subst (λ (r : Float). T (le r c.root-2.result)) (sym c.before.root.ensures)
          (subst (λ (r : Float). T (le (root_of a.args.x) r)) (sym c.root-2.ensures)
          (root_mono a.args.x a.args.y (subst T (sym a.well_formed.0.1) tt) (subst T (sym a.well_formed.1.0.1) tt) p q h)),
    )

pub roots_in_order_spec : {M : Type 1} → statement M
roots_in_order_spec = tie.close (tie.spec (λ c κs. tt) (λ c κs. tt) returns)
