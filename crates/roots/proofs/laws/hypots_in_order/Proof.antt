use Rattle.std.proofs.Common.{T, sym, subst}
use lib.Ieee.{Float, le}
use Rattle.roots.specs.Hypot.{hypot_of}
use Rattle.roots.proofs.Distances.{hypot_mono}
use Rattle.roots.proofs.laws.hypots_in_order.Statement.{statement}
use Rattle.roots.proofs.laws.hypots_in_order.Tie as tie

returns : tie.Need-returns
returns c =
    let a = c.before.before in (
      rw (c.before.hypot.ensures, c.hypot-2.ensures),
      λ h k.
          subst (λ (r : Float). T (le r c.hypot-2.result)) (sym c.before.hypot.ensures)
          (subst (λ (r : Float). T (le (hypot_of a.args.x a.args.y) r)) (sym c.hypot-2.ensures)
          (hypot_mono a.args.x a.args.y a.args.u a.args.v h.fine k.fine h.size k.size)),
    )

pub hypots_in_order_spec : {M : Type 1} → statement M
hypots_in_order_spec = tie.close (tie.spec (λ c κs. tt) (λ c κs. tt) returns)
