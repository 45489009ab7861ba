use mathlib.Core.Path.{sym, subst}
use lib.Dec.{T}
use Rattle.reach.proofs.Limits.{far_from, far_none}
use Rattle.reach.proofs.far_of.Statement.{statement}
use Rattle.reach.proofs.far_of.Tie as tie

returns-2 : tie.Need-returns-then-v
returns-2 c =
    let s = c.before.before.before in
    far_from s.args.r s.args.v (subst T (sym s.well_formed.1.0.1) tt) c.if-v.true (rw c.before.before.root.ensures at c.before.if-root-r.false)

pub far_of_spec : {M : Type 1} → statement M
far_of_spec = tie.close (tie.spec (λ c κs. tt) (λ c. far_none _) returns-2 (λ c. far_none _))
