use mathlib.Core.Path.{sym, subst}
use lib.Dec.{T}
use Rattle.reach.proofs.Limits.{flat_up_to, flat_none}
use Rattle.reach.proofs.flat_of.Statement.{statement}
use Rattle.reach.proofs.flat_of.Tie as tie

returns : tie.Need-returns-then-root-r
returns c =
    let s = c.before.before in
    flat_up_to s.args.r s.args.q (subst T (sym s.well_formed.1.0.1) tt) (rw c.before.root.ensures at c.if-root-r.true)

pub flat_of_spec : {M : Type 1} → statement M
flat_of_spec = tie.close (tie.spec (λ c κs. tt) returns (λ c. flat_none _))
