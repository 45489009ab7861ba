use mathlib.Core.Path.{sym, subst}
use lib.Dec.{T}
use Rattle.rules.proofs.Branches.{bool_called}
use Rattle.ahead.proofs.Own.{own_contact}
use Rattle.ahead.proofs.alone.contact_from.Statement.{statement}
use Rattle.ahead.proofs.alone.contact_from.Tie as tie

returns : tie.Need-returns-then-touches
returns c =
    let a = c.before.before.before in
    own_contact _ _ _ _ (subst T (sym a.well_formed.1.0.1.1.1.1.1.0.1) tt) a.requires c.before.before.bull_contact_on-c.ensures
    (bool_called _ _ _ c.before.touches.ensures c.if-touches.true)

pub contact_from_spec : {M : Type 1} → statement M
contact_from_spec = tie.close (tie.spec (λ c κs. tt) (λ c κs. tt) returns (λ c κs. tt) (λ c. c.bull_contact.ensures))
