-- The candidates go on from the floor, which is their own contact on top of it. Beside a NaN they are taken by themselves.
use Rattle.rules.proofs.Branches.{nan_left}
use Rattle.bull.proofs.Goings.{contact_beside}
use Rattle.bull.proofs.bull_contact_on.Statement.{statement}
use Rattle.bull.proofs.bull_contact_on.Tie as tie

returns : tie.Need-returns-then-floor
returns c = rw (c.offer.ensures, c.before.bull_contact_above.ensures, c.before.before.before.so_far-on.ensures)

returns-2 : tie.Need-returns
returns-2 c = contact_beside _ _ _ _ _ (nan_left _ c.before.if-floor.false) c.before.before.so_far-on.ensures c.contact_on.ensures

pub bull_contact_on_spec : {M : Type 1} → statement M
bull_contact_on_spec = tie.close (tie.spec (λ c κs. tt) (λ c κs. tt) (λ c κs. tt) returns (λ c κs. tt) returns-2)
