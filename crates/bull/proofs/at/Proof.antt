use Rattle.bull.specs.Inside.{way_at}
use Rattle.bull.proofs.Flats.{flat_at}
use Rattle.bull.proofs.at.Statement.{statement}
use Rattle.bull.proofs.at.Tie as tie

returns : tie.Need-returns-then-dx-dy
returns c = flat_at _ _ _ _ c.before.before.before.before.before.before.before.before.before.requires c.if-dx-dy.true

returns-2 : tie.Need-returns
unfolding way_at
returns-2 c = rw (c.bull_profile.ensures, c.before.min-d.ensures, c.before.before.hypot.ensures)

pub at_spec : {M : Type 1} → statement M
at_spec = tie.close (tie.spec returns (λ c κs. tt) (λ c κs. tt) (λ c κs. tt) returns-2)
