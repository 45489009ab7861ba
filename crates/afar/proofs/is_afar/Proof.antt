use Rattle.afar.proofs.Never.{never, never_in_quarters}
use Rattle.afar.proofs.is_afar.Statement.{statement}
use Rattle.afar.proofs.is_afar.Tie as tie

returns : tie.Need-returns-then-keeps_off
returns c e =
    let s = c.before.before in
    never _ _ _ _ _ s.before.edges_of-x.ensures s.edges_of-y.ensures (c.before.keeps_off.ensures c.if-keeps_off.true)

returns-2 : tie.Need-returns
returns-2 c e =
    let s = c.before.before.before in
    never_in_quarters _ _ _ _ _ s.before.edges_of-x.ensures s.edges_of-y.ensures (c.quarters_keep_off.ensures e)

pub is_afar_spec : {M : Type 1} → statement M
is_afar_spec = tie.close (tie.spec (λ c κs. tt) (λ c κs. tt) (λ c κs. tt) returns (λ c κs. tt) returns-2)
