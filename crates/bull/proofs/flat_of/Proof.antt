use Rattle.rules.proofs.Branches.{bool_called}
use borrow.Author.Tests.{not-false}
use Rattle.bull.proofs.Flats.{flat_part, flat_none}
use Rattle.bull.proofs.flat_of.Statement.{statement}
use Rattle.bull.proofs.flat_of.Tie as tie

returns : tie.Need-returns-then-not-is_radius
returns c = flat_none _

returns-2 : tie.Need-returns-then-not-is_radius-2
returns-2 c = flat_none _

returns-3 : tie.Need-returns
returns-3 c =
    let b = c.before in
    flat_part _ _ (bool_called _ _ _ b.before.before.before.is_radius.ensures (b.before.before.if-not-is_radius.false))
    (bool_called _ _ _ b.before.is_radius-2.ensures (b.if-not-is_radius-2.false)) c.within.ensures

pub flat_of_spec : {M : Type 1} → statement M
flat_of_spec = tie.close (tie.spec (λ c κs. tt) returns (λ c κs. tt) returns-2 (λ c κs. tt) returns-3)
