use mathlib.Core.Path.{sym, subst}
use lib.Dec.{T}
use Rattle.section.proofs.Giving.{bound_none, bound_found}
use Rattle.section.proofs.bounded.Statement.{statement}
use Rattle.section.proofs.bounded.Tie as tie

returns : tie.Need-returns-then-cap-more
returns c =
    let a = c.before.before.before in
    bound_none _ a.args.low _ _ _ _ _ _ _ c.before.lipschitz-slope.ensures a.requires (subst T (sym a.well_formed.1.1.1.1.1.0.1) tt)
    (subst T (sym a.well_formed.1.1.1.1.1.1.0.1) tt) _ c.before.before.cap_on-cap.ensures c.if-cap-more.true

returns-2 : tie.Need-returns
returns-2 c =
    bound_found _ c.before.before.before.before.before.args.low _ _ _ _ _ _ _ c.before.before.before.lipschitz-slope.ensures _ _
    c.before.search-best.ensures c.bound.ensures

pub bounded_spec : {M : Type 1} → statement M
bounded_spec = tie.close (tie.spec (λ c κs. tt) (λ c κs. tt) returns
    (λ c κs. (c.before.before.before.requires, c.before.before.cap_on-cap.ensures)) (λ c κs. tt) returns-2)
