use mathlib.Core.Path.{◌≡◌, ap, ◌∙◌, subst, sym}
use mathlib.Core.Bool.{true}
use lib.Dec.{T}
use lib.Ieee.{Float, le}
use Rattle.bull.specs.Inside.{cap_of}
use Rattle.bull.proofs.Capping.{cap_stays}
use Rattle.bull.proofs.raised.Statement.{statement}
use Rattle.bull.proofs.raised.Tie as tie

returns : tie.Need-returns-then-cap-limit
returns c =
    let a = c.before.before.before in
    cap_stays a.args.k a.args.e _ a.args.lo a.args.hi (subst T (sym a.well_formed.1.1.1.1.0.1) tt)
    (subst T (sym a.well_formed.1.1.1.1.1.0.1) tt)
    (c.before.before.cap_on-cap.ensures ∙ ap (λ (b : Float). cap_of a.args.k b a.args.e a.args.lo a.args.hi) a.requires) _ _ 40
    (subst (λ (b : Float). le c.before.before.cap_on-cap.result b ≡ true) c.before.limit.ensures c.if-cap-limit.true)

returns-2 : tie.Need-returns
returns-2 c = c.searched.ensures

pub raised_spec : {M : Type 1} → statement M
raised_spec = tie.close (tie.spec (λ c κs. tt) (λ c κs. tt) returns (λ c κs.
    let a = c.before.before.before in (
      a.requires,
      c.before.before.cap_on-cap.ensures ∙ ap (λ (b : Float). cap_of a.args.k b a.args.e a.args.lo a.args.hi) a.requires,
    )) returns-2)
