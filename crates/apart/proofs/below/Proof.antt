use mathlib.Core.Path.{sym, subst}
use lib.Dec.{T}
use Rattle.rules.proofs.Branches.{no}
use Rattle.apart.proofs.Farther.{ahead_called, lies_below}
use Rattle.apart.proofs.below.Statement.{statement}
use Rattle.apart.proofs.below.Tie as tie

returns : tie.Need-returns-then-fine
returns c e =
    let t = c.before.before.before in
    let s = t.before.before in
    lies_below s.args.a s.args.b s.args.c s.args.p s.args.q
    (subst T (sym s.well_formed.0.1) tt) (subst T (sym s.well_formed.1.0.1) tt) (subst T (sym s.well_formed.1.1.0.1) tt)
    (subst T (sym s.well_formed.1.1.1.0.1) tt)
    (t.before.fine.ensures t.if-fine.true) s.args.limit
    (ahead_called _ _ _ _ _ c.before.before.low_on-low.ensures c.before.highest_on.ensures (c.ahead.ensures e))

pub below_spec : {M : Type 1} → statement M
below_spec = tie.close (tie.spec (λ c κs. tt) (λ c κs. tt) (λ c κs. tt) (λ c κs. tt) returns (λ c e. absurd (no e)))
