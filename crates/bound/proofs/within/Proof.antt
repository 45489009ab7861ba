-- `within` meets its contract: the law of the squares is `Near.antt`'s.
use mathlib.Core.Path.{subst, sym}
use lib.Dec.{T}
use borrow.Author.Tests.{not-false}
use Rattle.rules.proofs.Branches.{bool_called}
use Rattle.bound.proofs.Near.{near_square, near_none}
use Rattle.bound.proofs.within.Statement.{statement}
use Rattle.bound.proofs.within.Tie as tie

returns-2 : tie.Need-returns-then-w
returns-2 c =
    let s = c.before.before.before in
    near_square s.args.w (subst T (sym s.well_formed.0.1) tt)
    (bool_called _ _ _ c.before.before.is_radius.ensures (c.before.if-not-is_radius.false)) c.if-w.true

pub within_spec : {M : Type 1} → statement M
within_spec = tie.close (tie.spec (λ c κs. tt) (λ c. near_none _) returns-2 (λ c. near_none _))
