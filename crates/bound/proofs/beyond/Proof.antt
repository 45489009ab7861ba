-- `beyond` meets its contract: the law of the squares is `Far.antt`'s.
use mathlib.Core.Path.{subst, sym}
use lib.Dec.{T}
use borrow.Author.Tests.{not-false}
use Rattle.rules.proofs.Branches.{bool_called}
use Rattle.bound.proofs.Far.{far_square, far_none}
use Rattle.bound.proofs.beyond.Statement.{statement}
use Rattle.bound.proofs.beyond.Tie as tie

returns-2 : tie.Need-returns-then-w
returns-2 c =
    let s = c.before.before.before in
    far_square s.args.w (subst T (sym s.well_formed.0.1) tt)
    (bool_called _ _ _ c.before.before.is_radius.ensures (c.before.if-not-is_radius.false)) c.if-w.true

pub beyond_spec : {M : Type 1} → statement M
beyond_spec = tie.close (tie.spec (λ c κs. tt) (λ c. far_none _) returns-2 (λ c. far_none _))
