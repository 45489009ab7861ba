use mathlib.Core.Path.{sym, subst}
use lib.Dec.{T}
use Rattle.reach.proofs.Limits.{told_near, told_far}
use Rattle.reach.proofs.is_within.Statement.{statement}
use Rattle.reach.proofs.is_within.Tie as tie

returns : tie.Need-returns-then-q
returns c =
    let s = c.before.before.before in
    told_near s.args.k s.args.q s.requires (subst T (sym s.well_formed.1.0.1) tt) c.if-q.true c.before.if-q-k.true

returns-2 : tie.Need-returns-then-q-k-2
returns-2 c =
    let s = c.before.before.before.before in
    told_far s.args.k s.args.q s.requires (subst T (sym s.well_formed.1.0.1) tt) c.if-q-k-2.true

returns-3 : tie.Need-returns
returns-3 c = rw c.before.root.ensures

pub is_within_spec : {M : Type 1} → statement M
is_within_spec = tie.close (tie.spec returns returns-2 (λ c κs. tt) returns-3)
