use mathlib.Core.Bool.{not}
use mathlib.Core.Path.{ap}
use borrow.Author.Tests.{ne_eqb}
use lib.Ieee.{Float, le}
use Rattle.rules.proofs.Branches.{left, branches}
use Rattle.probe.specs.Inside.{splits_of}
use Rattle.probe.proofs.splits.Statement.{statement}
use Rattle.probe.proofs.splits.Tie as tie

returns : tie.Need-returns-then-clear
unfolding splits_of
returns c = search branches

returns-2 : tie.Need-returns-then-left-eq0
unfolding splits_of
returns-2 c = search branches

returns-3 : tie.Need-returns
unfolding splits_of
returns-3 c = left _ _ _ _ c.before.before.if-clear.false
    (left _ _ _ _ (ne_eqb _ _ c.before.if-left-eq0.false) (ap (λ (x : Float). not (le x c.before.before.before.args.least)) c.length.ensures))

pub splits_spec : {M : Type 1} → statement M
splits_spec = tie.close (tie.spec returns returns-2 (λ c κs. tt) returns-3)
