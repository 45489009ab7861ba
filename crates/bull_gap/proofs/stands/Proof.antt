use mathlib.Core.Path.{sym, subst}
use lib.Dec.{T}
use Rattle.rules.proofs.Branches.{called_lt}
use Rattle.bull_gap.proofs.Rising.{low_risen, high_risen}
use Rattle.bull_gap.proofs.Breaking.{passed}
use Rattle.bull_gap.proofs.stands.Statement.{statement}
use Rattle.bull_gap.proofs.stands.Tie as tie

returns : tie.Need-returns-then-passes_between
returns c =
    let s = c.before.before in
    passed s.args.t s.args.m s.args.r s.args.rc s.args.lo s.args.hi (subst T (sym s.well_formed.1.1.1.1.0.1) tt)
    (subst T (sym s.well_formed.1.1.1.1.1.0.1) tt)
    _ c.before.passes_between.ensures c.if-passes_between.true

returns-2 : tie.Need-returns-then-low
returns-2 c = low_risen _ _ _ 40 _ c.before.gap-low.ensures c.if-low.true

returns-3 : tie.Need-returns-then-max
returns-3 c =
    let b = c.before.before in
    high_risen _ _ _ 40 _ b.before.before.gap-low.ensures _ _ b.gap-high.ensures c.before.max.ensures c.if-max.true

sought-requires : tie.Need-sought-requires
sought-requires c κs = (
  c.before.before.before.before.gap-low.ensures,
  c.before.before.gap-high.ensures,
  called_lt _ _ _ _ c.before.max.ensures c.if-max.false,
)

returns-4 : tie.Need-returns
returns-4 c = c.sought.ensures

pub stands_spec : {M : Type 1} → statement M
stands_spec = tie.close (tie.spec (λ c κs. tt) returns (λ c κs. tt) returns-2 (λ c κs. tt) (λ c κs. tt) returns-3 sought-requires returns-4)
