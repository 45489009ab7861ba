-- The invariant: after n steps the bracket is that of the search. Where it breaks off, nothing in the bracket stands above, so no later value does.
use Prim.Native.Nat.{◌≤◌, ◌-◌}
use mathlib.Core.Path.{◌≡◌, sym, subst}
use borrow.Author.Rules.{rules}
use native.Mathlib.Omega.{arith}
use lib.Dec.{T}
use Rattle.golden.specs.Search.{rises, golden_at}
use Rattle.golden.proofs.Turns.{search_laws}
use Rattle.bull_gap.specs.Blocks.{bull_gap}
use Rattle.bull_gap.proofs.Breaking.{breaks_off, found}
use Rattle.bull_gap.proofs.sought.Statement.{statement}
use Rattle.bull_gap.proofs.sought.Tie as tie

abbrev invariant-loop : tie.invariant-loop-n
invariant-loop t m r rc lo hi low high g₀ n₀ g n = (g ≡ golden_at rises (bull_gap t m r rc) lo hi n) × (n ≤ 40)

abbrev decreases-loop : tie.decreases-loop-n
decreases-loop t m r rc lo hi low high g₀ n₀ g n = 40 - n

loop-holds : tie.Need-loop-n-init invariant-loop decreases-loop
loop-holds c = (search search_laws, search rules)

returns : tie.Need-returns-then-settled invariant-loop decreases-loop
returns c =
    let s = c.before.before.before.before.before in
    let l = c.before.before.before.loop-n in
    breaks_off s.args.t s.args.m s.args.r s.args.rc s.args.lo s.args.hi (subst T (sym s.well_formed.1.1.1.1.0.1) tt)
    (subst T (sym s.well_formed.1.1.1.1.1.0.1) tt)
    s.args.low s.args.high s.requires l.n l.g l.invariant.1 l.invariant.0 (c.before.settled.ensures c.if-settled.true)

loop-again : tie.Need-loop-n-preserved invariant-loop decreases-loop
loop-again c = (search search_laws, search rules)

returns-2 : tie.Need-returns invariant-loop decreases-loop
returns-2 c =
    let s = c.before.before.before.before in
    let l = c.before.before.loop-n in
    found s.args.t s.args.m s.args.r s.args.rc s.args.lo s.args.hi (subst T (sym s.well_formed.1.1.1.1.0.1) tt)
    (subst T (sym s.well_formed.1.1.1.1.1.0.1) tt)
    s.args.low s.args.high s.requires l.n l.g l.invariant.1 l.invariant.0 (omega arith) _ c.best.ensures

pub sought_spec : {M : Type 1} → statement M
sought_spec =
    tie.close
    (tie.spec invariant-loop decreases-loop (λ c κs. tt) loop-holds (λ c κs. tt) returns (λ c κs. tt) (λ c. omega arith) (λ c. omega arith) loop-again (λ c κs. tt) returns-2)
