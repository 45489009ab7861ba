use Prim.Native.Nat.{◌≤◌, ◌-◌}
use mathlib.Core.Path.{◌≡◌, refl}
use native.Mathlib.Omega.{arith}
use Rattle.tool.specs.Tool.{widest_of, sections_in}
use Rattle.tool.proofs.Sections.{wider}
use Rattle.tool.proofs.widest.Statement.{statement}
use Rattle.tool.proofs.widest.Tie as tie

abbrev invariant-loop : tie.invariant-loop-i
invariant-loop table n reach₀ i₀ reach i = (reach ≡ widest_of table i) × (i ≤ n)

abbrev decreases-loop : tie.decreases-loop-i
decreases-loop table n reach₀ i₀ reach i = n - i

loop-holds : tie.Need-loop-i-init invariant-loop decreases-loop
unfolding widest_of
loop-holds c = (refl, omega arith)

loop-again : tie.Need-loop-i-preserved invariant-loop decreases-loop
loop-again c = (wider _ _ _ c.before.section_at-s.ensures _ _ c.before.before.before.loop-i.invariant.0 c.max-reach.ensures, omega arith)

returns : tie.Need-returns invariant-loop decreases-loop
returns c = let l = c.before.loop-i in let e : l.i ≡ sections_in c.before.before.before.args.table.now = omega arith in rw e at l.invariant.0

pub widest_spec : {M : Type 1} → statement M
widest_spec =
    tie.close
    (tie.spec invariant-loop decreases-loop loop-holds (λ c κs. omega arith) (λ c κs. tt) (λ c. omega arith) (λ c. omega arith) loop-again returns)
