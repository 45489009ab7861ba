use Prim.Native.Nat.{◌≤◌, ◌-◌}
use mathlib.Core.Path.{◌≡◌, refl}
use native.Mathlib.Omega.{arith}
use Rattle.tool.specs.Tool.{lowest_of, sections_in}
use Rattle.tool.proofs.Sections.{lower}
use Rattle.tool.proofs.lowest.Statement.{statement}
use Rattle.tool.proofs.lowest.Tie as tie

abbrev invariant-loop : tie.invariant-loop-i
invariant-loop table n low₀ i₀ low i = (low ≡ lowest_of table i) × (i ≤ n)

abbrev decreases-loop : tie.decreases-loop-i
decreases-loop table n low₀ i₀ low i = n - i

loop-holds : tie.Need-loop-i-init invariant-loop decreases-loop
unfolding lowest_of
loop-holds c = (refl, omega arith)

loop-again : tie.Need-loop-i-preserved invariant-loop decreases-loop
loop-again c = (lower _ _ _ c.before.section_at-s.ensures _ _ c.before.before.before.loop-i.invariant.0 c.min-low.ensures, omega arith)

returns : tie.Need-returns invariant-loop decreases-loop
returns c = let l = c.before.loop-i in let e : l.i ≡ sections_in c.before.before.before.args.table.now = omega arith in rw e at l.invariant.0

pub lowest_spec : {M : Type 1} → statement M
lowest_spec =
    tie.close
    (tie.spec invariant-loop decreases-loop loop-holds (λ c κs. omega arith) (λ c κs. tt) (λ c. omega arith) (λ c. omega arith) loop-again returns)
