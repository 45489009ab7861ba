use Prim.Native.Nat.{◌≤◌, ◌-◌}
use mathlib.Core.Path.{◌≡◌, refl}
use native.Mathlib.Omega.{arith}
use Rattle.tool.specs.Tool.{raised_over, sections_in}
use Rattle.tool.proofs.Sections.{higher}
use Rattle.tool.proofs.raise_over.Statement.{statement}
use Rattle.tool.proofs.raise_over.Tie as tie

abbrev invariant-loop : tie.invariant-loop-i
invariant-loop t k x y table n high₀ i₀ high i = (high ≡ raised_over t k x y table high₀ i) × (i ≤ n)

abbrev decreases-loop : tie.decreases-loop-i
decreases-loop t k x y table n high₀ i₀ high i = n - i

loop-holds : tie.Need-loop-i-init invariant-loop decreases-loop
unfolding raised_over
loop-holds c = (refl, omega arith)

loop-again : tie.Need-loop-i-preserved invariant-loop decreases-loop
loop-again c = (
  higher _ _ _ c.before.before.section_at.ensures _ _ _ _ _ _ _ _ _ c.before.before.before.before.before.loop-i.invariant.0
      c.before.before.before.so_far-on.ensures c.before.section_contact_on.ensures c.raise_by-high.ensures,
  omega arith,
)

returns : tie.Need-returns invariant-loop decreases-loop
returns c = let l = c.before.loop-i in let e : l.i ≡ sections_in c.before.before.before.args.table.now = omega arith in rw e at l.invariant.0

pub raise_over_spec : {M : Type 1} → statement M
raise_over_spec =
    tie.close
    (tie.spec invariant-loop decreases-loop loop-holds (λ c κs. tt) (λ c κs. omega arith) (λ c κs. tt) (λ c κs. tt) (λ c. omega arith) (λ c. omega arith) loop-again returns)
