-- `levels::gather` meets its contract: with i triangles gone through, their flat ones stand in front of the list.
use Prim.Native.Nat.{◌≤◌, ◌-◌}
use mathlib.Core.Path.{◌≡◌, refl}
use native.Mathlib.Omega.{arith}
use borrow.Author.Rules.{rules}
use lib.ListN.{length}
use Rattle.levels.proofs.Gathering.{Gathering, gathering_starts, gathering_fits, gathering_goes}
use Rattle.levels.proofs.gather.Statement.{statement}
use Rattle.levels.proofs.gather.Tie as tie
use Rattle.levels.proofs.gather.Reads as reads
use Rattle.levels.proofs.gather.Lts as lts
use Rattle.levels.proofs.gather_one.Reads as gather-one-reads

abbrev invariant-loop : tie.invariant-loop-i
invariant-loop mesh n list₀ tolerance least k₀ i₀ list k i = Gathering mesh tolerance least list₀ list i k × (length list ≡ length list₀) × (i ≤ n)

abbrev decreases-loop : tie.decreases-loop-i
decreases-loop mesh n list₀ tolerance least k₀ i₀ list k i = n - i

loop-holds : tie.Need-loop-i-init invariant-loop decreases-loop
loop-holds c = (gathering_starts _ _ _ _, refl, omega arith)

gather_one-requires : tie.Need-gather_one-k-requires invariant-loop decreases-loop
gather_one-requires c κs =
    let l = c.before.before.loop-i in
    let f = gathering_fits _ _ _ _ _ l.i _ (omega arith) l.invariant.0 in
    (omega arith, omega arith, omega arith)

loop-again : tie.Need-loop-i-preserved invariant-loop decreases-loop
loop-again c =
    let l = c.before.before.before.before.before.loop-i in
    (gathering_goes _ _ _ _ _ _ l.i _ _ (omega arith) l.invariant.0 c.before.before.gather_one-k.ensures, search rules, omega arith)

returns : tie.Need-returns invariant-loop decreases-loop
returns c =
    let l = c.before.loop-i in
    let e : l.i ≡ c.before.before.before.before.args.n = omega arith in
    let g = rw e at l.invariant.0 in
    (g.number, g.table)

same_length : tie.Need-shape_of-list invariant-loop decreases-loop
same_length c = c.before.loop-i.invariant.1

pub gather_spec : {M : Type 1} → statement M
gather_spec = tie.close (tie.spec invariant-loop decreases-loop loop-holds gather_one-requires (λ c. omega arith) (λ c. omega arith) loop-again same_length returns)
