-- `sort::heap` meets its contract: from entry r on the first k entries are a heap. From k / 2 on nothing stands under an entry. r goes down.
use Prim.Native.Nat.{◌≤◌, ◌/◌}
use native.Mathlib.Omega.{arith}
use borrow.Author.Rules.{rules}
use Rattle.sort.specs.Ranks.{before}
use Rattle.sort.specs.Inside.{Rearranged, Heap}
use Rattle.sort.proofs.Counts.{rearranged_none, rearranged_twice}
use Rattle.sort.proofs.Heaps.{within_kept}
use Rattle.sort.proofs.heap.Statement.{statement}
use Rattle.sort.proofs.heap.Tie as tie
use Rattle.sort.proofs.heap.Reads as reads
use Rattle.sort.proofs.heap.Lts as lts
use Rattle.sort.proofs.sift.Reads as sift-reads

abbrev invariant-loop : tie.invariant-loop-r
invariant-loop mesh n list₀ k r₀ list r = Rearranged k list₀ list × Heap (before mesh) r k list × (r ≤ k / 2)

abbrev decreases-loop : tie.decreases-loop-r
decreases-loop mesh n list₀ k r₀ list r = r

loop-holds : tie.Need-loop-r-init invariant-loop decreases-loop
loop-holds c = (rearranged_none _ _, (λ p j a b d e. absurd (omega arith)), search rules)

sift-requires : tie.Need-sift-requires invariant-loop decreases-loop
sift-requires c κs =
    let s = c.before.before.before.before.before in
    let l = c.before.before.loop-r.invariant in
    (s.requires.0, ((within_kept _ _ _ _ s.requires.1 l.0, omega arith), (λ p j a b d e. l.1 p j (omega arith) b d e)))

loop-less : tie.Need-loop-r-smaller invariant-loop decreases-loop
loop-less c = omega arith

loop-again : tie.Need-loop-r-preserved invariant-loop decreases-loop
loop-again c =
    let l = c.before.before.before.before.before.loop-r.invariant in
    (rearranged_twice _ _ _ _ l.0 c.before.before.sift.ensures.0, c.before.before.sift.ensures.1, omega arith)

same_length : tie.Need-shape_of-list invariant-loop decreases-loop
same_length c = c.before.loop-r.invariant.0.size

returns : tie.Need-returns invariant-loop decreases-loop
returns c = let l = c.before.loop-r.invariant in (l.0, (λ p j a b d e. l.1 p j (omega arith) b d e))

pub heap_spec : {M : Type 1} → statement M
heap_spec = tie.close (tie.spec invariant-loop decreases-loop loop-holds (λ c. omega arith) sift-requires loop-less loop-again same_length returns)
