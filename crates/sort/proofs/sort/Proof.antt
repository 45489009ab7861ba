-- `sort::sort` meets its contract: the first e entries are a heap, and those behind them up to k are sorted and come after all before them. e goes down.
use Prim.Native.Nat.{◌-◌}
use mathlib.Core.Path.{◌∙◌}
use native.Mathlib.Omega.{arith}
use borrow.Author.Rules.{rules}
use Rattle.sort.specs.Ranks.{before}
use Rattle.sort.proofs.Counts.{rearranged_none, rearranged_twice}
use Rattle.sort.proofs.Heaps.{Sorting, sorting_starts, sorting_ready, sorting_goes, within_kept}
use Rattle.sort.proofs.Orders.{sorted_is}
use Rattle.sort.proofs.Ranking.{before_strict}
use Rattle.sort.proofs.sort.Statement.{statement}
use Rattle.sort.proofs.sort.Tie as tie
use Rattle.sort.proofs.sort.Reads as reads
use Rattle.sort.proofs.sort.Lts as lts
use Rattle.sort.proofs.heap.Reads as heap-reads
use Rattle.sort.proofs.sift.Reads as sift-reads
use Rattle.sort.proofs.swap.Reads as swap-reads

abbrev invariant-loop : tie.invariant-loop-e
invariant-loop mesh n list₀ k e₀ list e = Sorting (before mesh) k list₀ list e

abbrev decreases-loop : tie.decreases-loop-e
decreases-loop mesh n list₀ k e₀ list e = e

heap-requires : tie.Need-heap-requires invariant-loop decreases-loop
heap-requires c κs = search rules

loop-holds : tie.Need-loop-e-init invariant-loop decreases-loop
loop-holds c = sorting_starts _ _ _ c.before.before.heap.ensures.1 (rearranged_none _ _)

swap-requires : tie.Need-swap-requires invariant-loop decreases-loop
swap-requires c κs =
    let l = c.before.before.loop-e.invariant in
    let w = within_kept _ _ _ _ c.before.before.before.before.before.before.before.before.before.requires.1
    c.before.before.before.before.before.heap.ensures.0 in
    (omega (arith, w.table, l.few, l.moved.size), omega (arith, w.table, l.few, l.moved.size))

sift-requires : tie.Need-sift-requires invariant-loop decreases-loop
sift-requires c κs =
    let w = within_kept _ _ _ _ c.before.before.before.before.before.before.before.before.before.before.before.before.before.requires.1
    c.before.before.before.before.before.before.before.before.before.heap.ensures.0 in
    let r = sorting_ready _ (before_strict _
    c.before.before.before.before.before.before.before.before.before.before.before.before.shared_slice_known-1.given) _ _ _ _ _
    c.before.before.before.before.before.before.loop-e.e (c.before.before.before.before.before.before.loop-e.e - 1) w
    c.before.before.before.before.before.before.loop-e.invariant (omega arith) c.before.before.before.swap.ensures in
    (c.before.before.before.before.before.before.before.before.before.before.before.before.before.requires.0, ((r.0, omega arith), r.1))

loop-again : tie.Need-loop-e-preserved invariant-loop decreases-loop
loop-again c =
    let w = within_kept _ _ _ _
    c.before.before.before.before.before.before.before.before.before.before.before.before.before.before.before.before.requires.1
    c.before.before.before.before.before.before.before.before.before.before.before.before.heap.ensures.0 in
    sorting_goes _ (before_strict _ c.before.before.before.before.before.before.before.before.before.before.before.before.before.before.before.shared_slice_known-1.given) _ _ _ _ _ c.before.before.before.before.before.before.before.before.before.loop-e.e
    (c.before.before.before.before.before.before.before.before.before.loop-e.e - 1) w
    c.before.before.before.before.before.before.before.before.before.loop-e.invariant (omega arith)
    c.before.before.before.before.before.before.swap.ensures _ c.before.before.sift.ensures.0 c.before.before.sift.ensures.1

same_length : tie.Need-shape_of-list invariant-loop decreases-loop
same_length c = c.before.loop-e.invariant.moved.size ∙ c.before.before.before.before.heap.ensures.0.size

returns : tie.Need-returns invariant-loop decreases-loop
returns c =
    let l = c.before.loop-e.invariant in
    let m = rearranged_twice _ _ _ _ c.before.before.before.before.heap.ensures.0 l.moved in (
      sorted_is _ (before_strict _ c.before.before.before.before.before.before.before.shared_slice_known-1.given) _ _ _
          c.before.before.before.before.before.before.before.before.requires.1.table m (λ a b x y z. l.tail a b x (omega arith) z),
      within_kept _ _ _ _ c.before.before.before.before.before.before.before.before.requires.1 m,
    )

pub sort_spec : {M : Type 1} → statement M
sort_spec =
    tie.close (tie.spec invariant-loop decreases-loop heap-requires loop-holds (λ c. omega arith) swap-requires sift-requires
    (λ c. omega arith) loop-again same_length returns)
