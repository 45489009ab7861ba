-- `sort::sift` meets its contract: everywhere but at entry i the heap stands, and what is over i also stands over what is under i. i goes up.
use Prim.Native.Nat.{◌-◌}
use native.Mathlib.Omega.{arith}
use borrow.Author.Rules.{rules}
use borrow.Author.Tests.{ltb-true, not-true, not-false}
use Rattle.rules.proofs.Branches.{bool_called}
use Rattle.sort.specs.Ranks.{before}
use Rattle.sort.proofs.Counts.{rearranged_none}
use Rattle.sort.proofs.Heaps.{Sifting, Later, later_is, sifting_starts, sifting_goes, sifting_rests, sifting_ends, within_kept}
use Rattle.sort.proofs.Ranking.{before_strict}
use Rattle.sort.proofs.sift.Statement.{statement}
use Rattle.sort.proofs.sift.Tie as tie
use Rattle.sort.proofs.sift.Reads as reads
use Rattle.sort.proofs.sift.Lts as lts
use Rattle.sort.proofs.later.Reads as later-reads
use Rattle.sort.proofs.stands_before.Reads as stands-before-reads
use Rattle.sort.proofs.swap.Reads as swap-reads

abbrev invariant-loop : tie.invariant-loop-i
invariant-loop mesh n list₀ r e i₀ list i = Sifting (before mesh) r e list₀ list i

abbrev decreases-loop : tie.decreases-loop-i
decreases-loop mesh n list₀ r e i₀ list i = e - i

loop-holds : tie.Need-loop-i-init invariant-loop decreases-loop
loop-holds c =
    let s = c.before.before in
    sifting_starts _ (before_strict _ c.before.shared_slice_known-1.given) _ _ _ s.requires.1.0.1 s.requires.1.1 (rearranged_none _ _)

later-requires : tie.Need-later-d-requires invariant-loop decreases-loop
later-requires c κs =
    let s = c.before.before.before.before in
    (s.requires.0, (within_kept _ _ _ _ s.requires.1.0.0 c.before.loop-i.invariant.moved, c.loop-i-test.true))

next : (c : tie.After-later-d invariant-loop decreases-loop)
    → Later (before c.before.before.before.before.before.args.mesh.now) c.before.before.loop-i.list
    c.before.before.loop-i.i c.before.before.before.before.before.args.e c.later-d.result
next c = later_is _ (before_strict _ c.before.before.before.before.shared_slice_known-1.given) _ _ _ _
    c.before.loop-i-test.true c.later-d.ensures

stands_before-requires : tie.Need-stands_before-requires invariant-loop decreases-loop
stands_before-requires c κs =
    let w = within_kept _ _ _ _ c.before.before.before.before.before.requires.1.0.0
    c.before.before.loop-i.invariant.moved in
    let t = (next c).inside in
    let i = c.before.before.loop-i.invariant.inside in (
      c.before.before.before.before.before.requires.0,
      ((omega (arith, w.table, i), omega (arith, w.table, t)), (ltb-true _ _ (w.numbers _ i), ltb-true _ _ (w.numbers _ t))),
    )

same_length : tie.Need-shape_of-list-then-not-stands_before invariant-loop decreases-loop
same_length c = c.before.before.before.before.loop-i.invariant.moved.size

returns : tie.Need-returns-then-not-stands_before invariant-loop decreases-loop
returns c =
    let l = c.before.before.before.before.loop-i.invariant in (
      l.moved,
      sifting_rests _ (before_strict _ c.before.before.before.before.before.before.shared_slice_known-1.given) _ _ _ _ _ _ l
          (next c.before.before) (bool_called _ _ _ c.before.stands_before.ensures (c.if-not-stands_before.true)),
    )

swap-requires : tie.Need-swap-requires invariant-loop decreases-loop
swap-requires c κs =
    let l = c.before.before.before.before.before.loop-i.invariant in
    let w = within_kept _ _ _ _ c.before.before.before.before.before.before.before.before.requires.1.0.0 l.moved in
    (omega (arith, w.table, l.inside), omega (arith, w.table, (next c.before.before.before).inside))

loop-less : tie.Need-loop-i-smaller invariant-loop decreases-loop
loop-less c = let t = next c.before.before.before.before.before.before in omega (arith, t.low, t.inside)

loop-again : tie.Need-loop-i-preserved invariant-loop decreases-loop
loop-again c =
    let l = c.before.before.before.before.before.before.before.before.loop-i.invariant in
    let w = within_kept _ _ _ _
    c.before.before.before.before.before.before.before.before.before.before.before.requires.1.0.0 l.moved in
    rw c.before.before.swap.ensures
    (sifting_goes _ (before_strict _
    c.before.before.before.before.before.before.before.before.before.before.shared_slice_known-1.given) _ _ _ _ _ _
    w.table l (next c.before.before.before.before.before.before) (bool_called _ _ _
    c.before.before.before.before.before.stands_before.ensures (c.before.before.before.before.if-not-stands_before.false)))

same_length-2 : tie.Need-shape_of-list invariant-loop decreases-loop
same_length-2 c = c.before.loop-i.invariant.moved.size

returns-2 : tie.Need-returns invariant-loop decreases-loop
returns-2 c =
    let l = c.before.loop-i in
    (l.invariant.moved, sifting_ends _ (before_strict _ c.before.before.before.shared_slice_known-1.given) _ _ _ _ _ l.invariant c.loop-i-test.false)

pub sift_spec : {M : Type 1} → statement M
sift_spec =
    tie.close
    (tie.spec
    invariant-loop
    decreases-loop
    loop-holds
    (λ c. search rules)
    (λ c. search rules)
    (λ c. search rules)
    (λ c. search rules)
    later-requires
    stands_before-requires
    same_length
    returns
    swap-requires
    loop-less
    loop-again
    same_length-2
    returns-2)
