-- `row_runs::walk_row` meets its contract: what is left of the row, taken from where it stands, gives what the whole row gives from its start.
use Prim.Native.Nat.{◌+◌, ◌-◌, ◌≤◌}
use mathlib.Core.Path.{◌≡◌, refl}
use native.Mathlib.Omega.{arith}
use borrow.Author.Rules.{rules}
use lib.ListN.{length}
use Rattle.grid.specs.Index.{index_of}
use Rattle.runs.specs.Inside.{work}
use Rattle.probe.specs.Probe.{height_under}
use Rattle.probe.specs.Inside.{Marked}
use Rattle.row_runs.proofs.Walking.{Rowing, rowing_starts, rowing_goes, rowing_ends}
use Rattle.row_runs.proofs.walk_row.Statement.{statement}
use Rattle.row_runs.proofs.walk_row.Tie as tie

abbrev invariant-loop : tie.invariant-loop-j
invariant-loop mesh h starts members boxes crests marks₀ runs₀ a l forward samples w₀ j₀ j-end marks runs w j =
    Rowing (height_under (index_of mesh h starts members boxes)) a l forward (work runs₀ w₀.stand.tally) runs w j
    × Marked h.n w.stand.stamp marks
    × (j ≤ j-end)
    × (j-end ≡ l.samples + 1)
    × (samples ≡ l.samples)
    × (length marks ≡ length marks₀)
    × (length runs ≡ length runs₀)

abbrev decreases-loop : tie.decreases-loop-j
decreases-loop mesh h starts members boxes crests marks₀ runs₀ a l forward samples w₀ j₀ j-end marks runs w j = j-end - j

loop-holds : tie.Need-loop-j-init invariant-loop decreases-loop
loop-holds c = (rowing_starts _ _ _ _ _ _, c.before.before.before.before.before.before.before.requires.1, omega arith, refl, refl, refl, refl)

advance-requires : tie.Need-advance-w-requires invariant-loop decreases-loop
advance-requires c κs =
    let s = c.before.before.before.before.before.before.before.before.before.before.before in
    let l = c.before.before.before.loop-j in
    (s.requires.0, l.invariant.1, l.invariant.0.low, omega (arith, c.before.before.loop-j-test.true, l.invariant.3), s.requires.2, s.requires.3)

loop-again : tie.Need-loop-j-preserved invariant-loop decreases-loop
loop-again c =
    let l = c.before.before.before.before.before.before.before.before.loop-j in
    let e = c.before.before.before.before.advance-w.ensures in (
      rowing_goes _ _ _ _ _ _ _ l.w _ l.j
          (omega (arith, c.before.before.before.before.before.before.before.loop-j-test.true, l.invariant.3)) l.invariant.0 e.0,
      e.1,
      omega (arith, c.before.before.before.before.before.before.before.loop-j-test.true),
      l.invariant.3,
      l.invariant.4,
      search rules,
      search rules,
    )

end_stretch-requires : tie.Need-end_stretch-requires invariant-loop decreases-loop
end_stretch-requires c κs =
    let l = c.before.before.before.loop-j in
    let s = c.before.before.before.before.before.before.before.before.before.before.before in
    (s.requires.0, l.invariant.1, omega (arith, l.invariant.0.low, l.invariant.2, l.invariant.3, l.invariant.4), omega (arith, l.invariant.4), s.requires.3)

returns : tie.Need-returns invariant-loop decreases-loop
returns c =
    let l = c.before.before.before.before.before.before.before.before.loop-j in
    let s = c.before.before.before.before.before.before.before.before.before.before.before.before.before.before.before.before in
    let e : l.j ≡ s.args.l.samples + 1 = omega (arith, c.before.before.before.before.before.before.before.loop-j-test.false, l.invariant.2, l.invariant.3) in
    let r = c.before.before.before.before.end_stretch.ensures in
    (rowing_ends _ _ _ _ _ _ _ _ l.w _ (s.args.l.samples + 1) (omega arith) (rw e at l.invariant.0) r.0, r.1)

pub walk_row_spec : {M : Type 1} → statement M
walk_row_spec =
    tie.close
    (tie.spec invariant-loop decreases-loop (λ c. omega (arith, c.before.before.before.before.before.before.before.requires.2)) loop-holds advance-requires
    (λ c. let l = c.before.before.before.before.before.before.before.before.loop-j in
    omega (
      arith,
      c.before.before.before.before.before.before.before.loop-j-test.true,
      l.invariant.3,
      c.before.before.before.before.before.before.before.before.before.before.before.before.before.before.before.before.requires.2,
    ))
    (λ c. omega (arith, c.before.before.before.before.before.before.before.loop-j-test.true)) loop-again
    (λ c. omega (
      arith,
      c.before.before.before.loop-j.invariant.4,
      c.before.before.before.before.before.before.before.before.before.before.before.requires.2,
    )) end_stretch-requires (λ c. search rules)
    (λ c. search rules) returns)
