-- `search::search_rows` meets its contract: the rows that are left, taken from where the search stands, give what all rows of the level give from its start.
use Prim.Native.Nat.{◌-◌, ◌≤◌}
use mathlib.Core.Path.{◌≡◌, refl}
use native.Mathlib.Omega.{arith}
use borrow.Author.Rules.{rules}
use lib.ListN.{length}
use Rattle.grid.specs.Index.{index_of}
use Rattle.probe.specs.Probe.{height_under}
use Rattle.probe.specs.Inside.{Marked}
use Rattle.row_runs.specs.Search.{lane_of}
use Rattle.search.proofs.Directing.{Laning, laning_starts, laning_goes, laning_ends, coarse_rows, coarse_samples, level_is}
use Rattle.search.proofs.search_rows.Statement.{statement}
use Rattle.search.proofs.search_rows.Tie as tie

abbrev invariant-loop : tie.invariant-loop-row
invariant-loop mesh h starts members boxes crests marks₀ runs₀ p axis level r a rows e₀ row₀ marks runs e row =
    Laning (height_under (index_of mesh h starts members boxes)) a (lane_of p axis r level) runs₀ e₀ runs e row rows
    × Marked h.n e.stand.stamp marks
    × (row ≤ rows)
    × (length marks ≡ length marks₀)
    × (length runs ≡ length runs₀)

abbrev decreases-loop : tie.decreases-loop-row
decreases-loop mesh h starts members boxes crests marks₀ runs₀ p axis level r a rows e₀ row₀ marks runs e row = rows - row

-- a level that is coarse has few rows
few : (c : tie.After-intervals-rows invariant-loop decreases-loop) → c.intervals-rows.result ≤ 65535
few c = coarse_rows _ _ _ _ _ _ c.before.spread_of.ensures c.intervals-rows.ensures
    c.before.before.before.before.before.before.before.before.before.before.requires.2

loop-holds : tie.Need-loop-row-init invariant-loop decreases-loop
loop-holds c = (laning_starts _ _ _ _ _ _, c.before.before.before.before.before.before.before.before.before.before.requires.1, omega arith, refl, refl)

search_row-requires : tie.Need-search_row-e-requires invariant-loop decreases-loop
search_row-requires c κs =
    let s = c.before.before.before.before.before.before.before.before.before.before.before.before.before.before.before in
    let l = c.before.before.before.before.loop-row in (
      s.requires.0,
      l.invariant.1,
      coarse_samples _ _ _ _ _ _ c.lane_of.ensures s.requires.2,
      omega (arith, l.invariant.0.few, s.requires.3, few c.before.before.before.before.before, c.before.before.before.loop-row-test.true),
      s.requires.4,
    )

loop-again : tie.Need-loop-row-preserved invariant-loop decreases-loop
loop-again c =
    let l = c.before.before.before.before.before.before.before.before.before.loop-row in
    let e = c.before.before.before.before.search_row-e.ensures in (
      laning_goes _ _ _ _ _ _ _ _ _ _ _ _ c.before.before.before.before.before.before.before.before.loop-row-test.true
          l.invariant.0 c.before.before.before.before.before.lane_of.ensures e.0,
      e.1,
      omega (arith, c.before.before.before.before.before.before.before.before.loop-row-test.true),
      search rules,
      search rules,
    )

returns : tie.Need-returns invariant-loop decreases-loop
returns c =
    let l = c.before.loop-row in (
      level_is _ _ _ _ _ _ _ _ _ _ _ _ c.before.before.before.before.aim_of-a.ensures c.before.before.before.spread_of.ensures
          c.before.before.intervals-rows.ensures (laning_ends _ _ _ _ _ _ _ l.row _ (omega (arith, c.loop-row-test.false)) l.invariant.0),
      l.invariant.1,
    )

pub search_rows_spec : {M : Type 1} → statement M
search_rows_spec =
    tie.close
    (tie.spec invariant-loop decreases-loop (λ c κs. tt) (λ c κs. tt) (λ c κs. tt) (λ c. omega (arith, few c)) loop-holds (λ c κs. tt) search_row-requires
    (λ c. omega (
      arith,
      c.before.before.before.before.before.before.before.before.loop-row-test.true,
      few c.before.before.before.before.before.before.before.before.before.before,
    )) (λ c. omega (
      arith,
      c.before.before.before.before.before.before.before.before.loop-row-test.true,
    )) loop-again (λ c. search rules) (λ c. search rules) returns)
