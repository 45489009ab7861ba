-- `search::search_levels` meets its contract: the levels that are left, taken from where the search stands, give what all levels give from nothing.
use Prim.Native.Nat.{◌-◌, ◌≤◌}
use mathlib.Core.Path.{◌≡◌, refl, sym}
use native.Mathlib.Omega.{arith}
use borrow.Author.Rules.{rules}
use lib.ListN.{length}
use Rattle.grid.specs.Index.{index_of}
use Rattle.probe.specs.Probe.{height_under}
use Rattle.probe.specs.Inside.{Marked}
use Rattle.search.proofs.Sweeping.{Sweeping, sweeping_starts, sweeping_coarse, sweeping_goes, sweeping_ends}
use Rattle.search.proofs.Finding.{searched}
use Rattle.search.proofs.search_levels.Statement.{statement}
use Rattle.search.proofs.search_levels.Tie as tie

abbrev invariant-loop : tie.invariant-loop-m
invariant-loop mesh h starts members boxes marks₀ runs₀ p axis levels count crests s₀ m₀ marks runs s m =
    Sweeping (height_under (index_of mesh h starts members boxes)) p axis h.r levels runs₀ s₀ runs s m count
    × Marked h.n s.stand.stamp marks
    × (m ≤ count)
    × (length marks ≡ length marks₀)
    × (length runs ≡ length runs₀)

abbrev decreases-loop : tie.decreases-loop-m
decreases-loop mesh h starts members boxes marks₀ runs₀ p axis levels count crests s₀ m₀ marks runs s m = count - m

fill-requires : tie.Need-fill-requires invariant-loop decreases-loop
fill-requires c κs =
    let s = c.before.before.before.before.before.before.before.before in
    (s.requires.0.five, s.requires.0.walkable 0 s.args.h.columns 0 s.args.h.rows (omega arith) (omega arith), refl)

slice_aggregate-search_level : tie.Need-slice_bounds-search_level-end invariant-loop decreases-loop
slice_aggregate-search_level c = sym c.before.before.before.before.before.fill.ensures.size

loop-holds : tie.Need-loop-m-init invariant-loop decreases-loop
loop-holds c = (
  sweeping_starts _ _ _ _ _ _ _ _ c.before.before.before.before.before.before.before.before.before.before.before.requires.4,
  c.before.before.before.before.before.before.before.before.before.before.before.requires.1,
  omega arith,
  refl,
  refl,
)

level_at-requires : tie.Need-level_at-requires invariant-loop decreases-loop
level_at-requires c κs = omega (
  arith,
  c.before.before.before.loop-m-test.true,
  c.before.before.before.before.before.before.before.before.before.before.before.before.before.before.before.before.requires.2,
)

search_level-requires : tie.Need-search_level-s-requires invariant-loop decreases-loop
search_level-requires c κs =
    let s = c.before.before.before.before.before.before.before.before.before.before.before.before.before.before.before.before.before in
    let l = c.before.before.before.before.before.loop-m in (
      s.requires.0,
      l.invariant.1,
      sweeping_coarse _ _ _ _ _ _ _ _ _ _ _ _ c.before.before.before.before.loop-m-test.true l.invariant.0 c.level_at.ensures,
      omega (arith, l.invariant.0.few, c.before.before.before.before.loop-m-test.true, s.requires.3),
      c.before.before.before.before.before.before.before.before.fill.ensures,
    )

loop-again : tie.Need-loop-m-preserved invariant-loop decreases-loop
loop-again c =
    let l = c.before.before.before.before.before.before.before.before.before.before.loop-m in
    let e = c.before.before.before.before.search_level-s.ensures in (
      sweeping_goes _ _ _ _ _ _ _ _ _ _ _ _ c.before.before.before.before.before.before.before.before.before.loop-m-test.true
          l.invariant.0 c.before.before.before.before.before.level_at.ensures _ _ e.0,
      e.1,
      omega (arith, c.before.before.before.before.before.before.before.before.before.loop-m-test.true),
      search rules,
      search rules,
    )

returns : tie.Need-returns invariant-loop decreases-loop
returns c =
    let l = c.before.before.before.before.before.before.before.loop-m in
    let e = sweeping_ends _ _ _ _ _ _ _ _ _ l.m _ (omega (arith, c.before.before.before.before.before.before.loop-m-test.false)) l.invariant.0 in (
      searched _ _ _ _ _ _ _ c.before.before.before.before.before.before.before.before.begin.ensures e
          c.before.before.close-tally.ensures,
      l.invariant.1.size,
    )

pub search_levels_spec : {M : Type 1} → statement M
search_levels_spec =
    tie.close
    (tie.spec invariant-loop decreases-loop (λ c. refl) fill-requires (λ c κs. tt) loop-holds slice_aggregate-search_level level_at-requires search_level-requires
    (λ c. omega (
      arith,
      c.before.before.before.before.before.before.before.before.before.loop-m-test.true,
      c.before.before.before.before.before.before.before.before.before.before.before.before.before.before.before.before.before.before.before.before.before.before.requires.3,
    ))
    (λ c. omega (arith, c.before.before.before.before.before.before.before.before.before.loop-m-test.true)) loop-again (λ c κs. tt)
    (λ c. c.before.before.before.before.before.before.before.loop-m.invariant.3) (λ c. search rules) returns)
