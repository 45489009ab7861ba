-- `levels::find_levels` meets its contract: the flat ones are gathered, sorted and grouped.
use borrow.Author.Rules.{rules}
use native.Mathlib.Omega.{arith}
use mathlib.Core.Path.{ap, ◌∙◌}
use mathlib.Core.List.{List, map}
use Prim.Native.Nat.{ℕ}
use lib.ListN.{length}
use Rattle.numbers.specs.Reals.{◌⊕◌}
use Rattle.fives.specs.Tables.{written}
use Rattle.levels.specs.Levels.{levels_from, levels_of, five_of}
use Rattle.levels.proofs.Gathering.{gathered_within, flats_few, sorted_front, sorted_whole}
use Rattle.levels.proofs.find_levels.Statement.{statement}
use Rattle.levels.proofs.find_levels.Tie as tie
use Rattle.levels.proofs.find_levels.Reads as reads
use Rattle.levels.proofs.find_levels.Lts as lts
use Rattle.levels.proofs.collect.Reads as collect-reads
use Rattle.levels.proofs.gather.Reads as gather-reads
use Rattle.sort.proofs.sort.Reads as sort-reads

gather-requires : tie.Need-gather-k-requires
gather-requires c κs = search rules

sort-requires : tie.Need-sort-requires
sort-requires c κs =
    let s = c.before.before.before.before.before.before.before.before in
    let g = c.before.before.before.gather-k.ensures in
    (omega arith, gathered_within _ _ _ _ _ _ _ (omega arith) g.0 g.1)

collect-requires : tie.Need-collect-requires
collect-requires c κs =
    let s = c.before.before.before.before.before.before.before.before.before.before.before.before.before in
    let g = c.before.before.before.before.before.before.before.gather-k.ensures in
    let f = flats_few s.args.mesh.now s.args.tolerance (s.args.floor ⊕ s.args.level_tolerance) (length s.args.list.now) in
    (omega (arith, s.requires.0), c.before.before.before.sort.ensures.1, omega (arith, s.requires.1, g.0), omega (arith, s.requires.2))

returns : tie.Need-returns
unfolding levels_of
returns c =
    let s = c.before.before.before.before.before.before.before.before.before.before.before.before.before.before.before.before in
    let g = c.before.before.before.before.before.before.before.before.before.before.gather-k.ensures in
    let t = sorted_front s.args.mesh.now _ s.args.tolerance s.args.level_tolerance s.args.floor _ _ _ _ g.0 g.1
    c.before.before.before.before.before.before.sort.ensures.0 in
    let e = c.before.before.collect.ensures in (
      e.0 ∙ ap (λ (is : List ℕ). written (map five_of (levels_from s.args.mesh.now s.args.boxes.now s.args.level_tolerance is))
          s.args.levels.now) t,
      e.1 ∙ ap (λ (is : List ℕ). length (levels_from s.args.mesh.now s.args.boxes.now s.args.level_tolerance is)) t,
      sorted_whole s.args.mesh.now _ s.args.tolerance s.args.level_tolerance s.args.floor _ _ _ _ g.0 g.1
          c.before.before.before.before.before.before.sort.ensures.0,
    )

pub find_levels_spec : {M : Type 1} → statement M
find_levels_spec = tie.close (tie.spec gather-requires sort-requires collect-requires (λ c. search rules) (λ c. search rules) returns)
