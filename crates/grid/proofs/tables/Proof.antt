-- `grid::tables` meets its contract, step by step.
use borrow.Author.Rules.{rules}
use Rattle.cells.proofs.Building.{cleared_room, counted_sums, summed_ready, built_starts, built_members}
use Rattle.grid.proofs.tables.Statement.{statement}
use Rattle.grid.proofs.tables.Tie as tie

count_all-requires : tie.Need-count_all-requires
count_all-requires c κs =
    let d = c.before.before.before in
    let s = d.before.before.before.before.before.before in
    (s.requires.0, cleared_room _ _ _ _ _ s.requires.1 _ d.clear.ensures)

sum_up-requires : tie.Need-sum_up-requires
sum_up-requires c κs =
    let e = c.before.before.before in
    let d = e.before.before.before.before in
    let s = d.before.before.before.before.before.before in
    counted_sums _ _ _ _ _ s.requires.1 _ _ d.clear.ensures e.count_all.ensures

fill-requires : tie.Need-fill-requires
fill-requires c κs =
    let f = c.before.before.before.before in
    let e = f.before.before.before.before in
    let d = e.before.before.before.before in
    let s = d.before.before.before.before.before.before in
    (s.requires.0, summed_ready _ _ _ _ _ s.requires.1 _ _ d.clear.ensures e.count_all.ensures _ f.sum_up.ensures)

returns : tie.Need-returns
returns c =
    let g = c.before.before.before.before in
    let f = g.before.before.before.before.before in
    let e = f.before.before.before.before in
    let d = e.before.before.before.before in
    let s = d.before.before.before.before.before.before in
    let p₁ = d.clear.ensures in
    let p₂ = e.count_all.ensures in
    let p₃ = f.sum_up.ensures in
    let p₄ = g.fill.ensures in
    (built_starts _ _ _ _ _ s.requires.1 _ _ p₁ p₂ _ p₃ _ _ p₄, built_members _ _ _ _ _ s.requires.1 _ _ p₁ p₂ _ p₃ _ _ p₄)

pub tables_spec : {M : Type 1} → statement M
tables_spec =
    tie.close
    (tie.spec (λ c. search rules) (λ c. search rules) (λ c κs. search rules) count_all-requires (λ c. search rules) sum_up-requires fill-requires
    (λ c. search rules) (λ c. search rules) returns)
