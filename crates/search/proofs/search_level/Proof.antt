-- `search::search_level` meets its contract: over the header that is handed on, each sample and each piece is decided as over the floor.
use mathlib.Core.Path.{ap}
use borrow.Author.Rules.{rules}
use Rattle.grid.specs.declared.Header.{Header}
use Rattle.search.proofs.Starting.{rows_ask, marks_there, crests_there, level_there}
use Rattle.search.proofs.search_level.Statement.{statement}
use Rattle.search.proofs.search_level.Tie as tie

header_for-requires : tie.Need-header_for-g-requires
header_for-requires c κs =
    let s = c.before.before.before.before.before.before.before.before.before.before.before.before in
    (s.requires.0.nine, s.requires.0.five, s.requires.0.few)

search_rows-requires : tie.Need-search_rows-requires
search_rows-requires c κs =
    let s = c.before.before.before.before.before.before.before.before.before.before.before.before.before.before.before in
    let a = rows_ask _ _ _ _ _ _ c.before.before.header_for-g.ensures.0 _ _ _ _ _ s.requires.0 s.requires.1 s.requires.2 in (
      a.0,
      a.1,
      a.2,
      s.requires.3,
      crests_there s.args.starts.now s.args.members.now s.args.boxes.now s.args.crests.now s.args.h
          c.before.before.header_for-g.ensures.0 s.requires.4,
    )

returns : tie.Need-returns
returns c =
    let d = c.before.before.before.before in
    let g = d.before.before.before in (
      level_there _ _ _ _ _ _ g.header_for-g.ensures.0 _ _ _ _ _ _ _ _ g.before.before.before.before.before.aim_of-a.ensures
          (g.header_for-g.ensures.1
          _ _) d.search_rows.ensures.0,
      marks_there _ _ _ _ (ap (λ (k : Header). k.n) g.header_for-g.ensures.0) d.search_rows.ensures.1,
    )

pub search_level_spec : {M : Type 1} → statement M
search_level_spec = tie.close
    (tie.spec (λ c κs. tt) (λ c κs. tt) (λ c κs. tt) header_for-requires search_rows-requires (λ c. search rules) (λ c. search rules) returns)
