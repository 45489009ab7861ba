use mathlib.Core.Path.{refl}
use borrow.Author.Rules.{rules}
use Rattle.search.proofs.Directing.{row_some, row_none}
use Rattle.search.proofs.search_row.Statement.{statement}
use Rattle.search.proofs.search_row.Tie as tie

walk_row-requires : tie.Need-walk_row-w-requires
walk_row-requires c κs = let s = c.before.before.before.before.before.before.before.before.before.before in
    (s.requires.0, s.requires.1, s.requires.2, s.requires.4)

returns : tie.Need-returns-then-w
returns c = let e = c.before.before.before.before.before.before.walk_row-w.ensures in (row_some _ _ _ _ _ _ _ _ _ refl refl e.0 c.if-w.true, e.1)

returns-2 : tie.Need-returns
returns-2 c = let e = c.before.before.before.before.before.before.walk_row-w.ensures in (row_none _ _ _ _ _ _ _ _ _ refl refl e.0 c.if-w.false, e.1)

pub search_row_spec : {M : Type 1} → statement M
search_row_spec =
    tie.close (tie.spec (λ c. search rules) walk_row-requires (λ c. search rules) (λ c. search rules) returns (λ c. search rules) (λ c. search rules) returns-2)
