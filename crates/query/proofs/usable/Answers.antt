-- `query::usable` meets its contract: the header passes and then the cells, and what they listed stands for the question's.
use Rattle.std.proofs.Common.{sym, ◌∙◌, arith}
use Rattle.std.proofs.lemmas.Option.{IfSome_then}
use Rattle.rules.proofs.Branches.{branches, bool_called}
use Rattle.header.proofs.Ranges.{headed_is}
use Rattle.query.specs.Usable.{usable}
use Rattle.query.proofs.Using.{rows_room}
use Rattle.query.proofs.Recent.{none_tested}
use Rattle.query.proofs.Gathering.{gathered_none}
use Rattle.query.proofs.Looks.{usable_promise}
use Rattle.query.proofs.usable.Goals as goal

pub cells_usable-requires : goal.cells_usable-requires
cells_usable-requires c =
    let r = c.requires in
    let d = headed_is _ _ _ (sym c.head_usable.ensures ∙ c.if-head_usable.true) in (
      d.ranged.few,
      d.nine,
      omega (arith, d.nine, r.0),
      r.1,
      rows_room _ _ _ _ d r.2,
      omega (arith, d.nine, r.0, r.3),
      r.4,
      none_tested _,
    )

pub returns-then-head_usable-clause-usable_value : goal.returns-then-head_usable-clause-usable_value
unfolding usable
returns-then-head_usable-clause-usable_value c = let e = c.cells_usable.ensures.0 in search (branches, bool_called, e)

pub returns-then-head_usable-clause-usable_promise : goal.returns-then-head_usable-clause-usable_promise
unfolding usable
returns-then-head_usable-clause-usable_promise c =
    let e = c.cells_usable.ensures.0 in
    usable_promise _ _ _ _ _ (search (branches, bool_called, e)) c.requires.0 c.requires.1 c.requires.2

pub returns-then-head_usable-clause-stands_for : goal.returns-then-head_usable-clause-stands_for
returns-then-head_usable-clause-stands_for c =
    IfSome_then c.cells_usable.result c.cells_usable.ensures.1 (λ n t few. (t.1 _ (gathered_none _ _ c.requires.4)).listed few)

pub returns-else-head_usable-clause-usable_value : goal.returns-else-head_usable-clause-usable_value
unfolding usable
returns-else-head_usable-clause-usable_value c = search (branches, bool_called)

pub returns-else-head_usable-clause-usable_promise : goal.returns-else-head_usable-clause-usable_promise
unfolding usable
returns-else-head_usable-clause-usable_promise c =
    usable_promise _ _ _ _ _ (search (branches, bool_called)) c.requires.0 c.requires.1 c.requires.2
