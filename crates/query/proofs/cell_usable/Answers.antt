-- `query::cell_usable` meets its contract: a test for each conjunct.
use Rattle.rules.proofs.Branches.{branches}
use Rattle.query.specs.Usable.{cell_usable}
use Rattle.query.proofs.cell_usable.Goals as goal

pub returns-then-e-a : goal.returns-then-e-a
unfolding cell_usable
returns-then-e-a c = (search branches, tt)

pub returns-then-members-e : goal.returns-then-members-e
unfolding cell_usable
returns-then-members-e c = (search branches, tt)

pub returns : goal.returns
unfolding cell_usable
returns c =
    let e = c.members_usable.ensures in
    let f = e.0 in
    (search (branches, f), e.1)
