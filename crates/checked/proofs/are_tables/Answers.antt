-- `checked::are_tables` meets its contract.
use Rattle.std.proofs.Common.{rules, ◌≡◌, refl, true, false, is_err}
use Rattle.checked.proofs.Comparing.{tells_false, was_refused, was_passed}
use Rattle.checked.proofs.Tabling.{boxed, no_room, other_start, other_end, tables_tell}
use Rattle.checked.proofs.are_tables.Goals as goal

pub returns-then-is_err : goal.returns-then-is_err
returns-then-is_err c =
    let e : is_err c.refusal_of_members.result ≡ true = search rules in
    tells_false _ refl (no_room _ _ _ _ c.requires.gridded c.requires.g_in_bounds.1 _ _ _ _ c.total-t.ensures refl
    (was_refused c.refusal_of_members.result _ c.refusal_of_members.ensures.code e))

pub returns-then-starts-ne0 : goal.returns-then-starts-ne0
returns-then-starts-ne0 c =
    tells_false _ refl (other_start _ _ _ _ c.requires.gridded c.requires.g_in_bounds.1 _ _ _ _ c.total-t.ensures refl c.if-starts-ne0.true)

pub returns-then-starts-g : goal.returns-then-starts-g
returns-then-starts-g c =
    tells_false _ refl (other_end _ _ _ _ c.requires.gridded c.requires.g_in_bounds.1 _ _ _ _ c.total-t.ensures refl c.if-starts-g.true)

pub cells_hold-requires-clause-boxed : goal.cells_hold-requires-clause-boxed
cells_hold-requires-clause-boxed c = boxed _ _ _ _ c.requires.gridded c.requires.g_in_bounds.1

pub returns : goal.returns
returns c =
    let e : is_err c.refusal_of_members.result ≡ false = search rules in
    tables_tell _ _ _ _ c.requires.gridded c.requires.g_in_bounds.1 _ _ _ _ c.total-t.ensures refl
    (was_passed c.refusal_of_members.result _ c.refusal_of_members.ensures.code e) c.requires.g_in_bounds.0 c.if-starts-ne0.false c.if-starts-g.false _
    c.cells_hold.ensures
