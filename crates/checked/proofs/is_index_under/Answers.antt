-- `checked::is_index_under` meets its contract.
use Rattle.std.proofs.Common.{rules, ◌≡◌, refl, sym, ◌∙◌, true, false, is_err}
use Rattle.grid.proofs.Accepting.{passed}
use Rattle.checked.proofs.Comparing.{tells_false, fails, tells_as, was_refused, was_passed}
use Rattle.checked.proofs.is_index_under.Goals as goal

pub returns-then-is_err : goal.returns-then-is_err
returns-then-is_err c =
    let e : is_err c.refusal_of_grid.result ≡ true = search rules in
    tells_false _ refl (λ i. was_refused c.refusal_of_grid.result _ c.refusal_of_grid.ensures.code e i.fits)

pub are_tables-requires-clause-gridded : goal.are_tables-requires-clause-gridded
are_tables-requires-clause-gridded c =
    let e : is_err c.refusal_of_grid.result ≡ false = search rules in
    c.requires.gridded (was_passed c.refusal_of_grid.result _ c.refusal_of_grid.ensures.code e)

pub are_tables-requires-clause-g_in_bounds : goal.are_tables-requires-clause-g_in_bounds
are_tables-requires-clause-g_in_bounds c =
    let e : is_err c.refusal_of_grid.result ≡ false = search rules in
    ((passed _ _ _ (was_passed c.refusal_of_grid.result _ c.refusal_of_grid.ensures.code e)).room, c.are_boxes.ensures.0 c.if-not-are_boxes.false)

pub returns : goal.returns
returns c =
    let e : is_err c.refusal_of_grid.result ≡ false = search rules in
    let f = was_passed c.refusal_of_grid.result _ c.refusal_of_grid.ensures.code e in
    let h = c.is_header.ensures.0 c.if-not-is_header.false in
    let x = c.are_boxes.ensures.0 c.if-not-are_boxes.false in
    tells_as _ (λ t. record { fits = f; header = h; boxes = x; tables = t }) (λ i. i.tables) c.are_tables.ensures
