-- `um::fill_grid`: refusal 6, or the tables.
use Rattle.std.proofs.Common.{rules, ◌≡◌, refl, sym, ◌∙◌, arith}
use Rattle.refusals.specs.Numbers.{code_of, told_in}
use Rattle.grid.proofs.Accepting.{members_fit}
use Rattle.um.proofs.Gridding.{fits}
use Rattle.um.proofs.Accepting.{filled_err, filled_ok}
use Rattle.um.proofs.fill_grid.Goals as goal

pub returns-in_err-refusal_of_members : goal.returns-in_err-refusal_of_members
unfolding code_of told_in
returns-in_err-refusal_of_members c =
    filled_err _ _ _ _ _ _ _ c.requires.gridded _ _ c.total.ensures c.in_err-refusal_of_members.ensures.code _ refl c.in_err-refusal_of_members.ensures.place _
    (search rules)

pub tables-requires-clause-fits : goal.tables-requires-clause-fits
unfolding code_of
tables-requires-clause-fits c =
    let m = members_fit _ _ (sym c.in_ok-refusal_of_members.ensures.code) in
    fits _ _ _ c.requires.gridded _ _ c.requires.g_in_bounds (omega (arith, m, c.total.ensures)) (omega (arith, m, c.total.ensures))

pub returns : goal.returns
unfolding code_of
returns c =
    filled_ok _ _ _ _ _ _ _ c.requires.gridded _ _ c.total.ensures c.in_ok-refusal_of_members.ensures.code _ _ refl
    c.tables.ensures.starts_after c.tables.ensures.members_after
