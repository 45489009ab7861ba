-- `rooms::in_grid`: the fixed limits of refusals 5 and 6, or the rooms.
use Rattle.std.proofs.Common.{rules, ◌≡◌, refl, sym, ◌∙◌, arith}
use Rattle.refusals.specs.Numbers.{code_of}
use Rattle.grid.specs.Build.{refusal_of_grid}
use Rattle.grid.proofs.Accepting.{Passed, passed}
use Rattle.rooms.specs.Rooms.{told}
use Rattle.rooms.proofs.Asking.{grid_err, members_err, members_some}
use Rattle.rooms.proofs.in_grid.Goals as goal

pub returns-in_err-refusal_of_grid : goal.returns-in_err-refusal_of_grid
unfolding code_of
returns-in_err-refusal_of_grid c = grid_err _ _ _ _ c.in_err-refusal_of_grid.ensures.code _ (search rules)

pub total-members-requires : goal.total-members-requires
unfolding code_of
total-members-requires c = c.requires (sym c.in_ok-refusal_of_grid.ensures.code)

pub returns-in_err-refusal_of_members : goal.returns-in_err-refusal_of_members
unfolding code_of
returns-in_err-refusal_of_members c =
    let e = sym c.in_ok-refusal_of_grid.ensures.code in
    members_err _ _ _ e (c.requires e) _ _ c.total-members.ensures refl _ c.in_err-refusal_of_members.ensures.code _ (search rules)

pub overflow_mul-result : goal.overflow_mul-result
unfolding code_of
overflow_mul-result c = let p = passed _ _ _ (sym c.in_ok-refusal_of_grid.ensures.code) in record { fits = omega (arith, p.few) }

pub overflow_add-result : goal.overflow_add-result
unfolding code_of
overflow_add-result c = let p = passed _ _ _ (sym c.in_ok-refusal_of_grid.ensures.code) in record { fits = omega (arith, p.few) }

pub returns : goal.returns
unfolding code_of told
returns c =
    let e = sym c.in_ok-refusal_of_grid.ensures.code in
    members_some _ _ _ e (c.requires e) _ _ c.total-members.ensures c.in_ok-refusal_of_members.ensures.code refl
