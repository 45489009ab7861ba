-- `um::build_um`: refusals 1, 3, 2 and 4, or what comes next; and what it leaves is an index.
use Rattle.std.proofs.Common.{rules, ◌≡◌, refl, sym, ◌∙◌}
use Rattle.refusals.specs.Numbers.{code_of, told_in}
use Rattle.um.proofs.Accepting.{built_err, built_next}
use Rattle.um.proofs.Indexing.{build_promise}
use Rattle.um.proofs.build_um.Goals as goal

pub returns-in_err-refusal_of_mesh-clause-members_after : goal.returns-in_err-refusal_of_mesh-clause-members_after
unfolding code_of told_in
returns-in_err-refusal_of_mesh-clause-members_after c =
    built_err _ _ _ _ _ _ c.in_err-refusal_of_mesh.ensures.code _ refl c.in_err-refusal_of_mesh.ensures.place _ (search rules)

pub returns-in_err-refusal_of_mesh-clause-build_promise : goal.returns-in_err-refusal_of_mesh-clause-build_promise
returns-in_err-refusal_of_mesh-clause-build_promise c = build_promise _ _ _ _ _ _ _ _ (returns-in_err-refusal_of_mesh-clause-members_after c)

pub build_grid-requires : goal.build_grid-requires
unfolding code_of
build_grid-requires c = sym c.in_ok-refusal_of_mesh.ensures.code

pub returns-clause-members_after : goal.returns-clause-members_after
unfolding code_of
returns-clause-members_after c = built_next _ _ _ _ _ _ c.in_ok-refusal_of_mesh.ensures.code _ refl c.build_grid.ensures

pub returns-clause-build_promise : goal.returns-clause-build_promise
returns-clause-build_promise c = build_promise _ _ _ _ _ _ _ _ (returns-clause-members_after c)
