-- `grid::build`: refusals 1, 23, 3, 2 and 4, or what comes next; and what it leaves is an index.
use Rattle.std.proofs.Common.{rules, ◌≡◌, refl, sym, ◌∙◌}
use Rattle.refusals.specs.Numbers.{code_of, told_in}
use Rattle.grid.proofs.Accepting.{built_err, built_next}
use Rattle.grid.proofs.Indexing.{build_promise}
use Rattle.grid.proofs.build.Goals as goal

pub returns-in_err-refusal_of_mesh-clause-boxes_after : goal.returns-in_err-refusal_of_mesh-clause-boxes_after
unfolding code_of told_in
returns-in_err-refusal_of_mesh-clause-boxes_after c =
    built_err _ _ _ _ _ _ _ c.in_err-refusal_of_mesh.ensures.code _ refl c.in_err-refusal_of_mesh.ensures.place _ (search rules)

pub returns-in_err-refusal_of_mesh-clause-build_promise : goal.returns-in_err-refusal_of_mesh-clause-build_promise
returns-in_err-refusal_of_mesh-clause-build_promise c = build_promise _ _ _ _ _ _ _ _ _ _ (returns-in_err-refusal_of_mesh-clause-boxes_after c)

pub build_grid-requires : goal.build_grid-requires
unfolding code_of
build_grid-requires c = sym c.in_ok-refusal_of_mesh.ensures.code

pub returns-clause-boxes_after : goal.returns-clause-boxes_after
unfolding code_of
returns-clause-boxes_after c = built_next _ _ _ _ _ _ _ c.in_ok-refusal_of_mesh.ensures.code _ refl c.build_grid.ensures

pub returns-clause-build_promise : goal.returns-clause-build_promise
returns-clause-build_promise c = build_promise _ _ _ _ _ _ _ _ _ _ (returns-clause-boxes_after c)
