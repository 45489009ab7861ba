-- `raise::raise`: refused, or the raised mesh with its boxes and header; and an index stays an index.
use Rattle.std.proofs.Common.{rules, ◌≡◌, ap, sym, ◌∙◌, length, arith}
use Rattle.refusals.specs.Numbers.{code_of, told_in}
use Rattle.raise.proofs.Lifting.{lifted_length}
use Rattle.raise.proofs.Afresh.{Passed, passed, high_good, raise_err, raise_ok, raise_promise}
use Rattle.raise.proofs.raise.Goals as goal

pub returns-in_err-refusal-clause-boxes_after : goal.returns-in_err-refusal-clause-boxes_after
unfolding code_of told_in
returns-in_err-refusal-clause-boxes_after c = raise_err _ _ _ _ _ c.in_err-refusal.ensures.code c.in_err-refusal.ensures.place _ (search rules)

pub returns-in_err-refusal-clause-raise_promise : goal.returns-in_err-refusal-clause-raise_promise
returns-in_err-refusal-clause-raise_promise c = raise_promise _ _ _ _ _ _ _ (returns-in_err-refusal-clause-boxes_after c)

pub top_all-requires : goal.top_all-requires
unfolding code_of
top_all-requires c =
    let p = passed _ _ _ _ (sym c.in_ok-refusal.ensures.code) in
    let e = ap length c.lift.ensures ∙ lifted_length c.args.amount c.args.mesh.now in
    (omega (arith, p.nine, e), omega (arith, p.nine, p.five))

pub header_of-requires-clause-n_in_bounds : goal.header_of-requires-clause-n_in_bounds
unfolding code_of
header_of-requires-clause-n_in_bounds c =
    let p = passed _ _ _ _ (sym c.in_ok-refusal.ensures.code) in
    let e = ap length c.lift.ensures ∙ lifted_length c.args.amount c.args.mesh.now in
    omega (arith, p.nine, e)

pub header_of-requires-clause-all_good : goal.header_of-requires-clause-all_good
unfolding code_of
header_of-requires-clause-all_good c =
    let p = passed _ _ _ _ (sym c.in_ok-refusal.ensures.code) in
    rw c.lift.ensures (high_good _ _ p.high)

pub returns-clause-boxes_after : goal.returns-clause-boxes_after
unfolding code_of
returns-clause-boxes_after c = raise_ok _ _ _ _ _ _ _ c.in_ok-refusal.ensures.code c.lift.ensures c.top_all.ensures c.header_of.ensures

pub returns-clause-raise_promise : goal.returns-clause-raise_promise
returns-clause-raise_promise c = raise_promise _ _ _ _ _ _ _ (returns-clause-boxes_after c)
