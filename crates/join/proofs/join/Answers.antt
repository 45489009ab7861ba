use Rattle.std.proofs.Common.{arith}
use Rattle.refusals.specs.Numbers.{code_of}
use Rattle.refusals.proofs.Named.{passed_on}
use Rattle.join.proofs.Answering.{fit, refused, joined, promised}
use Rattle.join.proofs.join.Goals as goal

pub returns-in_err-refusal : goal.returns-in_err-refusal
unfolding code_of
returns-in_err-refusal c =
    let a = c.from_residual.result in
    let r = c.in_err-refusal.field-0.0 in
    let e = passed_on a r c.from_residual.ensures.1 in
    let (p, (q, w)) = promised _ _ (refused _ a r e c.in_err-refusal.ensures) in
    record { runs_after = p; handed_on = q; whenever_joined = w }

pub clear_behind-requires : goal.clear_behind-requires
clear_behind-requires c = omega (arith, fit c.args.runs.now, c.join_all-count.ensures.1)

pub returns : goal.returns
unfolding code_of
returns c =
    let (p, (q, w)) = promised _ _ (joined _ _ _ _ c.in_ok-refusal.ensures c.join_all-count.ensures.0 c.join_all-count.ensures.1 c.clear_behind.ensures) in
    record { runs_after = p; handed_on = q; whenever_joined = w }
