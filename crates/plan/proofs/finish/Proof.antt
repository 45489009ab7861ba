use borrow.Author.Rules.{rules}
use mathlib.Core.Path.{ap, ◌∙◌}
use Prim.Native.Nat.{ℕ}
use lib.ListN.{replicate}
use Rattle.plan.specs.Plan.{found_on}
use Rattle.plan.proofs.Answering.{finished_is}
use Rattle.plan.proofs.finish.Statement.{statement}
use Rattle.plan.proofs.finish.Tie as tie

returns : tie.Need-returns
unfolding found_on
returns c =
    let d = c.before.before.before.before in
    let w = d.before.before.before.before.before in
    let y = w.before.before.before.before.before.before in (
      d.settle.ensures ∙ finished_is _ _ _ _ _ _ y.search_levels-y.ensures.0,
      w.wipe.ensures
          ∙ ap (λ (n : ℕ). replicate n 0) y.search_levels-y.ensures.1,
    )

pub finish_spec : {M : Type 1} → statement M
finish_spec =
    tie.close (tie.spec (λ c κs. search rules) (λ c κs. tt) (λ c κs. tt) (λ c. search rules) (λ c. search rules) (λ c. search rules) returns)
