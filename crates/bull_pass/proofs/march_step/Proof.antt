use Rattle.bull_pass.proofs.Marching.{step_under, step_over}
use Rattle.bull_pass.proofs.march_step.Statement.{statement}
use Rattle.bull_pass.proofs.march_step.Tie as tie

returns : tie.Need-returns-then-piece_under
returns c = step_under _ _ _ _ _ c.before.before.min-hi.ensures c.before.piece_under.ensures c.if-piece_under.true

returns-2 : tie.Need-returns
returns-2 c = step_over _ _ _ _ _ c.before.before.min-hi.ensures c.before.piece_under.ensures c.if-piece_under.false

pub march_step_spec : {M : Type 1} → statement M
march_step_spec = tie.close (tie.spec (λ c κs. tt) (λ c κs. tt) returns returns-2)
