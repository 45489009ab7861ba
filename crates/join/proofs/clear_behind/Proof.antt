use borrow.Author.Rules.{rules}
use Prim.Native.Nat.{◌*◌}
use native.Mathlib.Omega.{arith}
use Rattle.join.proofs.Tables.{cleared_part}
use Rattle.join.proofs.clear_behind.Statement.{statement}
use Rattle.join.proofs.clear_behind.Tie as tie

returns : tie.Need-returns
returns c =
    let a = c.before.before.before.before.before.args in
    cleared_part (a.n * 5) a.runs.now _ (omega arith) c.before.before.clear.ensures

pub clear_behind_spec : {M : Type 1} → statement M
clear_behind_spec =
    tie.close
    (tie.spec (λ c. search rules) (λ c. search rules) (λ c. search rules) (λ c. search rules) (λ c. search rules) (λ c κs. search rules)
    (λ c. search rules) returns)
