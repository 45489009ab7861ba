use native.Mathlib.Omega.{arith}
use Rattle.rules.proofs.Branches.{branches}
use Rattle.moves.specs.Begin.{are_ids}
use Rattle.moves.proofs.Lines.{ids_none, ids_some}
use Rattle.moves.proofs.are_ids.Statement.{statement}
use Rattle.moves.proofs.are_ids.Tie as tie

returns : tie.Need-returns-then-first_id-eq0
unfolding are_ids
returns c = search branches

returns-2 : tie.Need-returns-then-room-eq0
returns-2 c = ids_none _ _ c.before.if-first_id-eq0.false c.if-room-eq0.true

returns-3 : tie.Need-returns
returns-3 c = ids_some _ _ c.before.if-first_id-eq0.false c.if-room-eq0.false

pub are_ids_spec : {M : Type 1} → statement M
are_ids_spec = tie.close (tie.spec returns (λ c. omega arith) returns-2 (λ c. omega arith) returns-3)
