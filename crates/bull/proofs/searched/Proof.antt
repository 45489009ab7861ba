use Rattle.bull.proofs.Taking.{taken_at}
use Rattle.bull.proofs.searched.Statement.{statement}
use Rattle.bull.proofs.searched.Tie as tie

returns : tie.Need-returns
returns c = taken_at _ _ _ _ _ _ c.before.before.limit.ensures c.before.search.ensures c.take.ensures

pub searched_spec : {M : Type 1} → statement M
searched_spec = tie.close (tie.spec (λ c κs. tt) (λ c κs. c.before.requires) (λ c κs. tt) returns)
