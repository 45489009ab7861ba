use Rattle.apart.proofs.Farther.{le_called, all_fine}
use Rattle.apart.proofs.fine.Statement.{statement}
use Rattle.apart.proofs.fine.Tie as tie

returns : tie.Need-returns
returns c e = all_fine _ _ _ _ _ (le_called _ _ _ _ c.abs.ensures e)

pub fine_spec : {M : Type 1} → statement M
fine_spec = tie.close (tie.spec (λ c κs. tt) returns)
