use Rattle.rules.proofs.Branches.{no}
use Rattle.capsule.proofs.Gathering.{le_called}
use Rattle.capsule.proofs.Leaving.{ordinary_size}
use Rattle.capsule.proofs.are_ordinary.Statement.{statement}
use Rattle.capsule.proofs.are_ordinary.Tie as tie

returns : tie.Need-returns-then-abs
returns c e =
    let d = c.before in
    (ordinary_size _ (le_called _ _ _ _ d.before.abs.ensures d.if-abs.true), ordinary_size _ (le_called _ _ _ _ c.abs-then-abs.ensures e))

pub are_ordinary_spec : {M : Type 1} → statement M
are_ordinary_spec = tie.close (tie.spec (λ c κs. tt) (λ c κs. tt) returns (λ c e. absurd (no e)))
