use mathlib.Core.Path.{sym, ◌∙◌}
use Rattle.rules.proofs.Branches.{no}
use Rattle.afar.proofs.Never.{keeps_off}
use Rattle.afar.proofs.keeps_off.Statement.{statement}
use Rattle.afar.proofs.keeps_off.Tie as tie

returns : tie.Need-returns-then-is_beyond
returns c e =
    let s = c.before.before.before in
    keeps_off _ _ _ _ _ _ _ _ _ s.before.side_of-u.ensures s.side_of-v.ensures
    (c.before.before.is_beyond.ensures c.before.if-is_beyond.true) (c.clears.ensures e)

returns-2 : tie.Need-returns-else-is_beyond
returns-2 c e = absurd (no (sym c.if-is_beyond.false ∙ e))

pub keeps_off_spec : {M : Type 1} → statement M
keeps_off_spec = tie.close (tie.spec (λ c κs. tt) (λ c κs. tt) (λ c κs. tt) (λ c κs. tt) returns returns-2)
