use mathlib.Core.Path.{sym, ◌∙◌, subst}
use lib.Dec.{T}
use Rattle.rules.proofs.Branches.{no, bool_called}
use Rattle.afar.proofs.fair.Statement.{statement}
use Rattle.afar.proofs.fair.Tie as tie

returns : tie.Need-returns-then-fine
returns c e =
    let s = c.before.before.before in
    record {
      fine = c.before.before.fine.ensures c.before.if-fine.true;
      tame = bool_called _ _ _ c.side_tame.ensures e;
      fit_a = subst T (sym s.well_formed.0.1) tt;
      fit_b = subst T (sym s.well_formed.1.0.1) tt;
      fit_c = subst T (sym s.well_formed.1.1.0.1) tt;
      fit_p = subst T (sym s.well_formed.1.1.1.0.1) tt;
    }

returns-2 : tie.Need-returns-else-fine
returns-2 c e = absurd (no (sym c.if-fine.false ∙ e))

pub fair_spec : {M : Type 1} → statement M
fair_spec = tie.close (tie.spec (λ c κs. tt) (λ c κs. tt) returns returns-2)
