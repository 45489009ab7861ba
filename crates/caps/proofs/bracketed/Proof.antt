use mathlib.Core.Path.{sym, subst, ◌∙◌}
use lib.Dec.{T}
use Rattle.rules.proofs.Branches.{no}
use Rattle.caps.proofs.bracketed.Statement.{statement}
use Rattle.caps.proofs.bracketed.Tie as tie

returns : tie.Need-returns-then-a-x2
returns c =
    let s = c.before.before.before in
    λ e. record {
      fit_a = subst T (sym s.well_formed.0.1) tt;
      fit_b = subst T (sym s.well_formed.1.0.1) tt;
      fit_x1 = subst T (sym s.well_formed.1.1.0.1) tt;
      fit_x2 = subst T (sym s.well_formed.1.1.1.0.1) tt;
      low_x1 = c.before.before.if-a-x1.true;
      high_x1 = c.before.if-x1-b.true;
      low_x2 = c.if-a-x2.true;
      high_x2 = e;
    }

returns-2 : tie.Need-returns-else-a-x2
returns-2 c = λ e. absurd (no (sym c.if-a-x2.false ∙ e))

returns-3 : tie.Need-returns-else-x1-b
returns-3 c = λ e. absurd (no (sym c.if-x1-b.false ∙ e))

returns-4 : tie.Need-returns-else-a-x1
returns-4 c = λ e. absurd (no (sym c.if-a-x1.false ∙ e))

pub bracketed_spec : {M : Type 1} → statement M
bracketed_spec = tie.close (tie.spec returns returns-2 returns-3 returns-4)
