use mathlib.Core.Path.{sym, ◌∙◌}
use Rattle.rules.proofs.Branches.{no, bool_called}
use borrow.Author.Tests.{not-false}
use Rattle.afar.proofs.clears.Statement.{statement}
use Rattle.afar.proofs.clears.Tie as tie

returns-3 : tie.Need-returns-then-fair
returns-3 c e =
    let a = c.before.before.before in
    let b = a.before.before in
    record {
      off = bool_called _ _ _ b.before.is_off.ensures (b.if-not-is_off.false);
      axes = bool_called _ _ _ a.before.axes_fair.ensures (a.if-not-axes_fair.false);
      fair_x = c.before.before.fair.ensures c.before.if-fair.true;
      fair_y = c.fair-then-fair.ensures e;
    }

returns-4 : tie.Need-returns-else-fair
returns-4 c e = absurd (no (sym c.if-fair.false ∙ e))

pub clears_spec : {M : Type 1} → statement M
clears_spec = tie.close (tie.spec (λ c κs. tt) (λ c e. absurd (no e)) (λ c κs. tt) (λ c e. absurd (no e)) (λ c κs. tt) (λ c κs. tt) returns-3 returns-4)
