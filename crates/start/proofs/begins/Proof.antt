use borrow.Author.Tests.{not-false}
use mathlib.Core.Path.{sym, ◌∙◌}
use Rattle.rules.proofs.Branches.{no}
use Rattle.start.proofs.begins.Statement.{statement}
use Rattle.start.proofs.begins.Tie as tie

returns-4 : tie.Need-returns
returns-4 c e =
    record {
      over = c.before.if-not-floor-from.false;
      start = sym c.is_start.ensures ∙ e;
      clears = c.before.before.if-not-from-z.false;
      off = c.before.before.before.before.before.is_under.ensures (c.before.before.before.before.if-not-is_under.false);
    }

pub begins_spec : {M : Type 1} → statement M
begins_spec =
    tie.close (tie.spec (λ c κs. tt) (λ c e. absurd (no e)) (λ c e. absurd (no e)) (λ c e. absurd (no e)) (λ c κs. tt) returns-4)
