use mathlib.Core.Path.{ap, ◌∙◌}
use borrow.Author.Tests.{not-false}
use Rattle.rules.proofs.Branches.{no}
use Rattle.capsule.specs.declared.Place.{Place}
use Rattle.capsule.proofs.is_single.Statement.{statement}
use Rattle.capsule.proofs.is_single.Tie as tie

returns-3 : tie.Need-returns
returns-3 c e =
    let b = c.before.before in
    let a = b.before.before.before in
    let q = a.before.same.ensures (a.if-not-same.false) in
    record {
      x = ap (λ (p : Place). p.x) q;
      y = ap (λ (p : Place). p.y) q;
      right = b.before.same-2.ensures (b.if-not-same-2.false) ∙ b.before.before.flank_at.ensures;
      left = c.same-3.ensures e ∙ c.before.flank_at-2.ensures;
    }

pub is_single_spec : {M : Type 1} → statement M
is_single_spec = tie.close (tie.spec (λ c κs. tt) (λ c e. absurd (no e)) (λ c κs. tt) (λ c κs. tt) (λ c e. absurd (no e)) (λ c κs. tt) (λ c κs. tt) returns-3)
