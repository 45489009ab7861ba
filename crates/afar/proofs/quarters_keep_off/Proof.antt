use borrow.Author.Tests.{not-false}
use Rattle.rules.proofs.Branches.{no}
use Rattle.afar.proofs.quarters_keep_off.Statement.{statement}
use Rattle.afar.proofs.quarters_keep_off.Tie as tie

returns-4 : tie.Need-returns
returns-4 c e =
    let a = c.before in
    let b = a.before.before in
    let d = b.before.before in
    record {
      one = d.before.keeps_off.ensures (d.if-not-keeps_off.false);
      two = b.before.keeps_off-2.ensures (b.if-not-keeps_off-2.false);
      three = a.before.keeps_off-3.ensures (a.if-not-keeps_off-3.false);
      four = c.keeps_off-4.ensures e;
    }

pub quarters_keep_off_spec : {M : Type 1} → statement M
quarters_keep_off_spec =
    tie.close
    (tie.spec (λ c κs. tt) (λ c e. absurd (no e)) (λ c κs. tt) (λ c e. absurd (no e)) (λ c κs. tt) (λ c e. absurd (no e)) (λ c κs. tt) returns-4)
