-- `checked::is_header` meets its contract.
use mathlib.Core.Path.{refl, ◌∙◌, sym}
use borrow.Author.Rules.{rules}
use borrow.Author.Tests.{not-true, not-false}
use Rattle.checked.proofs.Comparing.{tells_false, fails, header_is, header_counts, header_places, header_sizes}
use Rattle.checked.proofs.is_header.Statement.{statement}
use Rattle.checked.proofs.is_header.Tie as tie

returns : tie.Need-returns-then-not-same_counts
returns c = tells_false _ refl (λ p. fails _ c.before.same_counts.ensures (c.if-not-same_counts.true) (header_counts _ _ _ _ p))

returns-2 : tie.Need-returns-then-not-same_two
returns-2 c = tells_false _ refl (λ p. fails _ c.before.same_two.ensures (c.if-not-same_two.true) (header_places _ _ _ _ p))

returns-3 : tie.Need-returns
returns-3 c =
    let t = c.same_two-2.ensures in
    let e = c.before.eps.ensures in
    let u = c.before.before.before.same_two.ensures.0 (c.before.before.if-not-same_two.false) in
    let v = c.before.before.before.before.before.same_counts.ensures.0 (c.before.before.before.before.if-not-same_counts.false) in
    (λ q. header_is _ _ _ _ v u ((t.0 q).0, (t.0 q).1 ∙ e), λ p. let z = header_sizes _ _ _ _ p in t.1 (z.0, z.1 ∙ sym e))

pub is_header_spec : {M : Type 1} → statement M
is_header_spec =
    tie.close
    (tie.spec (λ c κs. tt) returns (λ c κs. tt) returns-2 (λ c κs. search rules) (λ c κs. tt) returns-3)
