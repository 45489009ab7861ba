use borrow.Author.Rules.{rules}
use Rattle.start.proofs.Scanning.{apart_high, apart_low}
use Rattle.start.proofs.is_apart.Statement.{statement}
use Rattle.start.proofs.is_apart.Tie as tie

returns : tie.Need-returns-then-b-from
returns c e =
    apart_low _ _ _ _ _ _ _ c.before.before.before.before.before.before.before.requires.2 c.before.triangle_at.ensures c.lies_low.ensures e

returns-2 : tie.Need-returns
returns-2 c e = apart_high _ _ _ _ _ c.before.before.box_at-b.ensures c.if-b-from.false

pub is_apart_spec : {M : Type 1} → statement M
is_apart_spec = tie.close (tie.spec (λ c κs. search rules) (λ c κs. search rules) (λ c κs. tt) returns returns-2)
