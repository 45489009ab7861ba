use mathlib.Core.Path.{refl}
use borrow.Author.Rules.{rules}
use Rattle.rules.proofs.Branches.{taken, left}
use Rattle.query.proofs.narrowed.Statement.{statement}
use Rattle.query.proofs.narrowed.Tie as tie

returns : tie.Need-returns-then-listed
returns c = taken _ _ _ _ c.if-listed.true refl

pub narrowed_spec : {M : Type 1} → statement M
narrowed_spec = tie.close (tie.spec returns (λ c. left _ _ _ _ c.if-listed.false refl))
