-- `checked::same_counts` meets its contract.
use mathlib.Core.Path.{refl}
use borrow.Author.Tests.{eqb-true, eq-eqb}
use Rattle.checked.proofs.Comparing.{tells_false}
use Rattle.checked.proofs.same_counts.Statement.{statement}
use Rattle.checked.proofs.same_counts.Tie as tie

returns : tie.Need-returns-then-h-n
returns c = tells_false _ refl (λ p. c.if-h-n.true p.0)

returns-2 : tie.Need-returns-then-h-g
returns-2 c = tells_false _ refl (λ p. c.if-h-g.true p.1)

returns-3 : tie.Need-returns
returns-3 c = (λ e. (c.before.before.before.before.before.if-h-n.false, c.before.before.if-h-g.false, eqb-true _ _ e), λ p. eq-eqb _ _ p.2)

pub same_counts_spec : {M : Type 1} → statement M
same_counts_spec = tie.close (tie.spec returns returns-2 returns-3)
