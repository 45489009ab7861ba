use Prim.Native.Nat.{◌-◌}
use mathlib.Core.Path.{◌∙◌, refl}
use native.Mathlib.Omega.{arith}
use borrow.Author.Rules.{rules}
use borrow.Author.Tests.{le-leb, lt-leb}
use mir.Syntax.{w32}
use mir.ValLaws.{to_z_pos}
use Rattle.rules.proofs.Branches.{taken, left}
use Rattle.micro.specs.Micro.{number_of}
use Rattle.micro.proofs.Signed.{below_fits, below_read}
use Rattle.micro.proofs.number.Statement.{statement}
use Rattle.micro.proofs.number.Tie as tie

returns : tie.Need-returns-then-k-ge2147483648
unfolding number_of
returns c = to_z_pos w32 _ (omega arith) ∙ taken _ _ _ _ (le-leb _ _ c.if-k-ge2147483648.true) refl

returns-2 : tie.Need-returns
unfolding number_of
returns-2 c = below_read (2147483647 - c.before.args.k) (omega arith) ∙ left _ _ _ _ (lt-leb _ _ c.if-k-ge2147483648.false) refl

pub number_spec : {M : Type 1} → statement M
number_spec = tie.close (tie.spec (λ c. search rules) returns (λ c. search rules) (λ c. search rules)
    (λ c. below_fits (2147483647 - c.before.args.k) (omega arith)) returns-2)
