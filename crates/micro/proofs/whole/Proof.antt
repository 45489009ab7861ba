use Prim.Native.Nat.{◌-◌}
use mathlib.Core.Path.{◌∙◌, refl}
use native.Mathlib.Omega.{arith}
use borrow.Author.Rules.{rules}
use borrow.Author.Tests.{lt-ltb, le-ltb}
use mir.Syntax.{w32}
use mir.ValLaws.{to_z_pos}
use Rattle.rules.proofs.Branches.{taken, left}
use Rattle.micro.specs.Micro.{whole_of}
use Rattle.micro.proofs.Signed.{below_fits, below_read}
use Rattle.micro.proofs.whole.Statement.{statement}
use Rattle.micro.proofs.whole.Tie as tie

returns : tie.Need-returns-then-bits-lt2147483648
unfolding whole_of
returns c = to_z_pos w32 _ c.if-bits-lt2147483648.true ∙ taken _ _ _ _ (lt-ltb _ _ c.if-bits-lt2147483648.true) refl

returns-2 : tie.Need-returns
unfolding whole_of
returns-2 c = below_read (4294967295 - c.before.args.bits) (omega arith) ∙ left _ _ _ _ (le-ltb _ _ c.if-bits-lt2147483648.false) refl

pub whole_spec : {M : Type 1} → statement M
whole_spec = tie.close (tie.spec (λ c. search rules) returns (λ c. search rules) (λ c. search rules)
    (λ c. below_fits (4294967295 - c.before.args.bits) (omega arith)) returns-2)
