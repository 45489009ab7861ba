use mathlib.Core.Path.{◌∙◌, ap₂}
use Prim.Native.Nat.{max}
use native.Mathlib.Omega.{arith}
use borrow.Author.Rules.{rules}
use Rattle.micro.specs.Micro.{high_at}
use Rattle.micro.proofs.high_at.Statement.{statement}
use Rattle.micro.proofs.high_at.Tie as tie

returns : tie.Need-returns
unfolding high_at
returns c =
    let l = c.before.before in
    let b = l.before in (
      c.higher-2.ensures ∙ ap₂ max (l.higher.ensures ∙ ap₂ max b.before.number_at.ensures.0 b.number_at-2.ensures.0)
          c.before.number_at-3.ensures.0,
      omega (arith, c.higher-2.ensures, l.higher.ensures, b.before.number_at.ensures.1, b.number_at-2.ensures.1, c.before.number_at-3.ensures.1),
    )

pub high_at_spec : {M : Type 1} → statement M
high_at_spec = tie.close (tie.spec (λ c κs. search rules) (λ c. search rules) (λ c κs. search rules) (λ c κs. tt) (λ c. search rules)
    (λ c κs. search rules) (λ c κs. tt) returns)
