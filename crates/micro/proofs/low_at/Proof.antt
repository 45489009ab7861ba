use mathlib.Core.Path.{◌∙◌, ap₂}
use Prim.Native.Nat.{min}
use borrow.Author.Rules.{rules}
use Rattle.micro.specs.Micro.{low_at}
use Rattle.micro.proofs.low_at.Statement.{statement}
use Rattle.micro.proofs.low_at.Tie as tie

returns : tie.Need-returns
unfolding low_at
returns c =
    let l = c.before.before in
    let b = l.before in
    c.lower-2.ensures ∙ ap₂ min (l.lower.ensures ∙ ap₂ min b.before.number_at.ensures.0 b.number_at-2.ensures.0)
    c.before.number_at-3.ensures.0

pub low_at_spec : {M : Type 1} → statement M
low_at_spec = tie.close (tie.spec (λ c κs. search rules) (λ c. search rules) (λ c κs. search rules) (λ c κs. tt) (λ c. search rules)
    (λ c κs. search rules) (λ c κs. tt) returns)
