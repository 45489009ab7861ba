use borrow.Author.Rules.{rules}
use Rattle.micro.specs.Micro.{box_of}
use Rattle.micro.proofs.box_of.Statement.{statement}
use Rattle.micro.proofs.box_of.Tie as tie

returns : tie.Need-returns
unfolding box_of
returns c =
    let d = c.before.before in (
      rw (d.before.before.low_at.ensures, d.before.low_at-2.ensures, d.high_at.ensures.0, c.before.high_at-2.ensures.0, c.high_at-3.ensures.0),
      d.high_at.ensures.1,
      c.before.high_at-2.ensures.1,
      c.high_at-3.ensures.1,
    )

pub box_of_spec : {M : Type 1} → statement M
box_of_spec = tie.close (tie.spec (λ c. search rules) (λ c κs. search rules) (λ c. search rules) (λ c κs. search rules) (λ c κs. search rules)
    (λ c. search rules) (λ c κs. search rules) (λ c. search rules) (λ c κs. search rules) returns)
