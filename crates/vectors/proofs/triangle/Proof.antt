use borrow.Author.Rules.{rules}
use Rattle.vectors.specs.Lines.{triangle_of}
use Rattle.vectors.proofs.triangle.Statement.{statement}
use Rattle.vectors.proofs.triangle.Tie as tie

returns : tie.Need-returns
unfolding triangle_of
returns c =
    rw (
      c.asked-9.ensures,
      c.before.asked-8.ensures,
      c.before.before.asked-7.ensures,
      c.before.before.before.asked-6.ensures,
      c.before.before.before.before.asked-5.ensures,
      c.before.before.before.before.before.asked-4.ensures,
      c.before.before.before.before.before.before.asked-3.ensures,
      c.before.before.before.before.before.before.before.asked-2.ensures,
      c.before.before.before.before.before.before.before.before.asked.ensures,
    )

pub triangle_spec : {M : Type 1} → statement M
triangle_spec =
    tie.close
    (tie.spec (λ c κs. search rules) (λ c κs. search rules) (λ c κs. search rules) (λ c κs. search rules) (λ c κs. search rules)
    (λ c κs. search rules) (λ c κs. search rules) (λ c κs. search rules) (λ c κs. search rules) returns)
