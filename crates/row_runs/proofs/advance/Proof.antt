use mathlib.Core.Path.{refl}
use native.Mathlib.Omega.{arith}
use borrow.Author.Rules.{rules}
use Rattle.row_runs.proofs.Walking.{advanced_on, advanced_off}
use Rattle.row_runs.proofs.advance.Statement.{statement}
use Rattle.row_runs.proofs.advance.Tie as tie

returns : tie.Need-returns-then-o
returns c = (
  advanced_on _ _ _ _ _ _ _ _ _ _ _ c.before.before.before.before.number.ensures c.before.before.before.sample-o.ensures.0
      c.if-o.true refl refl refl,
  c.before.before.before.sample-o.ensures.1,
)

end_stretch-requires : tie.Need-end_stretch-requires
end_stretch-requires c κs = let s =
    c.before.before.before.before.before.before.before.before.before.before.before.before.before.before.before.before.before in
    (s.requires.0, c.before.before.before.before.before.sample-o.ensures.1, s.requires.2, omega (arith, s.requires.3), s.requires.5)

returns-2 : tie.Need-returns
returns-2 c =
    let e = c.before.before.before.before.end_stretch.ensures in (
      advanced_off _ _ _ _ _ _ _ _ _ _ _ c.before.before.before.before.before.before.before.before.before.before.before.number.ensures
          c.before.before.before.before.before.before.before.before.before.before.sample-o.ensures.0 _
          c.before.before.before.before.before.before.before.if-o.false e.0,
      e.1,
    )

pub advance_spec : {M : Type 1} → statement M
advance_spec =
    tie.close
    (tie.spec (λ c κs. c.before.before.before.before.before.before.before.before.before.before.requires.3)
    (λ c κs. (
      c.before.before.before.before.before.before.before.before.before.before.before.requires.0,
      c.before.before.before.before.before.before.before.before.before.before.before.requires.1,
      c.before.before.before.before.before.before.before.before.before.before.before.requires.5,
    ))
    (λ c. let s = c.before.before.before.before.before.before.before.before.before.before.before.before.before.before.before in
    omega (arith, s.requires.2, s.requires.3, s.requires.4)) (λ c. search rules) returns end_stretch-requires (λ c. search rules) (λ c. search rules) returns-2)
