use native.Mathlib.Omega.{arith}
use borrow.Author.Rules.{rules}
use Rattle.row_runs.proofs.Walking.{short_row, long_row}
use Rattle.row_runs.proofs.end_stretch.Statement.{statement}
use Rattle.row_runs.proofs.end_stretch.Tie as tie

returns : tie.Need-returns-then-k-le1
returns c = let s = c.before.before.before.before.before.before.before.before.before in (short_row _ _ _ _ _ _ s.args.j c.if-k-le1.true, s.requires.1)

halve-requires : tie.Need-halve-stand-requires
halve-requires c κs = let s = c.before.before.before.before.before.before.before.before.before.before.before.before.before.before in
    (s.requires.0, s.requires.1, s.requires.4)

returns-2 : tie.Need-returns
returns-2 c =
    let e = c.before.before.before.before.halve-stand.ensures in (
      long_row _ _ _ _ _ _ _ _ _ _ _ _ c.before.before.before.before.before.before.before.before.before.before.if-k-le1.false
          c.before.before.before.before.before.before.before.before.before.number-first.ensures
          c.before.before.before.before.before.before.before.before.number-last.ensures
          c.before.before.before.before.before.run_between.ensures e.0,
      e.1,
    )

pub end_stretch_spec : {M : Type 1} → statement M
end_stretch_spec =
    tie.close
    (tie.spec returns (λ c. omega arith) (λ c κs. omega arith) (λ c. omega arith) (λ c κs. omega arith) (λ c κs. tt) halve-requires (λ c. search rules)
    (λ c. search rules) returns-2)
