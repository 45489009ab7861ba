-- `lowered` meets its contract: the law of the two shifts is `Lowering.antt`'s.
use Rattle.std.proofs.Common.{refl, arith, rules}
use Rattle.roots.proofs.Lowering.{raw_lt, one_pos, odd_lt, lowered_exact, lowered_odd}
use Rattle.roots.proofs.wide.lowered.Statement.{statement}
use Rattle.roots.proofs.wide.lowered.Tie as tie

returns : tie.Need-returns-then-lo-c-eq0
returns c =
    let a = c.before in (
      refl,
      raw_lt a.args.v.hi a.args.v.lo a.args.c a.requires.0 a.requires.1 a.requires.2,
      lowered_exact a.args.v.hi a.args.v.lo a.args.c a.requires.0 a.requires.1 a.requires.2 c.if-lo-c-eq0.true,
    )

returns-2 : tie.Need-returns
returns-2 c =
    let a = c.before in (
      refl,
      odd_lt a.args.v.hi a.args.v.lo a.args.c a.requires.0 a.requires.1 a.requires.2,
      lowered_odd a.args.v.hi a.args.v.lo a.args.c a.requires.0 a.requires.1 a.requires.2 c.if-lo-c-eq0.false,
    )

pub lowered_spec : {M : Type 1} → statement M
lowered_spec =
    tie.close
    (tie.spec
    (λ c. search rules)
    (λ c. search rules)
    (λ c. search rules)
    (λ c. omega (arith, raw_lt c.args.v.hi c.args.v.lo c.args.c c.requires.0 c.requires.1 c.requires.2))
    (λ c. search rules)
    (λ c. one_pos c.args.v.hi c.args.v.lo c.args.c c.requires.0 c.requires.1 c.requires.2)
    (λ c. search rules)
    returns
    (λ c. search rules)
    returns-2)
