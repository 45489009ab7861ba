-- `checked` meets its contract: both operands times one scale are x and u with f (`Settling.antt`).
use Rattle.std.proofs.Common.{ℕ, ◌+◌, ◌-◌, ◌*◌, ◌/◌, ◌%◌, ◌^◌, ◌<◌, ◌≤◌, mul-le-mul_left, div-le_self, arith, rules}
use lib.Bits.{mask_lt}
use Rattle.roots.proofs.Settling.{checked_settle}
use Rattle.roots.proofs.hypots.checked.Statement.{statement}
use Rattle.roots.proofs.hypots.checked.Tie as tie

twice : (m i : ℕ) → m < 2 ^ 53 → m * (2 - i) < 2 ^ 54
twice m i h = let a : 2 - i ≤ 2 = omega arith in let b = mul-le-mul_left m a in omega arith

half : (n p : ℕ) → n < 2 ^ 53 → 2 * n / p < 2 ^ 54
half n p h = let a = div-le_self (2 * n) p in omega arith

columns-requires : tie.Need-columns-requires
columns-requires c κs = (
  twice c.args.m c.args.i c.requires.0,
  half c.args.n _ c.requires.1,
  mask_lt (c.args.n * 2 ^ (28 - (c.args.k + c.args.i)) % 2 ^ 64) 27,
  c.requires.4,
  c.requires.5,
)

returns : tie.Need-returns
returns c =
    let a = c.before in
    checked_settle a.args.m a.args.n a.args.k a.args.i c.columns.result a.requires.1 a.requires.2 a.requires.3 c.columns.ensures

pub checked_spec : {M : Type 1} → statement M
checked_spec =
    tie.close
    (tie.spec
    (λ c. search rules)
    (λ c. search rules)
    (λ c. omega (arith, twice c.args.m c.args.i c.requires.0))
    (λ c. search rules)
    (λ c. search rules)
    (λ c. search rules)
    (λ c. search rules)
    columns-requires
    returns)
