-- `eight_squares` meets its contract: x is a * 2 ^ 26 + b (`Lowering.antt`).
use Rattle.std.proofs.Common.{◌≡◌, ℕ, ◌+◌, ◌-◌, ◌*◌, ◌/◌, ◌%◌, ◌^◌, ◌<◌, ◌∙◌, arith}
use lib.Bits.{bit_and, and_mask, mask_lt}
use Rattle.roots.proofs.Lowering.{Eight, eight}
use Rattle.roots.proofs.wide.eight_squares.Statement.{statement}
use Rattle.roots.proofs.wide.eight_squares.Tie as tie

parts : (c : tie.Start) → Eight c.args.x (bit_and c.args.x (2 ^ 26 - 1))
parts c = eight c.args.x (bit_and c.args.x (2 ^ 26 - 1)) (and_mask c.args.x 26) c.requires

low_lt : (m bb : ℕ) → m < 2 ^ 25 → bb < 2 ^ 52 → m * 2 ^ 30 % 2 ^ 64 + 8 * bb < 2 ^ 60
low_lt m bb h k = omega arith

low_fits : (c : tie.Start) → bit_and (c.args.x / 2 ^ 26 * bit_and c.args.x (2 ^ 26 - 1))
    (2 ^ 25 - 1) * 2 ^ 30 % 2 ^ 64 + 8 * (bit_and c.args.x (2 ^ 26 - 1) * bit_and c.args.x (2 ^ 26 - 1)) < 2 ^ 60
low_fits c = low_lt _ _ (mask_lt (c.args.x / 2 ^ 26 * bit_and c.args.x (2 ^ 26 - 1)) 25) (parts c).low

returns : tie.Need-returns
returns c =
    let p = parts c.before in
    let e = c.carried.ensures.1 ∙ p.same in
    (top c.carried.result.hi c.carried.result.lo _ e p.square, c.carried.ensures.0, e)
  where
    top : (h l xx : ℕ) → h * 2 ^ 55 + l ≡ 8 * xx → xx < 2 ^ 106 → h < 2 ^ 54
    top h l xx e k = omega arith

pub eight_squares_spec : {M : Type 1} → statement M
eight_squares_spec =
    tie.close
    (tie.spec
    (λ c. omega (arith, (parts c).cross))
    (λ c. omega (arith, (parts c).high))
    (λ c. omega (arith, (parts c).high, (parts c).cross))
    (λ c. omega (arith, (parts c).low))
    (λ c. omega (arith, (parts c).low))
    (λ c. omega (arith, low_fits c))
    (λ c κs. (omega (arith, (parts c).high, (parts c).cross), low_fits c))
    returns)
