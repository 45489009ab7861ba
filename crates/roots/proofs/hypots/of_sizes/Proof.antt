-- `of_sizes` meets its contract: where the smaller lies 27 places behind, a is nearest (`Sized.antt`).
use Rattle.std.proofs.Common.{◌≡◌, ℕ, ◌+◌, ◌-◌, ◌/◌, ◌%◌, ◌^◌, ◌<◌, ◌≤◌, arith, rules}
use lib.Bits.{mask_lt}
use Rattle.roots.specs.Inside.{place_of, infinite_bits}
use Rattle.roots.proofs.Sized.{alone}
use Rattle.roots.proofs.hypots.of_sizes.Statement.{statement}
use Rattle.roots.proofs.hypots.of_sizes.Tie as tie

-- the test of the field
ranged : (p t : ℕ) → p < 2 ^ 12 → (t + 28) % 2 ^ 64 ≡ p → t < 2018 → (28 ≤ p) × (p < 2046)
ranged p t h e l = (omega arith, omega arith)

field : (c : tie.Else-wrapping_sub_u64-ge2018) → (28 ≤ c.before.before.args.a / 2 ^ 52) × (c.before.before.args.a / 2 ^ 52 < 2046)
field c = ranged _ c.before.wrapping_sub_u64.result (small _ c.before.before.requires.1) c.before.wrapping_sub_u64.ensures c.if-wrapping_sub_u64-ge2018.false
  where
    small : (a : ℕ) → a ≤ infinite_bits → a / 2 ^ 52 < 2 ^ 12
    small a h = omega arith

apart : (a b : ℕ) → 28 ≤ a / 2 ^ 52 → 27 ≤ a / 2 ^ 52 - b / 2 ^ 52 → place_of b + 27 ≤ place_of a
apart a b h k = omega arith

below : (a : ℕ) → a / 2 ^ 52 < 2046 → a < infinite_bits
below a h = omega arith

float_from_bits-result : tie.Need-float_from_bits-result
float_from_bits-result c =
    let s = c.before.before.before in
    let f = field c.before in
    (alone s.args.a s.args.b s.requires.0 (below s.args.a f.1) (apart s.args.a s.args.b f.0 c.if-k-ge27.true)).1

returns-2 : tie.Need-returns-then-k-ge27
returns-2 c =
    let s = c.before.before.before in
    let f = field c.before in
    (alone s.args.a s.args.b s.requires.0 (below s.args.a f.1) (apart s.args.a s.args.b f.0 c.if-k-ge27.true)).0

-- the exponents lie k apart
apart_by : (a b : ℕ) → b ≤ a → b / 2 ^ 52 + (a / 2 ^ 52 - b / 2 ^ 52) ≡ a / 2 ^ 52
apart_by a b h = omega arith

near_sum-requires : tie.Need-near_sum-requires
near_sum-requires c κs = let s = c.before.before.before.before.before in
    (mask_lt s.args.a 52, mask_lt s.args.b 52, omega (arith, c.before.before.if-k-ge27.false))

by_guess-requires : tie.Need-by_guess-requires
by_guess-requires c κs =
    let k = c.before.before.before in
    let s = k.before.before.before in
    let f = field k.before in
    (s.requires.0, f.0, f.1, apart_by s.args.a s.args.b s.requires.0, omega (arith, k.if-k-ge27.false), c.near_sum.ensures)

by_guess2-requires : tie.Need-by_guess-requires-2
by_guess2-requires c κs =
    let k = c.before.before in
    let s = k.before.before.before in
    let f = field k.before in
    (s.requires.0, f.0, f.1, apart_by s.args.a s.args.b s.requires.0, omega (arith, k.if-k-ge27.false), s.requires.2)

pub of_sizes_spec : {M : Type 1} → statement M
of_sizes_spec =
    tie.close
    (tie.spec
    (λ c κs. tt)
    (λ c κs. search rules)
    (λ c. search rules)
    (λ c. search rules)
    float_from_bits-result
    returns-2
    (λ c κs. tt)
    near_sum-requires
    by_guess-requires
    (λ c. search rules)
    by_guess2-requires
    (λ c. search rules))
