-- `roots::nearest` meets its contract: the three tests are those of `Halves.antt`.
use mathlib.Core.Bool.{false≢true}
use Rattle.std.proofs.Common.{◌-◌, ◌*◌, ◌/◌, ◌^◌, ◌<◌, arith, rules, ltb-true}
use lib.Bits.{bit_and, and_mask}
use Rattle.roots.proofs.Halves.{products, checked}
use Rattle.roots.proofs.nearest.Statement.{statement}
use Rattle.roots.proofs.nearest.Tie as tie
use Rattle.roots.proofs.nearest.Reads as reads
use Rattle.roots.proofs.nearest.Lts as lts
use Rattle.std.proofs.num.wrapping_sub_u64.Reads as wrapping-sub-u64-reads

small : (c : tie.Start) → (c.args.s / 2 ^ 26 * (c.args.s / 2 ^ 26) < 2 ^ 54) × (c.args.s / 2 ^ 26 * bit_and c.args.s (2 ^ 26 - 1) < 2 ^ 53)
    × (bit_and c.args.s (2 ^ 26 - 1) * bit_and c.args.s (2 ^ 26 - 1) < c.args.s)
small c = products c.args.s (bit_and c.args.s (2 ^ 26 - 1)) (and_mask c.args.s 26) c.requires.2 c.requires.3

mul-wrapping_sub_u64 : tie.Need-overflow_mul-a
mul-wrapping_sub_u64 c = omega (arith, (small c).0)

mul-wrapping_sub_u64-2 : tie.Need-overflow_mul-a-2
mul-wrapping_sub_u64-2 c = omega (arith, (small c.before.before).1)

mul-t : tie.Need-overflow_mul-t
mul-t c = omega (arith, (small c.before.before.before.before).2)

sub-t : tie.Need-overflow_sub-t
sub-t c = omega (arith, (small c.before.before.before.before).2)

returns-3 : tie.Need-returns
returns-3 c e =
    let a = c.before.before.before.before.before in
    checked a.args.m a.args.s (bit_and a.args.s (2 ^ 26 - 1)) c.before.before.before.before.wrapping_sub_u64-high.result
    c.before.before.wrapping_sub_u64-d.result c.wrapping_sub_u64.result
    (and_mask a.args.s 26) a.requires.2 a.requires.3
    c.before.before.before.before.wrapping_sub_u64-high.ensures c.before.before.before.if-high-ge1073741824.false
    c.before.before.wrapping_sub_u64-d.ensures c.before.if-d-ge1073741824.false
    c.wrapping_sub_u64.ensures (ltb-true _ _ e)

pub nearest_spec : {M : Type 1} → statement M
nearest_spec =
    tie.close
    (tie.spec
    mul-wrapping_sub_u64
    (λ c κs. tt)
    (λ c e. absurd (false≢true e))
    (λ c. search rules)
    mul-wrapping_sub_u64-2
    (λ c κs. tt)
    (λ c e. absurd (false≢true e))
    (λ c. search rules)
    mul-t
    sub-t
    (λ c κs. tt)
    (λ c. search rules)
    returns-3)
