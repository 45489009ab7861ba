-- `sum` meets its contract: 8 * m * m is even, so it may stand on top of what was lowered (`Lowering.antt`).
use Rattle.std.proofs.Common.{◌≡◌, ℕ, ◌+◌, ◌*◌, ◌%◌, ◌^◌, ◌<◌, ◌≤◌, sym, ap, ◌∙◌, subst, div-le_self, arith, rules}
use Rattle.roots.specs.Inside.{Lowered}
use Rattle.roots.proofs.Lowering.{lowered_add}
use Rattle.roots.proofs.wide.sum.Statement.{statement}
use Rattle.roots.proofs.wide.sum.Tie as tie

high : (c : tie.After-lowered-y) → c.lowered-y.result.hi < 2 ^ 54
high c = go _ _ _ c.lowered-y.ensures.0 (div-le_self _ _) c.before.eight_squares.ensures.0
  where
    go : (r d h : ℕ) → r ≡ d → d ≤ h → h < 2 ^ 54 → r < 2 ^ 54
    go r d h a b e = omega arith

returns : tie.Need-returns
returns c =
    let l = c.before.before.before.before.before in
    let x = l.before.before.eight_squares-x in
    let y = l.lowered-y in
    let z = c.carried in
    let m = l.before.before.before.args.m in
    let n = l.before.before.before.args.n in
    let k = l.before.before.before.args.k in
    let s : x.result.hi * 2 ^ 55 + x.result.lo + (y.result.hi * 2 ^ 55 + y.result.lo) ≡ z.result.hi * 2 ^ 55 + z.result.lo =
    total x.result.hi x.result.lo y.result.hi y.result.lo _ z.ensures.1 in
    let w : Lowered (8 * (n * n)) (y.result.hi * 2 ^ 55 + y.result.lo) (2 * k) =
    subst (λ (v : ℕ). Lowered v (y.result.hi * 2 ^ 55 + y.result.lo) (2 * k)) l.before.eight_squares.ensures.2 y.ensures.2 in (
      top x.result.hi x.result.lo y.result.hi y.result.lo z.result.hi z.result.lo x.ensures.0 x.ensures.1
          (high l) y.ensures.1 s,
      z.ensures.0,
      subst (λ (v : ℕ). Lowered (8 * (m * m) * 2 ^ (2 * k) + 8 * (n * n)) v (2 * k))
          (ap (λ (v : ℕ). v + (y.result.hi * 2 ^ 55 + y.result.lo)) (sym x.ensures.2) ∙ s) (lowered_add (8 * (m * m)) _ _ (2 * k) (even (m * m)) w),
    )
  where
    total : (xh xl yh yl z : ℕ) → z ≡ (xh + yh) * 2 ^ 55 + (xl + yl) → xh * 2 ^ 55 + xl + (yh * 2 ^ 55 + yl) ≡ z
    total xh xl yh yl z e = omega arith

    top : (xh xl yh yl zh zl : ℕ) → xh < 2 ^ 54 → xl < 2 ^ 55 → yh < 2 ^ 54 → yl < 2 ^ 55
        → xh * 2 ^ 55 + xl + (yh * 2 ^ 55 + yl) ≡ zh * 2 ^ 55 + zl → zh < 2 ^ 55
    top xh xl yh yl zh zl a b c d e = omega arith

    even : (n : ℕ) → 8 * n % 2 ≡ 0
    even n = omega arith

pub sum_spec : {M : Type 1} → statement M
sum_spec =
    tie.close
    (tie.spec
    (λ c κs. search rules)
    (λ c κs. search rules)
    (λ c. search rules)
    (λ c κs. search rules)
    (λ c. omega (arith, c.before.before.before.before.eight_squares-x.ensures.0, high c.before.before))
    (λ c. search rules)
    (λ c κs. (
      omega (arith, c.before.before.before.before.before.before.eight_squares-x.ensures.0, high c.before.before.before.before),
      omega
          (arith, c.before.before.before.before.before.before.eight_squares-x.ensures.1, c.before.before.before.before.lowered-y.ensures.1),
    ))
    returns)
