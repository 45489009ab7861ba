-- `settled` meets its contract: the tests are those of `Settling.antt`.
use Rattle.std.proofs.Common.{ℕ, ◌-◌, ◌^◌, ◌≤◌, refl, ap, ◌∙◌, subst, inl, inr, arith, rules}
use lib.Bits.{bit_and, and_mask, mask_lt}
use Rattle.roots.proofs.Settling.{Parts, parts, settles}
use Rattle.roots.proofs.hypots.settled.Statement.{statement}
use Rattle.roots.proofs.hypots.settled.Tie as tie
use Rattle.roots.proofs.hypots.settled.Reads as reads
use Rattle.roots.proofs.hypots.settled.Lts as lts
use Rattle.roots.proofs.hypots.steps.Reads as steps-reads
use Rattle.std.proofs.num.wrapping_sub_u64.Reads as wrapping-sub-u64-reads

small : (c : tie.Start) → Parts c.args.s (bit_and c.args.s (2 ^ 26 - 1))
small c = parts c.args.s (bit_and c.args.s (2 ^ 26 - 1)) (and_mask c.args.s 26) c.requires.4

returns-4 : tie.Need-returns
returns-4 c =
    let w = c.before.before in
    let e = w.before.before in
    let u = e.before in
    let d = u.before.before in
    let h = d.before.before in
    let s = h.before in
    inr
    (settles s.args.c2 s.args.c1 s.args.c0 s.args.s (bit_and s.args.s (2 ^ 26 - 1)) h.wrapping_sub_u64-high.result
    d.wrapping_sub_u64-d.result u.wrapping_sub_u64-u.result e.steps-e.result.count w.wrapping_sub_u64.result
    (small s) s.requires.3 s.requires.4
    h.wrapping_sub_u64-high.ensures d.before.if-high-ge2147483648.false
    d.wrapping_sub_u64-d.ensures u.before.if-d-ge4294967296.false
    u.wrapping_sub_u64-u.ensures
    e.steps-e.ensures.0 (subst (λ (z : ℕ). z ≤ u.wrapping_sub_u64-u.result) e.steps-e.ensures.1 e.steps-e.ensures.2)
    (w.wrapping_sub_u64.ensures ∙ ap (λ (z : ℕ). u.wrapping_sub_u64-u.result - z) e.steps-e.ensures.1) c.before.if-wrapping_sub_u64-s.false)

pub settled_spec : {M : Type 1} → statement M
settled_spec =
    tie.close
    (tie.spec
    (λ c. omega (arith, mask_lt c.args.s 26))
    (λ c. search rules)
    (λ c. omega (arith, (small c).high))
    (λ c κs. tt)
    (λ c. inl refl)
    (λ c. search rules)
    (λ c. omega (arith, (small c.before.before).cross))
    (λ c. omega (arith, (small c.before.before).cross))
    (λ c κs. tt)
    (λ c. inl refl)
    (λ c. search rules)
    (λ c. search rules)
    (λ c. search rules)
    (λ c. omega (arith, (small c.before.before.before.before).low))
    (λ c. omega (arith, (small c.before.before.before.before).low))
    (λ c κs. tt)
    (λ c. search rules)
    (λ c κs. search rules)
    (λ c. search rules)
    (λ c κs. tt)
    (λ c. search rules)
    (λ c. search rules)
    (λ c. inl refl)
    (λ c. search rules)
    (λ c. search rules)
    returns-4)
