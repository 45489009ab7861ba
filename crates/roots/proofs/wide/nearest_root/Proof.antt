-- `nearest_root` meets its contract. The invariant: q, rest, low and the weight of the last digit found are as in `Rooting.antt`, and r, the weight of the next
-- digit, is half of that weight. The measure is r.
use Rattle.std.proofs.Common.{◌≡◌, ℕ, ◌+◌, ◌*◌, ◌/◌, ◌^◌, ◌<◌, ◌≤◌, ⊎_elim, arith, rules}
use lib.Bits.{bit_and, and_mask, and_le_r}
use Rattle.roots.proofs.Rooting.{Digits, Part, Found, set, clear, brought, none, found_small, found_next, found_none, last, rounded, tied}
use Rattle.roots.proofs.wide.nearest_root.Statement.{statement}
use Rattle.roots.proofs.wide.nearest_root.Tie as tie
use Rattle.roots.proofs.wide.nearest_root.Reads as reads
use Rattle.roots.proofs.wide.nearest_root.Lts as lts
use Rattle.roots.proofs.wide.nearest_root.Lts.{then-t-rest, else-t-rest, then-low-r, else-low-r}

abbrev invariant-loop : tie.invariant-loop-r
invariant-loop hi lo rest₀ low₀ q₀ r₀ rest low q r = Found (hi * 2 ^ 55 + lo) rest low q r

abbrev decreases-loop : tie.decreases-loop-r
decreases-loop hi lo rest₀ low₀ q₀ r₀ rest low q r = r

small : (c : tie.At-loop-r invariant-loop decreases-loop) → (c.loop-r.rest < 2 ^ 56) × (c.loop-r.q + c.loop-r.r ≤ 2 ^ 54)
small c = found_small (c.before.args.hi * 2 ^ 55 + c.before.args.lo) c.loop-r.rest c.loop-r.low c.loop-r.q c.loop-r.r c.loop-r.invariant

loop-holds : tie.Need-loop-r-init invariant-loop decreases-loop
loop-holds c = found_none c.args.hi c.args.lo _ c.requires.0 c.requires.1 (and_mask c.args.lo 54)

mul-t : tie.Need-overflow_mul-t invariant-loop decreases-loop
mul-t c = omega (arith, (small c.before).1)

add-t : tie.Need-overflow_add-t invariant-loop decreases-loop
add-t c = omega (arith, (small c.before).1)

add-q : tie.Need-overflow_add-q invariant-loop decreases-loop
add-q c = omega (arith, (small c.before.before).1)

mul-rest-2 : tie.Need-overflow_mul-rest-in-loop-r invariant-loop decreases-loop
mul-rest-2 c = elim c.before.if-t-rest.branch [
  | then-t-rest w ↦ omega (arith, (small c.before.before.before).0)
  | else-t-rest w ↦ omega (arith, (small c.before.before.before).0)
]

add-rest-2 : tie.Need-overflow_add-rest-then-low-r invariant-loop decreases-loop
add-rest-2 c = let s = (small c.before.before.before.before).0 in elim c.before.before.if-t-rest.branch [
  | then-t-rest w ↦ omega arith
  | else-t-rest w ↦ omega arith
]

loop-again : tie.Need-loop-r-preserved invariant-loop decreases-loop
loop-again c =
    let x = c.before.before in
    let l = x.before.before in
    let v = l.before.args.hi * 2 ^ 55 + l.before.args.lo in
    let part : Digits v l.loop-r.rest l.loop-r.low l.loop-r.q (2 * l.loop-r.r) → Part v (2 * x.if-t-rest.rest) l.loop-r.low x.if-t-rest.q l.loop-r.r =
    λ d. elim x.if-t-rest.branch [
      | then-t-rest w ↦ rw (w.rest-is, w.q-is) (set v l.loop-r.rest l.loop-r.low l.loop-r.q l.loop-r.r d w.if-t-rest.true)
      | else-t-rest w ↦ rw (w.rest-is, w.q-is) (clear v l.loop-r.rest l.loop-r.low l.loop-r.q l.loop-r.r d w.if-t-rest.false)
    ] in
    found_next v l.loop-r.rest l.loop-r.low l.loop-r.q l.loop-r.r c.if-low-r.rest c.if-low-r.low x.if-t-rest.q
    (λ d. elim c.if-low-r.branch [
      | then-low-r w ↦ rw (w.rest-is, w.low-is) (brought v (2 * x.if-t-rest.rest) l.loop-r.low x.if-t-rest.q l.loop-r.r (part d) w.if-low-r.true)
      | else-low-r w ↦ rw (w.rest-is, w.low-is) (none v (2 * x.if-t-rest.rest) l.loop-r.low x.if-t-rest.q l.loop-r.r (part d) w.if-low-r.false)
    ])
    x.before.loop-r-test.true l.loop-r.invariant

ended : (c : tie.At-loop-r invariant-loop decreases-loop) → c.loop-r.r ≡ 0 → (c.before.args.hi * 2 ^ 55 + c.before.args.lo
    ≡ 2 * (c.loop-r.q * c.loop-r.q) + c.loop-r.rest) × (c.before.args.hi * 2 ^ 55 + c.before.args.lo < 2 * ((c.loop-r.q + 1) * (c.loop-r.q + 1)))
ended c e = last _ c.loop-r.rest c.loop-r.low c.loop-r.q c.loop-r.r c.loop-r.invariant e

half_small : (q r b : ℕ) → q + r ≤ 2 ^ 54 → b ≤ 1 → q / 2 + b < 2 ^ 64
half_small q r b h k = omega arith

returns : tie.Need-returns-then-rest-eq0 invariant-loop decreases-loop
returns c = let l = c.before.before in let e = ended l c.before.loop-r-test.false in tied _ l.loop-r.rest l.loop-r.q e.0 e.1 c.if-rest-eq0.true

returns-2 : tie.Need-returns invariant-loop decreases-loop
returns-2 c = let l = c.before.before in let e = ended l c.before.loop-r-test.false in rounded _ l.loop-r.rest l.loop-r.q e.0 e.1 c.if-rest-eq0.false

pub nearest_root_spec : {M : Type 1} → statement M
nearest_root_spec =
    tie.close
    (tie.spec
    invariant-loop
    decreases-loop
    (λ c. search rules)
    (λ c. search rules)
    loop-holds
    mul-t
    add-t
    add-q
    mul-rest-2
    add-rest-2
    (λ c. omega arith)
    loop-again
    (λ c. record { fits = half_small _ _ _ (small c.before.before).1 (and_le_r (bit_and c.before.before.loop-r.q (c.before.before.loop-r.q / 2)) 1) })
    returns
    (λ c. record { fits = half_small _ _ _ (small c.before.before).1 (and_le_r c.before.before.loop-r.q 1) })
    returns-2)
