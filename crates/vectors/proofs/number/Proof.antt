-- The loop's invariant: n is the number of the first i digits, below 16 ^ i. What is left of the 16 falls.
use mathlib.Core.Path.{◌≡◌, refl, ap, ◌∙◌}
use Prim.Native.Nat.{◌-◌, ◌^◌, ◌≤◌, ◌<◌}
use native.Mathlib.Numerals.{add-one}
use native.Mathlib.Omega.{arith}
use lib.Dec.{lit<}
use Rattle.vectors.specs.Lines.{hex_of}
use Rattle.vectors.proofs.Digits.{digit_below, more_fits, word_fits}
use Rattle.vectors.proofs.number.Statement.{statement}
use Rattle.vectors.proofs.number.Tie as tie

abbrev invariant-loop : tie.invariant-loop-i
invariant-loop line from n₀ i₀ n i = (n ≡ hex_of line from i) × (n < 16 ^ i) × (i ≤ 16)

abbrev decreases-loop : tie.decreases-loop-i
decreases-loop line from n₀ i₀ n i = 16 - i

loop-holds : tie.Need-loop-i-init invariant-loop decreases-loop
unfolding hex_of
loop-holds c = (refl, lit< tt, omega arith)

mul-n : tie.Need-overflow_mul-n invariant-loop decreases-loop
mul-n c =
    let l = c.before.loop-i in
    omega (arith, word_fits l.n 0 l.i l.invariant.1 (lit< tt) (omega arith))

add-n : tie.Need-overflow_add-n invariant-loop decreases-loop
add-n c =
    let l = c.before.before.before.loop-i in
    let d : c.digit.result < 16 = rw c.digit.ensures (digit_below _) in
    omega (arith, word_fits l.n c.digit.result l.i l.invariant.1 d (omega arith))

loop-again : tie.Need-loop-i-preserved invariant-loop decreases-loop
unfolding hex_of
loop-again c =
    let l = c.before.before.before.loop-i in
    let d : c.digit.result < 16 = rw c.digit.ensures (digit_below _) in
    (rw (add-one, c.digit.ensures, l.invariant.0), more_fits l.n c.digit.result l.i l.invariant.1 d, omega arith)

returns : tie.Need-returns invariant-loop decreases-loop
returns c =
    let l = c.before.loop-i in
    let e : l.i ≡ 16 = omega arith in
    l.invariant.0 ∙ ap (hex_of _ _) e

pub number_spec : {M : Type 1} → statement M
number_spec =
    tie.close
    (tie.spec
    invariant-loop
    decreases-loop
    loop-holds
    mul-n
    (λ c. omega arith)
    (λ c. omega arith)
    (λ c κs. tt)
    add-n
    (λ c. omega arith)
    (λ c. omega arith)
    loop-again
    returns)
