-- The first i letters of the word stand behind the text.
use Prim.Native.Nat.{◌+◌, ◌-◌, ◌≤◌}
use mathlib.Core.Path.{◌≡◌, refl}
use native.Mathlib.Nat.{add-zero}
use native.Mathlib.Omega.{arith}
use lib.ListN.{length, take, length-set}
use Rattle.lines.specs.Inside.{Wrote}
use Rattle.lines.proofs.Texts.{nothing, word_more, word_ends}
use Rattle.lines.proofs.put_word.Statement.{statement}
use Rattle.lines.proofs.put_word.Tie as tie

abbrev invariant-loop : tie.invariant-loop-i
invariant-loop out₀ at word i₀ i-end out i = Wrote out₀ out at (at + i) (take i word) × (length out ≡ length out₀) × (i-end ≡ length word) × (i ≤ i-end)

abbrev decreases-loop : tie.decreases-loop-i
decreases-loop out₀ at word i₀ i-end out i = i-end - i

loop-holds : tie.Need-loop-i-init invariant-loop decreases-loop
loop-holds c = (rw add-zero (nothing _ _), refl, refl, omega arith)

loop-again : tie.Need-loop-i-preserved invariant-loop decreases-loop
loop-again c =
    let l = c.before.before.loop-i in
    (word_more _ _ _ l.i _ (omega arith) (omega arith) l.invariant.0, simp length-set l.invariant.1, refl, omega arith)

same_length : tie.Need-shape_of-out invariant-loop decreases-loop
same_length c = c.before.loop-i.invariant.1

returns : tie.Need-returns invariant-loop decreases-loop
returns c = word_ends _ _ _ c.before.loop-i.i _ (omega arith) (omega arith) c.before.loop-i.invariant.0

pub put_word_spec : {M : Type 1} → statement M
put_word_spec = tie.close (tie.spec invariant-loop decreases-loop loop-holds (λ c. omega arith) (λ c. omega arith) (λ c. omega arith) (λ c. omega arith)
    (λ c. omega arith) loop-again (λ c. omega arith) same_length returns)
