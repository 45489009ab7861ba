-- The numbers before i stand in the bytes: those from i on, laid down behind them, give the whole.
use mathlib.Core.Path.{◌≡◌, refl}
use Prim.Native.Nat.{◌+◌, ◌*◌, ◌-◌, ◌≤◌}
use native.Mathlib.Nat.{add-zero}
use native.Mathlib.Omega.{arith}
use borrow.Author.Rules.{rules}
use lib.ListN.{length, drop}
use lib.Seq.{sets, length-sets}
use Rattle.writer.specs.Writer.{laid_all}
use Rattle.writer.proofs.Rows.{all_at, laid_more, laid_ends}
use Rattle.writer.proofs.put_numbers.Statement.{statement}
use Rattle.writer.proofs.put_numbers.Tie as tie

abbrev invariant-loop : tie.invariant-loop-i
invariant-loop xs k bytes₀ i₀ i-end bytes i =
    (sets bytes (14 + 8 * (k + i)) (laid_all (drop i xs)) ≡ sets bytes₀ (14 + 8 * k) (laid_all xs)) × (length bytes ≡ length bytes₀) × (i ≤ length xs)

abbrev decreases-loop : tie.decreases-loop-i
decreases-loop xs k bytes₀ i₀ i-end bytes i = length xs - i

loop-holds : tie.Need-loop-i-init invariant-loop decreases-loop
loop-holds c = (rw add-zero, refl, search rules)

put_number-requires : tie.Need-put_number-requires invariant-loop decreases-loop
put_number-requires c κs = (omega arith, all_at _ c.before.before.before.before.before.before.requires.1 _ (omega arith))

loop-again : tie.Need-loop-i-preserved invariant-loop decreases-loop
loop-again c =
    let d = c.before.before in
    let l = d.before.before.before.before.loop-i in
    (rw d.put_number.ensures (laid_more _ _ l.i _ _ (omega arith) l.invariant.0), rw (d.put_number.ensures, length-sets) l.invariant.1, omega arith)

returns : tie.Need-returns invariant-loop decreases-loop
returns c = laid_ends _ _ c.before.loop-i.i _ _ (omega arith) c.before.loop-i.invariant.0

pub put_numbers_spec : {M : Type 1} → statement M
put_numbers_spec = tie.close (tie.spec invariant-loop decreases-loop loop-holds (λ c. search rules) (λ c. omega arith) (λ c. omega arith) put_number-requires
    (λ c. omega arith) (λ c. omega arith) loop-again (λ c. c.before.loop-i.invariant.1) returns)
