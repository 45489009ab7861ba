-- What is left of the nine stores, made from here, gives what all nine give.
use mathlib.Core.Path.{◌≡◌, refl, ◌∙◌}
use Prim.Native.Nat.{◌+◌, ◌-◌, ◌*◌, ◌≤◌}
use native.Mathlib.Nat.{add-zero}
use native.Mathlib.Omega.{arith}
use lib.ListN.{length, length-set}
use lib.Seq.{sets}
use Rattle.fields.specs.Rows.{row}
use Rattle.stl.specs.Reader.{number_of}
use Rattle.stl.proofs.Stores.{stored, all_stored}
use Rattle.stl.proofs.put.Statement.{statement}
use Rattle.stl.proofs.put.Tie as tie

abbrev invariant-loop : tie.invariant-loop-j
invariant-loop bytes t out₀ j₀ out j =
    (sets out (9 * t + j) (row (number_of bytes) (9 * t + j) (9 * t + 9 - (9 * t + j))) ≡ sets out₀ (9 * t) (row (number_of bytes) (9 * t) 9))
    × (length out ≡ length out₀)
    × (j ≤ 9)

abbrev decreases-loop : tie.decreases-loop-j
decreases-loop bytes t out₀ j₀ out j = 9 - j

loop-holds : tie.Need-loop-j-init invariant-loop decreases-loop
loop-holds c =
    let t = c.before.before.args.t in
    let s : 9 * t + 9 - 9 * t ≡ 9 = omega arith in
    (rw (add-zero (9 * t), s), refl, omega arith)

bits_at-requires : tie.Need-bits_at-requires invariant-loop decreases-loop
bits_at-requires c κs = (omega arith, omega arith)

widened-requires : tie.Need-widened-requires invariant-loop decreases-loop
widened-requires c κs = rw c.bits_at.ensures (c.before.before.before.before.before.requires.1 _ (omega arith))

loop-again : tie.Need-loop-j-preserved invariant-loop decreases-loop
loop-again c =
    let l = c.before.before.before.loop-j in (
      stored _ _ _ _ _ _ _ (omega arith) (omega arith) (c.widened.ensures.0 ∙ c.before.bits_at.ensures) l.invariant.0,
      simp length-set l.invariant.1,
      omega arith,
    )

same_length : tie.Need-shape_of-out invariant-loop decreases-loop
same_length c = c.before.loop-j.invariant.1

returns : tie.Need-returns invariant-loop decreases-loop
returns c = all_stored _ _ _ _ _ (omega arith) c.before.loop-j.invariant.0

pub put_spec : {M : Type 1} → statement M
put_spec = tie.close (tie.spec invariant-loop decreases-loop loop-holds bits_at-requires widened-requires (λ c. omega arith) (λ c. omega arith) (λ c. omega arith)
    (λ c. omega arith) (λ c. omega arith) (λ c. omega arith) loop-again same_length returns)
