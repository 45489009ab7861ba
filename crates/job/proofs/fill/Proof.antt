-- The first i entries are written, the others are as they were.
use Prim.Native.Nat.{◌-◌, ◌≤◌}
use mathlib.Core.Path.{◌≡◌, refl}
use mathlib.Core.List.{◌++◌}
use native.Mathlib.Omega.{arith}
use borrow.Author.Rules.{rules}
use lib.ListN.{length, drop, length-set}
use Rattle.fields.specs.Rows.{row}
use Rattle.job.specs.Reader.{number_of}
use Rattle.fields.proofs.Rows.{filled_more}
use Rattle.job.proofs.fill.Statement.{statement}
use Rattle.job.proofs.fill.Tie as tie

abbrev invariant-loop : tie.invariant-loop-i
invariant-loop bytes k count out₀ i₀ out i = (out ≡ row (number_of bytes) k i ++ drop i out₀) × (length out ≡ length out₀) × (i ≤ count)

abbrev decreases-loop : tie.decreases-loop-i
decreases-loop bytes k count out₀ i₀ out i = count - i

loop-holds : tie.Need-loop-i-init invariant-loop decreases-loop
unfolding row
loop-holds c = (refl, refl, search rules)

number_at-requires : tie.Need-number_at-requires invariant-loop decreases-loop
number_at-requires c κs = (omega arith, c.before.before.before.before.requires.1 _ (omega arith))

mul-out : tie.Need-offset_bounds-out-i invariant-loop decreases-loop
mul-out c = omega arith

slice_write-out : tie.Need-bounds-out-i invariant-loop decreases-loop
slice_write-out c = omega arith

loop-again : tie.Need-loop-i-preserved invariant-loop decreases-loop
loop-again c =
    let l = c.before.before.loop-i in
    (rw (l.invariant.0, c.number_at.ensures) (filled_more _ _ l.i _ (omega arith)), simp length-set l.invariant.1, omega arith)

same_length : tie.Need-shape_of-out invariant-loop decreases-loop
same_length c = c.before.loop-i.invariant.1

returns : tie.Need-returns invariant-loop decreases-loop
returns c =
    let e : c.before.loop-i.i ≡ c.before.before.before.before.args.count = omega arith in
    rw (← e) c.before.loop-i.invariant.0

pub fill_spec : {M : Type 1} → statement M
fill_spec = tie.close (tie.spec invariant-loop decreases-loop loop-holds (λ c. omega arith) number_at-requires mul-out slice_write-out (λ c. omega arith)
    (λ c. omega arith) loop-again same_length returns)
