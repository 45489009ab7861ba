-- What is left of the stores, made from triangle t on, gives what all of them give.
use mathlib.Core.Path.{◌≡◌, refl, ◌∙◌}
use Prim.Native.Nat.{◌-◌, ◌*◌, ◌≤◌}
use native.Mathlib.Nat.{sub-zero}
use native.Mathlib.Omega.{arith}
use lib.ListN.{length}
use lib.Seq.{sets}
use Rattle.fields.specs.Rows.{row}
use Rattle.stl.specs.Reader.{number_of}
use Rattle.stl.proofs.Stores.{stretch, as_long, all_stored, table_is}
use Rattle.stl.proofs.fill.Statement.{statement}
use Rattle.stl.proofs.fill.Tie as tie

abbrev invariant-loop : tie.invariant-loop-t
invariant-loop bytes n out₀ t₀ out t =
    (sets out (9 * t) (row (number_of bytes) (9 * t) (9 * n - 9 * t)) ≡ sets out₀ 0 (row (number_of bytes) 0 (9 * n)))
    × (length out ≡ length out₀)
    × (t ≤ n)

abbrev decreases-loop : tie.decreases-loop-t
decreases-loop bytes n out₀ t₀ out t = n - t

loop-holds : tie.Need-loop-t-init invariant-loop decreases-loop
loop-holds c = (rw sub-zero, refl, omega arith)

put-requires : tie.Need-put-requires invariant-loop decreases-loop
put-requires c κs = ((omega arith, omega arith), λ j h. c.before.before.before.before.before.requires.1 _ (omega arith))

loop-again : tie.Need-loop-t-preserved invariant-loop decreases-loop
loop-again c =
    let l = c.before.before.before.before.before.loop-t in
    let e = c.before.before.put.ensures in
    (stretch _ _ 9 _ _ _ _ _ (omega arith) (omega arith) e l.invariant.0, as_long _ _ 9 _ _ e ∙ l.invariant.1, omega arith)

same_length : tie.Need-shape_of-out invariant-loop decreases-loop
same_length c = c.before.loop-t.invariant.1

returns : tie.Need-returns invariant-loop decreases-loop
returns c = all_stored _ _ _ _ _ (omega arith) c.before.loop-t.invariant.0 ∙ table_is _ _ _ (omega arith)

pub fill_spec : {M : Type 1} → statement M
fill_spec = tie.close (tie.spec invariant-loop decreases-loop loop-holds put-requires (λ c. omega arith) (λ c. omega arith) loop-again same_length returns)
