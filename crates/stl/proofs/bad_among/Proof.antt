-- The numbers of the first t triangles are finite.
use mathlib.Core.Path.{sym, ◌∙◌}
use Prim.Native.Nat.{◌-◌, ◌*◌, ◌≤◌}
use native.Mathlib.Omega.{arith}
use native.Mathlib.Nat.{zero-add}
use Rattle.stl.proofs.Numbers.{Finite, good, clean, bad_part, both}
use Rattle.stl.proofs.bad_among.Statement.{statement}
use Rattle.stl.proofs.bad_among.Tie as tie

abbrev invariant-loop : tie.invariant-loop-t
invariant-loop bytes n t₀ t = Finite bytes 0 (9 * t) × (t ≤ n)

abbrev decreases-loop : tie.decreases-loop-t
decreases-loop bytes n t₀ t = n - t

loop-holds : tie.Need-loop-t-init invariant-loop decreases-loop
loop-holds c = (λ i h. absurd (omega arith), omega arith)

bad_in-requires : tie.Need-bad_in-requires invariant-loop decreases-loop
bad_in-requires c κs = omega arith

returns : tie.Need-returns-then-bad_in invariant-loop decreases-loop
returns c = bad_part _ _ 9 _ (omega arith) (sym c.before.bad_in.ensures ∙ c.if-bad_in.true)

loop-again : tie.Need-loop-t-preserved invariant-loop decreases-loop
loop-again c =
    let l = c.before.before.before.loop-t in
    (both _ 0 (9 * l.t) 9 _ l.invariant.0 (rw zero-add (clean _ _ 9 (sym c.before.bad_in.ensures ∙ c.if-bad_in.false))) (omega arith), omega arith)

returns-2 : tie.Need-returns invariant-loop decreases-loop
returns-2 c = good _ 0 _ (λ i h. c.before.loop-t.invariant.0 i (omega arith))

pub bad_among_spec : {M : Type 1} → statement M
bad_among_spec = tie.close (tie.spec invariant-loop decreases-loop loop-holds bad_in-requires returns (λ c. omega arith) (λ c. omega arith) loop-again returns-2)
