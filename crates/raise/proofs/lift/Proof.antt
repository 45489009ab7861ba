-- `raise::lift` meets its contract: a front that is raised, then the rest as it was. What is left falls.
use Prim.Native.Nat.{◌-◌, ◌≤◌}
use mathlib.Core.Path.{◌≡◌, refl, ap, ◌∙◌}
use native.Mathlib.Omega.{arith}
use lib.ListN.{length, length-set}
use Rattle.raise.specs.Raise.{lifted_at}
use Rattle.raise.proofs.Lifting.{Lifting, lifting_starts, lifting_reads, lifting_goes, lifting_ends}
use Rattle.raise.proofs.lift.Statement.{statement}
use Rattle.raise.proofs.lift.Tie as tie

abbrev invariant-loop : tie.invariant-loop-k
invariant-loop mesh₀ amount k₀ k-end mesh k = Lifting amount mesh₀ k mesh × (k-end ≡ length mesh₀) × (k ≤ k-end) × (length mesh ≡ length mesh₀)

abbrev decreases-loop : tie.decreases-loop-k
decreases-loop mesh₀ amount k₀ k-end mesh k = k-end - k

loop-again : tie.Need-loop-k-preserved invariant-loop decreases-loop
loop-again c =
    let l = c.before.before.before.loop-k in
    let s = c.before.before.before.before.before in
    let t = c.before.before.loop-k-test.true in
    let v = c.lifted_at.ensures ∙ ap (lifted_at s.args.amount l.k) (lifting_reads _ _ l.k _ l.invariant.0 (omega arith)) in
    (lifting_goes _ _ l.k _ _ l.invariant.0 (omega arith) v, l.invariant.1, omega arith, length-set l.mesh l.k _ ∙ l.invariant.3)

returns : tie.Need-returns invariant-loop decreases-loop
returns c = let l = c.before.loop-k in lifting_ends _ _ l.k _ l.invariant.0 (omega arith)

pub lift_spec : {M : Type 1} → statement M
lift_spec =
    tie.close
    (tie.spec invariant-loop decreases-loop (λ c. (lifting_starts _ _, refl, omega arith, refl)) (λ c. omega arith) (λ c. omega arith) (λ c κs. tt) (λ c. omega arith)
    (λ c. omega arith) (λ c. omega arith) (λ c. omega arith) loop-again
    (λ c. c.before.loop-k.invariant.3) returns)
