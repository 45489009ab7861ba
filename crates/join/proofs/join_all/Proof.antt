-- `join::join_all` meets its contract: the first m runs are taken. What is left falls.
use Prim.Native.Nat.{◌≤◌, ◌-◌, ◌/◌}
use mathlib.Core.Path.{◌≡◌, refl, sym, subst}
use native.Mathlib.Omega.{arith}
use borrow.Author.Rules.{rules}
use lib.ListN.{length}
use Rattle.fives.specs.Tables.{room_of}
use Rattle.runs.specs.Inside.{work}
use Rattle.runs.specs.declared.Tally.{Tally}
use Rattle.join.proofs.Taking.{Taken, taken_starts, taken_goes, taken_ends}
use Rattle.join.proofs.join_all.Statement.{statement}
use Rattle.join.proofs.join_all.Tie as tie

abbrev invariant-loop : tie.invariant-loop-m
invariant-loop runs₀ y₀ m₀ m-end runs y m = Taken runs₀ m (work runs y) × (length runs ≡ length runs₀) × (m-end ≡ length runs₀ / 5) × (m ≤ m-end)

abbrev decreases-loop : tie.decreases-loop-m
decreases-loop runs₀ y₀ m₀ m-end runs y m = m-end - m

loop-holds : tie.Need-loop-m-init invariant-loop decreases-loop
loop-holds c = (
  subst (λ (y : Tally). Taken c.before.before.args.runs.now 0 (work c.before.before.args.runs.now y)) (sym c.begin-y.ensures)
      (taken_starts _),
  refl,
  refl,
  omega arith,
)

run_at-requires : tie.Need-run_at-requires invariant-loop decreases-loop
run_at-requires c κs = omega arith

take-requires : tie.Need-take-y-requires invariant-loop decreases-loop
take-requires c κs = search rules

add-m : tie.Need-overflow_step-m invariant-loop decreases-loop
add-m c = omega arith

loop-less : tie.Need-loop-m-smaller invariant-loop decreases-loop
loop-less c = omega arith

loop-again : tie.Need-loop-m-preserved invariant-loop decreases-loop
loop-again c =
    let d = c.before.before in
    let l = d.before.before.before.before.loop-m in (
      taken_goes _ l.m (work l.runs l.y) l.invariant.0 _ (work d.take-y.new.runs d.take-y.result) d.before.run_at.ensures d.take-y.ensures,
      omega arith,
      omega arith,
      omega arith,
    )

close-requires : tie.Need-close-all-requires invariant-loop decreases-loop
close-requires c κs = search rules

same_length : tie.Need-shape_of-runs invariant-loop decreases-loop
same_length c = search rules

returns : tie.Need-returns invariant-loop decreases-loop
returns c =
    let t = c.before.before.before.before.before in
    let l = t.loop-m in
    let e : l.m ≡ room_of t.before.before.before.args.runs.now = omega arith in
    taken_ends _ (work l.runs l.y) (work _ _) (rw e at l.invariant.0) c.before.before.close-all.ensures

pub join_all_spec : {M : Type 1} → statement M
join_all_spec =
    tie.close
    (tie.spec invariant-loop decreases-loop (λ c κs. tt) loop-holds run_at-requires take-requires add-m loop-less loop-again close-requires same_length returns)
