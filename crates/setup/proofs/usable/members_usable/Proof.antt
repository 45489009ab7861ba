-- `setup::usable::members_usable` meets its contract: the test of the numbers that are left gives what that of all gave.
use Prim.Native.Nat.{◌-◌, ◌≤◌}
use mathlib.Core.Path.{◌≡◌}
use native.Mathlib.Omega.{arith}
use borrow.Author.Rules.{rules}
use lib.ListN.{length, drop}
use Rattle.rules.specs.Every.{each}
use Rattle.setup.specs.Answer.{member_usable}
use Rattle.rules.proofs.Testing.{each_stops, each_goes, each_ends, failed, passed}
use Rattle.setup.proofs.usable.members_usable.Statement.{statement}
use Rattle.setup.proofs.usable.members_usable.Tie as tie

abbrev invariant-loop : tie.invariant-loop-j
invariant-loop mesh n marks stamp part j₀ j-end j =
    (each (member_usable mesh n marks stamp) (drop j part) ≡ each (member_usable mesh n marks stamp) part) × (j-end ≡ length part) × (j ≤ j-end)

abbrev decreases-loop : tie.decreases-loop-j
decreases-loop mesh n marks stamp part j₀ j-end j = j-end - j

cast-member_usable : tie.Need-overflow_cast-part invariant-loop decreases-loop
cast-member_usable c = omega (arith, c.shared_slice_known-in-loop-j-1.given c.before.before.loop-j.j)

returns : tie.Need-returns-then-not-member_usable invariant-loop decreases-loop
returns c =
    let l = c.before.before.before.before.loop-j in
    each_stops _ _ l.j (omega arith) (failed _ _ c.before.member_usable.ensures c.if-not-member_usable.true-raw) l.invariant.0

loop-again : tie.Need-loop-j-preserved invariant-loop decreases-loop
loop-again c =
    let l = c.before.before.before.before.loop-j in
    (each_goes _ _ l.j (omega arith) (passed _ _ c.before.member_usable.ensures c.if-not-member_usable.false-raw) l.invariant.0, omega arith, omega arith)

returns-2 : tie.Need-returns invariant-loop decreases-loop
returns-2 c = each_ends _ _ c.before.loop-j.j (omega arith) c.before.loop-j.invariant.0

pub members_usable_spec : {M : Type 1} → statement M
members_usable_spec =
    tie.close
    (tie.spec invariant-loop decreases-loop (λ c. search rules) (λ c. search rules) (λ c. omega arith) cast-member_usable (λ c κs. search rules) returns
    (λ c. omega arith) (λ c. omega arith) loop-again returns-2)
