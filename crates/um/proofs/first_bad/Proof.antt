-- The numbers before k are coordinates: what the search finds from k on is what it finds from the first number on.
use Prim.Native.Nat.{◌-◌, ◌≤◌}
use mathlib.Core.Bool.{not}
use mathlib.Core.Path.{◌≡◌, ap, sym, ◌∙◌}
use native.Mathlib.Nat.{sub-zero}
use native.Mathlib.Omega.{arith}
use borrow.Author.Rules.{rules}
use lib.ListN.{length}
use Rattle.micro.specs.Micro.{is_coordinate, number_at, first_where}
use Rattle.um.specs.Build.{first_bad}
use Rattle.um.proofs.Places.{found_stops, found_goes, found_ends}
use Rattle.um.proofs.first_bad.Statement.{statement}
use Rattle.um.proofs.first_bad.Tie as tie

abbrev invariant-loop : tie.invariant-loop-k
invariant-loop mesh k₀ k-end k =
    (first_where (λ j. not (is_coordinate (number_at mesh j))) k (k-end - k) ≡ first_bad mesh) × (k-end ≡ length mesh) × (k ≤ k-end)

abbrev decreases-loop : tie.decreases-loop-k
decreases-loop mesh k₀ k-end k = k-end - k

loop-holds : tie.Need-loop-k-init invariant-loop decreases-loop
unfolding first_bad
loop-holds c = (rw sub-zero, search rules, search rules)

returns : tie.Need-returns-then-not-is_coordinate invariant-loop decreases-loop
returns c =
    let d = c.before.before.before in
    found_stops _ _ d.before.loop-k.k _ (omega arith)
    (ap not (ap is_coordinate (sym c.before.before.number_at.ensures.0) ∙ sym c.before.is_coordinate.ensures) ∙ c.if-not-is_coordinate.true-raw)
    d.before.loop-k.invariant.0

loop-again : tie.Need-loop-k-preserved invariant-loop decreases-loop
loop-again c =
    let d = c.before.before.before in (
      found_goes _ _ d.before.loop-k.k _ (omega arith)
          (ap not (ap is_coordinate (sym c.before.before.number_at.ensures.0) ∙ sym c.before.is_coordinate.ensures) ∙ c.if-not-is_coordinate.false-raw)
          d.before.loop-k.invariant.0,
      omega arith,
      omega arith,
    )

returns-2 : tie.Need-returns invariant-loop decreases-loop
returns-2 c = found_ends _ _ c.before.loop-k.k _ (omega arith) c.before.loop-k.invariant.0

pub first_bad_spec : {M : Type 1} → statement M
first_bad_spec =
    tie.close
    (tie.spec invariant-loop decreases-loop loop-holds (λ c κs. omega arith) (λ c κs. tt) returns (λ c. omega arith) (λ c. omega arith) loop-again returns-2)
