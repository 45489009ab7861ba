-- The numbers before k are finite: what the search finds from k on is what it finds from the first number on.
use mathlib.Core.Bool.{Bool}
use mathlib.Core.List.{List}
use Prim.Native.Nat.{ℕ, ◌-◌, ◌≤◌}
use mathlib.Core.Path.{◌≡◌}
use native.Mathlib.Nat.{sub-zero}
use native.Mathlib.Omega.{arith}
use borrow.Author.Rules.{rules}
use lib.Ieee.{binary64, of_bits}
use Rattle.fields.specs.Little.{value}
use Rattle.fields.specs.Rows.{finite, first_bad}
use Rattle.job.specs.Layout.{number, wide}
use borrow.Author.Tests.{not-true, not-false}
use Rattle.job.specs.Reader.{number_of}
use Rattle.fields.proofs.Rows.{bad_stops, bad_goes, bad_ends}
use Rattle.job.proofs.first_bad.Statement.{statement}
use Rattle.job.proofs.first_bad.Tie as tie

abbrev invariant-loop : tie.invariant-loop-k
invariant-loop bytes count k₀ k = (first_bad (number_of bytes) k (count - k) ≡ first_bad (number_of bytes) 0 count) × (k ≤ count)

abbrev decreases-loop : tie.decreases-loop-k
decreases-loop bytes count k₀ k = count - k

loop-holds : tie.Need-loop-k-init invariant-loop decreases-loop
loop-holds c = (rw sub-zero, search rules)

-- what is known of number k after its test
tested : (bytes : List ℕ) (k x : ℕ) (b t : Bool) → x ≡ value (number wide k) bytes → b ≡ finite (of_bits binary64 x) → b ≡ t → finite (number_of bytes k) ≡ t
unfolding number_of
tested bytes k x b t p q e = rw (← p, ← q) e

returns : tie.Need-returns-then-not-is_finite invariant-loop decreases-loop
returns c =
    let d = c.before.before.before in
    bad_stops _ _ d.before.loop-k.k _ d.loop-k-test.true
    (tested _ _ _ _ _ c.before.before.bits_of.ensures c.before.is_finite.ensures (c.if-not-is_finite.true)) d.before.loop-k.invariant.0

loop-again : tie.Need-loop-k-preserved invariant-loop decreases-loop
loop-again c =
    let d = c.before.before.before in (
      bad_goes _ _ d.before.loop-k.k _ d.loop-k-test.true (tested _ _ _ _ _ c.before.before.bits_of.ensures c.before.is_finite.ensures
          (c.if-not-is_finite.false)) d.before.loop-k.invariant.0,
      omega arith,
    )

returns-2 : tie.Need-returns invariant-loop decreases-loop
returns-2 c = bad_ends _ _ c.before.loop-k.k _ (omega arith) c.before.loop-k.invariant.0

pub first_bad_spec : {M : Type 1} → statement M
first_bad_spec = tie.close
    (tie.spec invariant-loop decreases-loop loop-holds (λ c κs. omega arith) (λ c κs. tt) returns (λ c. omega arith) (λ c. omega arith) loop-again returns-2)
