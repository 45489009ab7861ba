-- The triangle's first j numbers are finite.
use mathlib.Core.Bool.{Bool}
use mathlib.Core.List.{List}
use mathlib.Core.Path.{◌≡◌, refl}
use Prim.Native.Nat.{ℕ, ◌-◌, ◌*◌, ◌≤◌}
use native.Mathlib.Omega.{arith}
use borrow.Author.Tests.{not-true, not-false}
use Rattle.fields.specs.Rows.{finite}
use Rattle.single.specs.Single.{value_of}
use Rattle.stl.specs.Reader.{number_of}
use Rattle.stl.proofs.Numbers.{Finite, bad, good, both, one}
use Rattle.stl.proofs.bad_in.Statement.{statement}
use Rattle.stl.proofs.bad_in.Tie as tie

abbrev invariant-loop : tie.invariant-loop-j
invariant-loop bytes t j₀ j = Finite bytes (9 * t) j × (j ≤ 9)

abbrev decreases-loop : tie.decreases-loop-j
decreases-loop bytes t j₀ j = 9 - j

loop-holds : tie.Need-loop-j-init invariant-loop decreases-loop
loop-holds c = (λ i h. absurd (omega arith), omega arith)

bits_at-requires : tie.Need-bits_at-requires invariant-loop decreases-loop
bits_at-requires c κs = (omega arith, omega arith)

-- what is known of a number after its test
tested : (bytes : List ℕ) (k x : ℕ) (b t : Bool) → value_of x ≡ number_of bytes k → b ≡ finite (value_of x) → b ≡ t → finite (number_of bytes k) ≡ t
tested bytes k x b t p q e = rw (← p, ← q) e

returns : tie.Need-returns-then-not-is_finite invariant-loop decreases-loop
returns c = bad _ _ 9 _ (omega arith) (tested _ _ _ _ _ c.before.before.bits_at.ensures c.before.is_finite.ensures (c.if-not-is_finite.true))

loop-again : tie.Need-loop-j-preserved invariant-loop decreases-loop
loop-again c =
    let l = c.before.before.before.before.loop-j in (
      both _ _ l.j 1 _ l.invariant.0
          (one _ _ (tested _ _ _ _ _ c.before.before.bits_at.ensures c.before.is_finite.ensures (c.if-not-is_finite.false))) refl,
      omega arith,
    )

returns-2 : tie.Need-returns invariant-loop decreases-loop
returns-2 c =
    let l = c.before.loop-j in
    good _ _ 9 (λ i h. l.invariant.0 i (omega arith))

pub bad_in_spec : {M : Type 1} → statement M
bad_in_spec = tie.close (tie.spec invariant-loop decreases-loop loop-holds bits_at-requires (λ c κs. tt) returns (λ c. omega arith) (λ c. omega arith) loop-again returns-2)
