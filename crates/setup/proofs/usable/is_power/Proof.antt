-- The smaller powers are not the cell: what the search finds from the k-th on is what it finds from the first on.
use Prim.Native.Nat.{ℕ, ◌-◌, ◌^◌, ◌≤◌}
use mathlib.Core.Path.{◌≡◌, refl, ap, sym, ◌∙◌}
use native.Mathlib.Nat.{pow-suc}
use native.Mathlib.Numerals.{add-one}
use native.Mathlib.Omega.{arith}
use borrow.Author.Tests.{eq-eqb, ne_eqb}
use lib.Dec.{eqb}
use lib.Pow.{pow_mono}
use Rattle.fields.specs.Rows.{somewhere}
use Rattle.micro.specs.Micro.{first_where}
use Rattle.um.specs.Build.{is_power}
use Rattle.um.proofs.Places.{found_stops, found_goes, found_ends}
use Rattle.setup.proofs.usable.is_power.Statement.{statement}
use Rattle.setup.proofs.usable.is_power.Tie as tie

abbrev invariant-loop : tie.invariant-loop-k
invariant-loop cell power₀ k₀ power k =
    (first_where (λ j. eqb (2 ^ j) cell) k (32 - k) ≡ first_where (λ j. eqb (2 ^ j) cell) 0 32) × (power ≡ 2 ^ k) × (k ≤ 32)

abbrev decreases-loop : tie.decreases-loop-k
decreases-loop cell power₀ k₀ power k = 32 - k

small : (k : ℕ) → k ≤ 31 → 2 ^ k ≤ 2147483648
small k h = pow_mono {i = k} {j = 31} h

loop-holds : tie.Need-loop-k-init invariant-loop decreases-loop
loop-holds c = (refl, refl, omega arith)

returns : tie.Need-returns-then-power-cell invariant-loop decreases-loop
unfolding is_power somewhere
returns c =
    let l = c.before.before.loop-k in
    ap somewhere (found_stops _ 32 l.k _ (omega arith) (eq-eqb _ _ (sym l.invariant.1 ∙ c.if-power-cell.true)) l.invariant.0)

mul_power : tie.Need-overflow_mul-power invariant-loop decreases-loop
mul_power c = let l = c.before.before.loop-k in record { fits = omega (arith, l.invariant.1, small l.k (omega arith)) }

loop-again : tie.Need-loop-k-preserved invariant-loop decreases-loop
loop-again c =
    let l = c.before.before.loop-k in (
      found_goes _ 32 l.k _ (omega arith) (ne_eqb _ _ (λ z. c.if-power-cell.false (l.invariant.1 ∙ z))) l.invariant.0,
      rw (l.invariant.1, add-one l.k, pow-suc) refl,
      omega arith,
    )

returns-2 : tie.Need-returns invariant-loop decreases-loop
unfolding is_power somewhere
returns-2 c = ap somewhere (found_ends _ 32 c.before.loop-k.k _ (omega arith) c.before.loop-k.invariant.0)

pub is_power_spec : {M : Type 1} → statement M
is_power_spec = tie.close (tie.spec invariant-loop decreases-loop loop-holds returns mul_power (λ c. omega arith) (λ c. omega arith) loop-again returns-2)
