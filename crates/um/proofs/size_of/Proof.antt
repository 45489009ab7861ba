-- The smaller powers do not fit: what the search finds from the k-th on is what it finds from the first on.
use Prim.Native.Nat.{ℕ, ◌-◌, ◌^◌, ◌≤◌}
use mathlib.Core.Path.{◌≡◌, refl, ap, ◌∙◌}
use native.Mathlib.Nat.{pow-suc}
use native.Mathlib.Numerals.{add-one}
use native.Mathlib.Omega.{arith}
use lib.Pow.{pow_pos, pow_mono}
use Rattle.micro.specs.Micro.{first_where}
use Rattle.um.specs.Grid.{fits, power_at, size_of}
use Rattle.um.proofs.Places.{found_stops, found_goes, found_ends}
use Rattle.um.proofs.size_of.Statement.{statement}
use Rattle.um.proofs.size_of.Tie as tie

abbrev invariant-loop : tie.invariant-loop-k
invariant-loop e lent cell₀ k₀ cell k =
    (first_where (λ j. fits e lent (2 ^ j)) k (32 - k) ≡ first_where (λ j. fits e lent (2 ^ j)) 0 32) × (cell ≡ 2 ^ k) × (k ≤ 32)

abbrev decreases-loop : tie.decreases-loop-k
decreases-loop e lent cell₀ k₀ cell k = 32 - k

small : (k : ℕ) → k ≤ 31 → 2 ^ k ≤ 2147483648
small k h = pow_mono {i = k} {j = 31} h

loop-holds : tie.Need-loop-k-init invariant-loop decreases-loop
loop-holds c = (refl, refl, omega arith)

fits-requires : tie.Need-fits-requires invariant-loop decreases-loop
fits-requires c κs = let p = c.before.before.requires in (p.0, p.1, p.2, p.3, rw c.before.loop-k.invariant.1 (pow_pos c.before.loop-k.k))

returns : tie.Need-returns-then-fits invariant-loop decreases-loop
unfolding size_of power_at
returns c =
    let l = c.before.before.before.loop-k in
    l.invariant.1 ∙ ap power_at (found_stops _ 32 l.k _ (omega arith) (rw (← l.invariant.1, ← c.before.fits.ensures) c.if-fits.true) l.invariant.0)

mul-cell : tie.Need-overflow_mul-cell invariant-loop decreases-loop
mul-cell c = let l = c.before.before.before.loop-k in record { fits = omega (arith, l.invariant.1, small l.k (omega arith)) }

loop-again : tie.Need-loop-k-preserved invariant-loop decreases-loop
loop-again c =
    let l = c.before.before.before.loop-k in (
      found_goes _ 32 l.k _ (omega arith) (rw (← l.invariant.1, ← c.before.fits.ensures) c.if-fits.false) l.invariant.0,
      rw (l.invariant.1, add-one l.k, pow-suc) refl,
      omega arith,
    )

returns-2 : tie.Need-returns invariant-loop decreases-loop
unfolding size_of power_at
returns-2 c = ap power_at (found_ends _ 32 c.before.loop-k.k _ (omega arith) c.before.loop-k.invariant.0)

pub size_of_spec : {M : Type 1} → statement M
size_of_spec = tie.close (tie.spec invariant-loop decreases-loop loop-holds fits-requires returns mul-cell (λ c. omega arith) (λ c. omega arith) loop-again returns-2)
