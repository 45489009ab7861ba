-- `curve_of` meets its contract: each of its parabolas comes out as near by computing.
use mathlib.Core.Path.{◌≡◌}
use mathlib.Core.Bool.{true}
use Prim.Native.Nat.{ℕ, zero, suc, ◌≤◌}
use native.Mathlib.Omega.{arith}
use borrow.Author.Tests.{le-ltb}
use lib.Ieee.{Float, of_bits}
use Rattle.seeds.specs.Near.{is_near, is_near_by, is_curve}
use Rattle.seeds.proofs.curve_of.Statement.{statement}
use Rattle.seeds.proofs.curve_of.Tie as tie

-- i is none of the numbers below n, as a match that has tried them all knows it
Nots : ℕ → ℕ → Type 0
Nots i zero = Unit {0}
Nots i (suc n) = Nots i n × (i ≡ n → ⊥)

none : (n i : ℕ) → Nots i n → n ≤ i
unfolding Nots
none zero i h = omega arith
none (suc n) i h = let k = none n i h.0 in let e = h.1 in omega arith

past : (i : ℕ) (a b c : Float) → Nots i 16 → is_curve i a b c ≡ true
unfolding is_curve
past i a b c h = let k = none 16 i h in rw (le-ltb i 8 (omega arith), le-ltb i 16 k)

last : tie.Need-returns-in_default
unfolding Nots
last c = past _ _ _ _ c.in_default.in_default-own.rest

pub curve_of_spec : {M : Type 1} → statement M
unfolding is_curve is_near_by is_near of_bits
curve_of_spec =
    tie.close
    (tie.spec
    (λ c. rw c.in-0.is) (λ c. rw c.in-1.is) (λ c. rw c.in-2.is) (λ c. rw c.in-3.is)
    (λ c. rw c.in-4.is) (λ c. rw c.in-5.is) (λ c. rw c.in-6.is) (λ c. rw c.in-7.is)
    (λ c. rw c.in-8.is) (λ c. rw c.in-9.is) (λ c. rw c.in-10.is) (λ c. rw c.in-11.is)
    (λ c. rw c.in-12.is) (λ c. rw c.in-13.is) (λ c. rw c.in-14.is) (λ c. rw c.in-15.is)
    last)
