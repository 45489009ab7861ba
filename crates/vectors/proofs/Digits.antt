-- A digit is below 16, and n of them are below 16 ^ n.
use Prim.Native.Nat.{ℕ, ◌+◌, ◌*◌, ◌^◌, ◌≤◌, ◌<◌}
use native.Mathlib.Nat.{pow-suc, pow-le-pow_right}
use native.Mathlib.Numerals.{add-one}
use native.Mathlib.Omega.{arith}
use borrow.Author.Tests.{leb-true}
use lib.Dec.{leb, lit<}
use Rattle.rules.proofs.Branches.{either}
use Rattle.vectors.specs.Lines.{digit_of}

pub digit_below : (b : ℕ) → digit_of b < 16
unfolding digit_of
digit_below b =
    either (λ (n : ℕ). n < 16) (leb b 57) _ _
    (λ e. either (λ (n : ℕ). n < 16) (leb 48 b) _ _ (λ f. omega (arith, leb-true b 57 e)) (λ f. lit< tt))
    (λ e. either (λ (n : ℕ). n < 16) (leb b 102) _ _
    (λ f. either (λ (n : ℕ). n < 16) (leb 97 b) _ _ (λ g. omega (arith, leb-true b 102 f)) (λ g. lit< tt)) (λ f. lit< tt))

-- one digit more
pub more_fits : (n d i : ℕ) → n < 16 ^ i → d < 16 → n * 16 + d < 16 ^ (i + 1)
more_fits n d i h g = rw (add-one, pow-suc) (omega arith)

pub word_fits : (n d i : ℕ) → n < 16 ^ i → d < 16 → i < 16 → n * 16 + d < 2 ^ 64
word_fits n d i h g l = let p : 16 ^ i ≤ 16 ^ 15 = pow-le-pow_right {n = 16} (lit< tt) {i = i} {j = 15} (omega arith) in omega arith
