-- Loops over a test that must hold of each: what is left of the range or the list gives what the whole gave.
use mathlib.Core.Bool.{Bool, true, false, not, ◌&&◌}
use mathlib.Core.List.{List, [], ◌∷◌}
use mathlib.Core.Logic.{⊎_elim}
use mathlib.Core.Path.{◌≡◌, refl, sym, ◌∙◌}
use Prim.Native.Nat.{ℕ, zero, suc, ◌+◌, ◌-◌, ◌*◌, ◌≤◌, ◌<◌}
use native.Mathlib.Nat.{mul-le-mul_right, add-mul, eq-or-lt_of_le}
use native.Mathlib.Numerals.{add-one}
use native.Mathlib.Omega.{arith}
use borrow.Author.Tests.{not-true, not-false}
use lib.ListN.{length, get_or, drop, drop_of_length-le}
use lib.Seq.{drop-cons}
use Rattle.rules.proofs.Branches.{both_true}
use Rattle.rules.specs.Every.{every, each}

-- a test that a call made, whose answer was negated
pub failed : (r t : Bool) → r ≡ t → not r ≡ true → t ≡ false
failed r t e h = sym e ∙ not-true r h

pub passed : (r t : Bool) → r ≡ t → not r ≡ false → t ≡ true
passed r t e h = sym e ∙ not-false r h

-- ---- a range: a number that fails, one that passes, the end
module _ (test : ℕ → Bool) (a b : ℕ) (r : Bool) where
  next : a < b → every test a (b - a) ≡ (test a && every test (a + 1) (b - (a + 1)))
  unfolding every
  next h = let e : b - a ≡ suc (b - (a + 1)) = omega arith in rw e

  pub every_stops : a < b → test a ≡ false → every test a (b - a) ≡ r → false ≡ r
  every_stops h t i = (rw t at (sym (next h))) ∙ i

  pub every_goes : a < b → test a ≡ true → every test a (b - a) ≡ r → every test (a + 1) (b - (a + 1)) ≡ r
  every_goes h t i = (rw t at (sym (next h))) ∙ i

  pub every_ends : b ≤ a → every test a (b - a) ≡ r → true ≡ r
  unfolding every
  every_ends h i = let e : b - a ≡ 0 = omega arith in rw e at i

-- ---- a list, at its number j
module _ (test : ℕ → Bool) (ms : List ℕ) (j : ℕ) where
  pub each_stops : j < length ms → test (get_or ms j 0) ≡ false → each test (drop j ms) ≡ each test ms → false ≡ each test ms
  unfolding each
  each_stops h t i = (rw (drop-cons ms j 0 h, t)) ∙ i

  pub each_goes : j < length ms → test (get_or ms j 0) ≡ true → each test (drop j ms) ≡ each test ms → each test (drop (j + 1) ms) ≡ each test ms
  unfolding each
  each_goes h t i = rw (add-one j) (rw (drop-cons ms j 0 h, t) at i)

  pub each_ends : length ms ≤ j → each test (drop j ms) ≡ each test ms → true ≡ each test ms
  unfolding each
  each_ends h i = rw (drop_of_length-le ms h) at i

-- row y lies before row y1
pub in_rows : (columns x1 y y1 : ℕ) → x1 ≤ columns → y < y1 → y * columns + x1 ≤ y1 * columns
in_rows columns x1 y y1 hc hy =
    omega (arith, mul-le-mul_right {m = y + 1} {n = y1} columns (omega arith), add-mul y 1 columns)

-- ---- of each, from all, and of all, from each
pub every_at : (test : ℕ → Bool) (a n k : ℕ) → every test a n ≡ true → a ≤ k → k < a + n → test k ≡ true
unfolding every
every_at test a zero k e h l = absurd (omega arith)
every_at test a (suc n) k e h l =
    let p = both_true (test a) (every test (a + 1) n) e in
    ⊎_elim (λ q. sub q p.0) (λ q. every_at test (a + 1) n k p.1 (omega arith) (omega arith)) (eq-or-lt_of_le h)
  where
    sub : a ≡ k → test a ≡ true → test k ≡ true
    sub q t = rw (← q) t

pub each_at : (test : ℕ → Bool) (ms : List ℕ) (k : ℕ) → each test ms ≡ true → k < length ms → test (get_or ms k 0) ≡ true
unfolding each
each_at test [] k e h = absurd (omega arith)
each_at test (m ∷ ms) zero e h = (both_true (test m) (each test ms) e).0
each_at test (m ∷ ms) (suc k) e h = each_at test ms k (both_true (test m) (each test ms) e).1 (omega arith)

pub every_all : (test : ℕ → Bool) (a n : ℕ) → ((k : ℕ) → a ≤ k → k < a + n → test k ≡ true) → every test a n ≡ true
unfolding every
every_all test a zero f = refl
every_all test a (suc n) f =
    rw (f a (omega arith) (omega arith), every_all test (a + 1) n (λ k h l. f k (omega arith) (omega arith)))

pub each_all : (test : ℕ → Bool) (ms : List ℕ) → ((k : ℕ) → k < length ms → test (get_or ms k 0) ≡ true) → each test ms ≡ true
unfolding each
each_all test [] f = refl
each_all test (m ∷ ms) f =
    let e : test m ≡ true = f 0 (omega arith) in
    rw (e, each_all test ms (λ k h. f (suc k) (omega arith)))
