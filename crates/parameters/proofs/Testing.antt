-- The levels read back from a table are those that were written.
use mathlib.Core.Bool.{Bool, true, false, ◌||◌}
use mathlib.Core.List.{List, [], ◌∷◌, ◌++◌, map, append_assoc}
use mathlib.Core.Path.{◌≡◌, refl, sym, ap, ◌∙◌}
use Prim.Native.Nat.{ℕ, suc, ◌+◌, ◌-◌, ◌*◌, ◌/◌, ◌≤◌, ◌<◌}
use native.Mathlib.Omega.{arith}
use lib.Ieee.{Float, nan}
use lib.ListN.{length, length-append}
use Rattle.fives.specs.Tables.{written}
use Rattle.fives.proofs.Writing.{written_at}
use Rattle.levels.specs.declared.Level.{Level}
use Rattle.levels.specs.Levels.{five_of}
use Rattle.levels.specs.Inside.{level_in}
use Rattle.parameters.specs.Terms.{any_of}
use Rattle.parameters.specs.Inside.{levels_in}

level_read : (t : List Float) (xs ys : List Level) (x : Level) → length xs * 5 + 5 ≤ length t → level_in (written (map five_of (xs ++ x ∷ ys)) t) (length xs) ≡ x
level_read t xs ys x h =
    let z : length xs * 5 ≡ length xs * 5 + 0 = omega arith in
    rw (
      written_at five_of (λ _. refl) xs ys x t 4 nan h (omega arith),
      written_at five_of (λ _. refl) xs ys x t 3 nan h (omega arith),
      written_at five_of (λ _. refl) xs ys x t 2 nan h (omega arith),
      written_at five_of (λ _. refl) xs ys x t 1 nan h (omega arith),
      z,
      written_at five_of (λ _. refl) xs ys x t 0 nan h (omega arith),
    )

levels_from_lem : (t : List Float) (xs ys : List Level) → (length xs + length ys) * 5 ≤ length t
    → levels_in (written (map five_of (xs ++ ys)) t) (length xs) (length ys) ≡ ys
unfolding levels_in
levels_from_lem t xs [] h = refl
levels_from_lem t xs (y ∷ ys) h =
    let e : (xs ++ y ∷ []) ++ ys ≡ xs ++ y ∷ ys = append_assoc xs (y ∷ []) ys in
    let n : length (xs ++ y ∷ []) ≡ length xs + 1 = length-append xs (y ∷ []) in
    let r = levels_from_lem t (xs ++ y ∷ []) ys (omega arith) in
    rw (level_read t xs ys y (omega arith)) (ap (λ (l : List Level). y ∷ l) (rw (e, n) at r))

pub levels_read : (t : List Float) (ls : List Level) → length ls ≤ length t / 5 → levels_in (written (map five_of ls) t) 0 (length ls) ≡ ls
levels_read t ls h = levels_from_lem t [] ls (omega arith)

-- ---- a loop over the levels of a table

module _ (test : Level → Bool) (t : List Float) where
  pub any_next : (m n : ℕ) → m < n → any_of test (levels_in t m (n - m)) ≡ (test (level_in t m) || any_of test (levels_in t (m + 1) (n - (m + 1))))
  unfolding any_of levels_in
  any_next m n h = let e : n - m ≡ suc (n - (m + 1)) = omega arith in rw e

  -- what is left to test tells what the whole does
  pub any_holds : (m n : ℕ) → m < n → test (level_in t m) ≡ true → any_of test (levels_in t m (n - m)) ≡ any_of test (levels_in t 0 n)
      → true ≡ any_of test (levels_in t 0 n)
  any_holds m n h e g = sym (any_next m n h ∙ (rw e)) ∙ g

  pub any_goes : (m n : ℕ) → m < n → test (level_in t m) ≡ false → any_of test (levels_in t m (n - m)) ≡ any_of test (levels_in t 0 n)
      → any_of test (levels_in t (m + 1) (n - (m + 1))) ≡ any_of test (levels_in t 0 n)
  any_goes m n h e g = sym (any_next m n h ∙ (rw e)) ∙ g

  pub any_starts : (n : ℕ) → any_of test (levels_in t 0 (n - 0)) ≡ any_of test (levels_in t 0 n)
  any_starts n = let e : n - 0 ≡ n = omega arith in rw e

  pub any_end : (m n : ℕ) → n ≤ m → any_of test (levels_in t m (n - m)) ≡ false
  unfolding any_of levels_in
  any_end m n h = let e : n - m ≡ 0 = omega arith in rw e
