-- A loop over the runs of a table: what is left to test tells what the whole does; and what holds of all runs holds of each.
use mathlib.Core.Bool.{true, false, ◌&&◌}
use mathlib.Core.List.{List}
use mathlib.Core.Path.{◌≡◌, sym, ◌∙◌}
use Prim.Native.Nat.{ℕ, suc, ◌+◌, ◌-◌, ◌≤◌, ◌<◌}
use native.Mathlib.Omega.{arith}
use lib.Ieee.{Float}
use Rattle.join.specs.Join.{run_in, runs_in}
use Rattle.moves.specs.Begin.{is_run, are_runs}

module _ (feed : Float) (t : List Float) where
  pub all_next : (m n : ℕ) → m < n → are_runs feed (runs_in t m (n - m)) ≡ (is_run feed (run_in t m) && are_runs feed (runs_in t (m + 1) (n - (m + 1))))
  unfolding are_runs runs_in
  all_next m n h = let e : n - m ≡ suc (n - (m + 1)) = omega arith in rw e

  pub all_fails : (m n : ℕ) → m < n → is_run feed (run_in t m) ≡ false → are_runs feed (runs_in t m (n - m)) ≡ are_runs feed (runs_in t 0 n)
      → false ≡ are_runs feed (runs_in t 0 n)
  all_fails m n h e g = sym (all_next m n h ∙ (rw e)) ∙ g

  pub all_goes : (m n : ℕ) → m < n → is_run feed (run_in t m) ≡ true → are_runs feed (runs_in t m (n - m)) ≡ are_runs feed (runs_in t 0 n)
      → are_runs feed (runs_in t (m + 1) (n - (m + 1))) ≡ are_runs feed (runs_in t 0 n)
  all_goes m n h e g = sym (all_next m n h ∙ (rw e)) ∙ g

  pub all_starts : (n : ℕ) → are_runs feed (runs_in t 0 (n - 0)) ≡ are_runs feed (runs_in t 0 n)
  all_starts n = let e : n - 0 ≡ n = omega arith in rw e

  pub all_end : (m n : ℕ) → n ≤ m → are_runs feed (runs_in t m (n - m)) ≡ true
  unfolding are_runs runs_in
  all_end m n h = let e : n - m ≡ 0 = omega arith in rw e
