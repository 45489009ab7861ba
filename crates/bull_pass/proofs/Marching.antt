-- The blocks along an edge, in a function's loop: one step, and what is left of the run.
use mathlib.Core.Bool.{Bool, true, false, cond}
use mathlib.Core.Path.{◌≡◌, refl, ap, ◌∙◌}
use Prim.Native.Nat.{ℕ, suc, ◌+◌, ◌-◌, ◌≤◌, ◌<◌}
use native.Mathlib.Omega.{arith}
use lib.Ieee.{Float, le}
use Rattle.numbers.specs.Reals.{◌⊕◌, ◌⊗◌, ◌⊘◌, f1, f2, min_of}
use Rattle.rules.proofs.Branches.{taken, left, bool_called}
use Rattle.cutters.specs.declared.Edge.{Edge}
use Rattle.bull_pass.specs.declared.Strip.{Strip}
use Rattle.bull_pass.specs.declared.March.{March}
use Rattle.bull_pass.specs.Inside.{piece_under, march_step, march_run}

module _ (k : Strip) (e : Edge) (s : March) (hi : Float) (u : Bool) (p : hi ≡ min_of (s.lo ⊕ s.w) f1) (r : u ≡ piece_under k e s.lo hi) where
  pub step_under : u ≡ true → ◌≡◌ {A = March} (record { lo = hi; w = f2 ⊗ s.w; done = le f1 hi }) (march_step k e s)
  unfolding march_step
  step_under h = taken _ _ _ _ (bool_called _ _ _ (r ∙ ap (piece_under k e s.lo) p) h) (rw p)

  pub step_over : u ≡ false → ◌≡◌ {A = March} (record { lo = s.lo; w = s.w ⊘ f2; done = false }) (march_step k e s)
  unfolding march_step
  step_over h = left _ _ _ _ (bool_called _ _ _ (r ∙ ap (piece_under k e s.lo) p) h) refl

module _ (k : Strip) (e : Edge) (n j : ℕ) (s : March) (r : Bool) (run : march_run k e (n - j) s ≡ r) where
  next : (m : ℕ) (u : March) → n - j ≡ suc m → u ≡ march_step k e s → cond u.done true (march_run k e m u) ≡ r
  unfolding march_run
  next m u h p = rw p (rw h at run)

  pub run_next : (u : March) → j < n → u ≡ march_step k e s → u.done ≡ false → march_run k e (n - (j + 1)) u ≡ r
  run_next u h p d = let m = n - (j + 1) in left u.done (march_run k e m u) true (march_run k e m u) d refl ∙ next m u (omega arith) p

  pub run_done : (u : March) → j < n → u ≡ march_step k e s → u.done ≡ true → true ≡ r
  run_done u h p d = let m = n - (j + 1) in taken u.done true true (march_run k e m u) d refl ∙ next m u (omega arith) p

  pub run_out : n ≤ j → false ≡ r
  unfolding march_run
  run_out h = let z : n - j ≡ 0 = omega arith in rw z at run
