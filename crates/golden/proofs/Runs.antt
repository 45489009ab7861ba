-- The search that may break off, for any objective f: r is what the whole run gives, and what is left of it, from where the loop stands, gives r too.
use mathlib.Core.Bool.{true, false, cond}
use mathlib.Core.Path.{◌≡◌, refl, ◌∙◌}
use Prim.Native.Nat.{ℕ, suc, ◌+◌, ◌-◌, ◌≤◌, ◌<◌}
use native.Mathlib.Omega.{arith}
use lib.Ieee.{Float, lt}
use Rattle.numbers.specs.Reals.{max_of}
use Rattle.rules.proofs.Branches.{taken, left}
use Rattle.golden.specs.declared.Golden.{Golden}
use Rattle.golden.specs.declared.Bracket.{Bracket}
use Rattle.golden.specs.Search.{rises, golden_start, golden_step}
use Rattle.golden.specs.Upper.{held_of, bracket_start, bracket_step, apart, bracket_run, upper_of, concave_max_upper}

pub bracket_begins : (f : Float → Float) (lo hi fa fb : Float) (g : Golden) → g ≡ golden_start f lo hi → fa ≡ f lo → fb ≡ f hi
    → ◌≡◌ {A = Bracket} (record { g = g; fa = fa; fb = fb }) (bracket_start f lo hi)
unfolding bracket_start
bracket_begins f lo hi fa fb g e p q = rw (e, p, q)

pub bracket_steps : (f : Float → Float) (s t : Bracket) (g : Golden) → g ≡ golden_step rises f s.g → t ≡ held_of s g → t ≡ bracket_step f s
unfolding bracket_step
bracket_steps f s t g e p = rw (p, e)

module _ (f : Float → Float) (n k : ℕ) (s r : Bracket) (run : bracket_run f (n - k) s ≡ r) where
  next : (m : ℕ) (t : Bracket) → n - k ≡ suc m → t ≡ bracket_step f s → cond (apart t) (bracket_run f m t) t ≡ r
  unfolding bracket_run
  next m t h e = rw e (rw h at run)

  pub run_next : (t : Bracket) → k < n → t ≡ bracket_step f s → apart t ≡ true → bracket_run f (n - (k + 1)) t ≡ r
  run_next t h e p =
      let m = n - (k + 1) in taken (apart t) (bracket_run f m t) (bracket_run f m t) t p refl ∙ next m t (omega arith) e

  pub run_breaks : (t : Bracket) → k < n → t ≡ bracket_step f s → apart t ≡ false → t ≡ r
  run_breaks t h e p = let m = n - (k + 1) in left (apart t) t (bracket_run f m t) t p refl ∙ next m t (omega arith) e

  pub run_ends : n ≤ k → s ≡ r
  unfolding bracket_run
  run_ends h = let z : n - k ≡ 0 = omega arith in rw z at run

module _ (f : Float → Float) (lo hi r : Float) where
  pub upper_searched : (s t : Bracket) → lt lo hi ≡ true → s ≡ bracket_start f lo hi → t ≡ bracket_run f 60 s → r ≡ upper_of t → r ≡ concave_max_upper f lo hi
  unfolding concave_max_upper
  upper_searched s t h e p q = taken _ _ _ _ h (rw (q, p, e))

  pub upper_ends : (fa fb : Float) → lt lo hi ≡ false → fa ≡ f lo → fb ≡ f hi → r ≡ max_of fa fb → r ≡ concave_max_upper f lo hi
  unfolding concave_max_upper
  upper_ends fa fb h p q e = left _ _ _ _ h (rw (e, p, q))

pub ruleset run_laws = (bracket_begins, bracket_steps, run_next, run_breaks, run_ends, upper_searched, upper_ends)
