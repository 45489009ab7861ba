-- The cells on an axis, arm by arm.
use mathlib.Core.Bool.{false}
use mathlib.Core.Path.{◌≡◌, refl, ap, ◌∙◌}
use Prim.Native.Nat.{ℕ, ◌+◌, ◌≤◌, ◌<◌, min}
use native.Mathlib.Nat.{min-le_right}
use native.Mathlib.Omega.{arith}
use borrow.Author.Tests.{le-leb, lt-leb}
use lib.Dec.{leb}
use lib.Ieee.{Float, lt}
use Rattle.numbers.specs.Reals.{f0}
use Rattle.rules.proofs.Branches.{either, taken, left}
use Rattle.numbers.specs.Rounding.{truncated}
use Rattle.grid.specs.declared.Header.{Header}
use Rattle.query.specs.declared.Span.{Span}
use Rattle.query.specs.Patch.{held_to, axis_span, patch_of, nowhere}

module _ (count first : ℕ) (lo hi : Float) (f : first ≡ truncated lo) (right : lt hi f0 ≡ false) where
  pub held_none : count ≤ first → nowhere ≡ held_to count lo hi
  unfolding held_to
  held_none h = left _ _ _ _ right (taken _ _ _ _ (rw f at (le-leb count first h)) refl)

  pub held_some : (last past : ℕ) → last ≡ truncated hi → past ≡ min (last + 1) count → first < count
      → record { first = first; past = past } ≡ held_to count lo hi
  unfolding held_to
  held_some last past l p h =
      left _ _ _ _ right (left _ _ _ _ (rw f at (lt-leb count first h)) (ap (λ (n : ℕ). record { first = n; past = past }) f
      ∙ ap (λ (n : ℕ). record { first = truncated lo; past = n }) (p ∙ ap (λ (n : ℕ). min (n + 1) count) l)))

-- the cells are in the grid
held_inside : (count : ℕ) (lo hi : Float) → (held_to count lo hi).past ≤ count
unfolding held_to
held_inside count lo hi =
    either (λ (s : Span). s.past ≤ count) (lt hi f0) _ _ (λ _. omega arith)
    (λ _. either (λ (s : Span). s.past ≤ count) (leb count (truncated lo)) _ _ (λ _. omega arith) (λ _. min-le_right (truncated hi + 1) count))

pub patch_inside : (h : Header) (px py qx qy reach : Float) → ((patch_of h px py qx qy reach).x1 ≤ h.columns) × ((patch_of h px py qx qy reach).y1 ≤ h.rows)
unfolding patch_of axis_span
patch_inside h px py qx qy reach = (held_inside h.columns _ _, held_inside h.rows _ _)
