-- The loop over the holders: what is left gives what the whole gave.
use mathlib.Core.Bool.{Bool, true, false, ◌&&◌}
use mathlib.Core.List.{List}
use mathlib.Core.Path.{◌≡◌, sym, ◌∙◌}
use Prim.Native.Nat.{ℕ, suc, ◌+◌, ◌-◌, ◌≤◌, ◌<◌}
use native.Mathlib.Omega.{arith}
use lib.Ieee.{Float}
use Rattle.section.specs.Section.{valid_section}
use Rattle.sheet.specs.Sheet.{holder_at, holders_from, all_valid}

module _ (hs : List Float) (i n : ℕ) (r : Bool) where
  next_holder : i < n → all_valid (holders_from hs i (n - i)) ≡ (valid_section (holder_at hs i) && all_valid (holders_from hs (i + 1) (n - (i + 1))))
  unfolding holders_from all_valid
  next_holder h = let e : n - i ≡ suc (n - (i + 1)) = omega arith in rw e

  pub holder_stops : i < n → valid_section (holder_at hs i) ≡ false → all_valid (holders_from hs i (n - i)) ≡ r → false ≡ r
  holder_stops h t e = (rw t at (sym (next_holder h))) ∙ e

  pub holder_goes : i < n → valid_section (holder_at hs i) ≡ true → all_valid (holders_from hs i (n - i)) ≡ r → all_valid (holders_from hs (i + 1) (n - (i + 1))) ≡ r
  holder_goes h t e = (rw t at (sym (next_holder h))) ∙ e

  pub holders_end : n ≤ i → all_valid (holders_from hs i (n - i)) ≡ r → true ≡ r
  unfolding holders_from all_valid
  holders_end h e = let z : n - i ≡ 0 = omega arith in rw z at e

-- before the first holder, all are left
pub holders_begin : (hs : List Float) (n : ℕ) → all_valid (holders_from hs 0 (n - 0)) ≡ all_valid (holders_from hs 0 n)
holders_begin hs n = let e : n - 0 ≡ n = omega arith in rw e
