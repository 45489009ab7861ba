-- A signed number that is not below 0, as a u64.
use Rattle.std.proofs.Common.{◌≡◌, ℕ, ◌^◌, ◌<◌, T, ℤ, pos, nat_abs, sym, ap, ◌∙◌, subst, arith, w64, Fits, SFits, to_z, of_z}
use lib.Signed.{non_neg}
use mir.ValLaws.{to_z_pos}

-- ---- a signed number that is n, as a u64
pub cast_fits : (z : ℤ) (n : ℕ) → z ≡ pos n → n < 2 ^ 63 → T (non_neg z) × Fits w64 (nat_abs z)
cast_fits z n e h = subst (λ (y : ℤ). T (non_neg y) × Fits w64 (nat_abs y)) (sym e) (tt, record { fits = wider n h })
  where
    wider : (n : ℕ) → n < 2 ^ 63 → n < 2 ^ 64
    wider n h = omega arith

-- written and read back
pub kept : (z : ℤ) (n : ℕ) → z ≡ pos n → n < 2 ^ 63 → to_z w64 (of_z w64 z) ≡ pos n
kept z n e h = ap (λ (y : ℤ). to_z w64 (of_z w64 y)) e ∙ to_z_pos w64 n h

pub pos_fits : (z : ℤ) (n : ℕ) → z ≡ pos n → n < 2 ^ 63 → SFits w64 z
pos_fits z n e h = subst (SFits w64) (sym e) (record { sfits = h })
