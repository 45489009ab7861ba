-- Document 01, "Numbers", total order: IEEE 754-2019, clause 5.10, which Rust's total_cmp follows. It is what levels are sorted by.
use Rattle.std.specs.Prelude.{◌≡◌, Bool, true, false, cond, not, ◌&&◌, ◌⊎◌, is_nan, Float}
use Rattle.std.specs.Float.{nan, inf, fin}
use Rattle.std.specs.Float.Ieee.{lt}

-- whether a number carries a minus, as -0.0 does
unfoldable pub sign_of : Float → Bool
sign_of nan = false
sign_of (inf s) = s
sign_of (fin s m e) = s

-- Whether x comes before y: as the numbers lie, and of two that compare equal -0.0 before +0.0. There is one NaN here; it comes last, where the clause puts the
-- one without a minus.
unfoldable pub total_less : Float → Float → Bool
total_less x y = cond (lt x y) true (cond (lt y x) false (cond (is_nan x) false (cond (is_nan y) true (sign_of x && not (sign_of y)))))

-- What makes it a total order: two that are not the same come one before the other, never both ways, and what comes before the second of a pair comes
-- before the third.
pub record TotalOrder (x y z : Float) : Type 0 where
  pub total : (x ≡ y) ⊎ (total_less x y ≡ true) ⊎ (total_less y x ≡ true)
  pub antisymmetric : total_less x y ≡ true → total_less y x ≡ false
  pub transitive : total_less x y ≡ true → total_less y z ≡ true → total_less x z ≡ true
