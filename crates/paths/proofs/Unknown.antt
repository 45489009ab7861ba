-- Laws of the search for an unknown kind byte: what is left of it answers what the whole answers, and what a search that found none passed.
use mathlib.Core.Bool.{Bool, true, false, cond}
use mathlib.Core.List.{List}
use mathlib.Core.Path.{◌≡◌, refl}
use Prim.Native.Nat.{ℕ, zero, suc, ◌+◌, ◌-◌, ◌≤◌, ◌<◌}
use native.Mathlib.Nat.{add-zero}
use native.Mathlib.Omega.{arith}
use borrow.Author.Tests.{lt-ltb, le-ltb, ltb-false}
use lib.Dec.{ltb}
use Rattle.fields.specs.Little.{value}
use Rattle.paths.specs.Layout.{kind_byte}
use Rattle.paths.specs.Reader.{unknown_among}

module _ (bytes : List ℕ) where
  module _ (n t : ℕ) (b : Bool) (e : unknown_among bytes t (n - t) ≡ b) where
    pub unknown_stops : t < n → 1 < value (kind_byte t) bytes → true ≡ b
    unfolding unknown_among
    unknown_stops h k =
        let s : n - t ≡ suc (n - (t + 1)) = omega arith in
        rw (s, lt-ltb 1 (value (kind_byte t) bytes) k) at e

    pub unknown_goes : t < n → value (kind_byte t) bytes ≤ 1 → unknown_among bytes (t + 1) (n - (t + 1)) ≡ b
    unfolding unknown_among
    unknown_goes h k =
        let s : n - t ≡ suc (n - (t + 1)) = omega arith in
        rw (s, le-ltb 1 (value (kind_byte t) bytes) k) at e

    pub unknown_ends : n ≤ t → false ≡ b
    unfolding unknown_among
    unknown_ends h =
        let s : n - t ≡ 0 = omega arith in
        rw s at e

  either_not : (a b : Bool) → cond a true b ≡ false → (a ≡ false) × (b ≡ false)
  either_not false b e = (refl, e)
  either_not true b e = let z : ◌≡◌ {A = ℕ} 0 1 = cc in absurd (omega arith)

  pub all_known : (t c : ℕ) → unknown_among bytes t c ≡ false → (i : ℕ) → i < c → value (kind_byte (t + i)) bytes ≤ 1
  unfolding unknown_among
  all_known t zero e i h = elim h [ ]
  all_known t (suc c) e zero h = rw add-zero (ltb-false 1 _ (either_not _ _ e).0)
  all_known t (suc c) e (suc i) h =
      let s : t + suc i ≡ t + 1 + i = omega arith in
      rw s (all_known (t + 1) c (either_not (ltb 1 (value (kind_byte t) bytes)) _ e).1 i (omega arith))

  pub none_unknown : (t c : ℕ) → ((i : ℕ) → i < c → value (kind_byte (t + i)) bytes ≤ 1) → unknown_among bytes t c ≡ false
  unfolding unknown_among
  none_unknown t zero g = refl
  none_unknown t (suc c) g =
      let k : value (kind_byte t) bytes ≤ 1 = rw add-zero at (g 0 (omega arith)) in
      rw (le-ltb 1 (value (kind_byte t) bytes) k)
      (none_unknown (t + 1) c (λ i h. let s : t + suc i ≡ t + 1 + i = omega arith in rw s at (g (suc i) (omega arith))))
