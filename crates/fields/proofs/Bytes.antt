-- What bytes stand for, taken apart: a law over the width, from which the reader of each width follows.
use mathlib.Core.List.{List, [], ◌∷◌, ◌++◌}
use mathlib.Core.Path.{◌≡◌, refl, sym}
use Prim.Native.Nat.{ℕ, zero, suc, ◌+◌, ◌*◌, ◌^◌, ◌≤◌, ◌<◌}
use native.Mathlib.Nat.{pow-succ', one-mul, mul_assoc, mul_comm}
use native.Mathlib.Omega.{arith}
use lib.ListN.{length, get_or, take, drop, length-drop}
use lib.Seq.{drop-cons, drop-drop, take-add, take-take, length-take-le}
use Rattle.fields.specs.Little.{little, Field, field, value}

little_append : (xs ys : List ℕ) → little (xs ++ ys) ≡ little xs + 256 ^ length xs * little ys
unfolding little
little_append [] ys = omega (arith, one-mul (little ys))
little_append (x ∷ xs) ys =
    let e : 256 ^ suc (length xs) * little ys ≡ 256 * (256 ^ length xs * little ys) = rw (pow-succ', mul_assoc) in
    omega (arith, little_append xs ys, e)

module _ (bytes : List ℕ) (at : ℕ) where
  -- a field of a + b bytes: its first a, and the b after them
  value_halves : (a b : ℕ) → at + a ≤ length bytes → value (field at (a + b)) bytes ≡ value (field at a) bytes + 256 ^ a * value (field (at + a) b) bytes
  unfolding value
  value_halves a b h =
      let l : length (take a (drop at bytes)) ≡ a = length-take-le a (drop at bytes) (omega (arith, length-drop at bytes)) in
      rw (take-add, little_append, l, drop-drop)

  pub value_byte : at < length bytes → value (field at 1) bytes ≡ get_or bytes at 0
  unfolding value little
  value_byte h = rw (drop-cons bytes at 0 h) (omega arith)

  -- so two readings side by side give the reading of both
  pub joined : (a b x y : ℕ) → at + a ≤ length bytes → x ≡ value (field at a) bytes → y ≡ value (field (at + a) b) bytes
      → x + y * 256 ^ a ≡ value (field at (a + b)) bytes
  joined a b x y h p q = rw (p, q, mul_comm) (sym (value_halves a b h))

-- ---- a file cut after k bytes

cut_part : (xs : List ℕ) (a s k : ℕ) → a + s ≤ k → take s (drop a (take k xs)) ≡ take s (drop a xs)
cut_part xs zero s k h = take-take s k xs (omega arith)
cut_part [] (suc a) s zero h = refl
cut_part [] (suc a) s (suc k) h = refl
cut_part (x ∷ xs) (suc a) s zero h = absurd (omega arith)
cut_part (x ∷ xs) (suc a) s (suc k) h = cut_part xs a s k (omega arith)

-- a field before the cut
pub value_cut : (f : Field) (xs : List ℕ) (k : ℕ) → f.at + f.size ≤ k → value f (take k xs) ≡ value f xs
unfolding value
value_cut f xs k h = rw (cut_part xs f.at f.size k h)
