-- The bytes of a number and what bytes stand for undo each other.
use mathlib.Core.List.{List, [], ◌∷◌, ◌++◌}
use mathlib.Core.Path.{◌≡◌, refl, ap, sym}
use Prim.Native.Nat.{ℕ, zero, suc, ◌+◌, ◌*◌, ◌/◌, ◌%◌, ◌^◌, ◌<◌}
use native.Mathlib.Nat.{zero-add, suc-add, div-one, pow-succ'}
use native.Mathlib.Omega.{arith}
use lib.ListN.{length, get_or}
use lib.Pow.{field, mod-mod-pow, shr-shr}
use Rattle.fields.specs.Little.{little}
use Rattle.writer.specs.Writer.{digits}

pub digits_length : (k v : ℕ) → length (digits k v) ≡ k
unfolding digits
digits_length zero v = refl
digits_length (suc k) v = ap suc (digits_length k (v / 256))

-- what was laid down is read
pub little_digits : (k v : ℕ) → v < 256 ^ k → little (digits k v) ≡ v
unfolding digits little
little_digits zero v h = omega arith
little_digits (suc k) v h =
    let e : 256 ^ suc k ≡ 256 * 256 ^ k = pow-succ' 256 k in
    let l : v / 256 < 256 ^ k = omega arith in
    omega (arith, little_digits k (v / 256) l)

-- what was read is laid down
pub digits_little : (bs : List ℕ) → ((i : ℕ) → get_or bs i 0 < 256) → digits (length bs) (little bs) ≡ bs
unfolding digits little
digits_little [] h = refl
digits_little (b ∷ bs) h =
    let l : b < 256 = h 0 in
    let p : (b + 256 * little bs) % 256 ≡ b = omega arith in
    let q : (b + 256 * little bs) / 256 ≡ little bs = omega arith in
    rw (p, q) (ap (λ (r : List ℕ). b ∷ r) (digits_little bs (λ i. h (suc i))))

-- and stays below its width
pub little_lt : (bs : List ℕ) → ((i : ℕ) → get_or bs i 0 < 256) → little bs < 256 ^ length bs
unfolding little
little_lt [] h = omega arith
little_lt (b ∷ bs) h =
    let l : b < 256 = h 0 in
    let e : 256 ^ suc (length bs) ≡ 256 * 256 ^ length bs = pow-succ' 256 (length bs) in
    omega (arith, little_lt bs (λ i. h (suc i)))

-- a number of a + b bytes: its lower a, and the b above them
pub digits_halves : (a b v : ℕ) → digits (a + b) v ≡ digits a (v % 2 ^ (8 * a)) ++ digits b (v / 2 ^ (8 * a))
unfolding digits
digits_halves zero b v = rw (zero-add, div-one)
digits_halves (suc a) b v =
    let e : 8 * suc a ≡ 8 * a + 8 = omega arith in
    let d : 8 * suc a ≡ 8 + 8 * a = omega arith in
    let p : v % 2 ^ (8 * suc a) % 256 ≡ v % 256 = rw e (mod-mod-pow v (8 * a) 8) in
    let q : v % 2 ^ (8 * suc a) / 256 ≡ v / 256 % 2 ^ (8 * a) = rw e (field v (8 * a) 8) in
    let r : v / 2 ^ (8 * suc a) ≡ v / 256 / 2 ^ (8 * a) = rw d (sym (shr-shr v 8 (8 * a))) in
    rw (suc-add, p, q, r) (ap (λ (l : List ℕ). v % 256 ∷ l) (digits_halves a b (v / 256)))
