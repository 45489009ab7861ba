-- The sum of two squares, as f64s compute it, is a NaN exactly where one of the two numbers is.
use Rattle.std.proofs.Common.{◌≡◌, ℕ, zero, suc, ◌+◌, ◌-◌, ◌*◌, ◌/◌, ◌%◌, ◌^◌, Bool, true, false, cond, not, ◌&&◌, ◌||◌, T, ltb, sym, refl, ◌∙◌, subst}
use mathlib.Core.Bool.{beq}
use Prim.Native.Nat.{compare}
use lib.Ieee.{Float, nan, inf, fin, binary64, up, down, unlike, size, nearest, odd, units, round, sum, add, mul, ne, is_nan}
use Rattle.rules.proofs.Branches.{either, by_test, no}
use Rattle.numbers.proofs.Patterns.{no_nan}

abbrev squares : Float → Float → Float
squares x y = add binary64 (mul binary64 x x) (mul binary64 y y)

-- no NaN, and not minus infinity
Upright : Float → Type 0
Upright nan = ⊥
Upright (inf s) = s ≡ false
Upright (fin s m e) = Unit {0}

odd_upright : (d : ℕ) (s : Bool) (q k l : ℕ) → Upright (odd d s q k l)
unfolding Upright odd
odd_upright d s zero k l = tt
odd_upright d s (suc q) k l = tt

units_upright : (s : Bool) (q k : ℕ) → s ≡ false → Upright (units binary64 s q k)
unfolding units
units_upright s q k e = either Upright (ltb (q * 2 ^ k) (2 ^ 2098)) (odd 54 s q k 1074) (inf s) (λ h. odd_upright 54 s q k 1074) (λ h. unfold Upright in e)

-- what a rounding keeps
kept : ℕ → ℕ → ℕ
kept n d = let u = d * 2 ^ (size (n * 2 ^ 1074 / d) - 53) in nearest (n * 2 ^ 1074 / u) (compare (n * 2 ^ 1074 % u * 2) u)

round_upright : (s : Bool) (n d : ℕ) → s ≡ false → Upright (round binary64 s n d)
unfolding round kept
round_upright s n d e = units_upright s (kept n d) (size (n * 2 ^ 1074 / d) - 53) e

alike : (s : Bool) → unlike s s ≡ false
alike true = refl
alike false = refl

square_upright : (x : Float) → is_nan x ≡ false → Upright (mul binary64 x x)
unfolding mul is_nan Upright
square_upright nan h = absurd (no (sym h))
square_upright (inf s) h = alike s
square_upright (fin s m e) h = round_upright (unlike s s) (m * up e * (m * up e)) (down e * down e) (alike s)

-- a rounded number is none
odd_number : (d : ℕ) (s : Bool) (q k l : ℕ) → is_nan (odd d s q k l) ≡ false
unfolding odd is_nan
odd_number d s zero k l = refl
odd_number d s (suc q) k l = refl

units_number : (s : Bool) (q k : ℕ) → is_nan (units binary64 s q k) ≡ false
unfolding units
units_number s q k = either (λ (x : Float). is_nan x ≡ false) (ltb (q * 2 ^ k) (2 ^ 2098)) (odd 54 s q k 1074) (inf s) (λ h. odd_number 54 s q k 1074)
    (λ h. unfold is_nan in refl)

round_number : (s : Bool) (n d : ℕ) → is_nan (round binary64 s n d) ≡ false
unfolding round kept
round_number s n d = units_number s (kept n d) (size (n * 2 ^ 1074 / d) - 53)

sum_number : (s : Bool) (a : ℕ) (t : Bool) (b c : ℕ) → is_nan (sum binary64 s a t b c) ≡ false
unfolding sum
sum_number s a t b c =
    either (λ (x : Float). is_nan x ≡ false) (beq s t) (round binary64 s (a + b) c)
    (cond (ltb a b) (round binary64 t (b - a) c) (round binary64 (s && ltb b a) (a - b) c)) (λ h. round_number s (a + b) c)
    (λ h. either (λ (x : Float). is_nan x ≡ false) (ltb a b) (round binary64 t (b - a) c) (round binary64 (s && ltb b a) (a - b) c)
    (λ k. round_number t (b - a) c) (λ k. round_number (s && ltb b a) (a - b) c))

add_number : (x y : Float) → Upright x → Upright y → is_nan (add binary64 x y) ≡ false
unfolding add is_nan Upright
add_number nan y a b = absurd a
add_number (inf s) nan a b = absurd b
add_number (inf s) (inf t) a b = subst (λ (z : Bool). is_nan (cond (beq z t) (inf z) nan) ≡ false) (sym a)
    (subst (λ (z : Bool). is_nan (cond (beq false z) (inf false) nan) ≡ false) (sym b) refl)
add_number (inf s) (fin t n d) a b = refl
add_number (fin s m e) nan a b = absurd b
add_number (fin s m e) (inf t) a b = refl
add_number (fin s m e) (fin t n d) a b = sum_number s (m * up e * down d) t (n * up d * down e) (down e * down d)

-- a NaN comes from one
pub one_nan : (x y : Float) → is_nan (squares x y) ≡ true → (is_nan x || is_nan y) ≡ true
one_nan x y h = by_test (is_nan x) (λ e. rw e refl)
    (λ e. by_test (is_nan y) (λ f. rw (e, f) refl) (λ f. absurd (no (sym (add_number _ _ (square_upright x e) (square_upright y f)) ∙ h))))

-- and gives one
pub first_number : (x y : Float) → ne (squares x y) (squares x y) ≡ false → T (not (is_nan x))
unfolding is_nan add mul
first_number nan y e = no_nan (squares nan y) e
first_number (inf s) y e = tt
first_number (fin s m d) y e = tt

pub second_number : (x y : Float) → ne (squares x y) (squares x y) ≡ false → T (not (is_nan y))
unfolding is_nan add mul
second_number x nan e = go (mul binary64 x x) e
  where
    go : (w : Float) → ne (add binary64 w nan) (add binary64 w nan) ≡ false → T (not (is_nan nan))
    go nan e = no_nan _ e
    go (inf s) e = no_nan _ e
    go (fin s m d) e = no_nan _ e
second_number x (inf s) e = tt
second_number x (fin s m d) e = tt
