-- An i64 as an exponent: the difference of two numbers, its half towards minus infinity, and its last digit.
use Rattle.std.proofs.Common.{◌≡◌, ℕ, zero, suc, ◌+◌, ◌-◌, ◌/◌, ◌%◌, ◌^◌, ◌<◌, ◌≤◌, Bool, true, false, cond, not, T, ltb, leb, ℤ, pos, negsuc, ◌+ℤ◌, ◌-ℤ◌, sym, refl, ap, ◌∙◌, zero-le, lt_of_le_of_lt, not-le_of_lt, arith, lit≤, le→leb, ltb→lt, leb→le, nltb→le, pow_mono, w64, SFits, to_z, of_z}
use lib.IntN.{sub_ℕ}
use lib.Dec.{nleb→lt, not_T}
use lib.Signed.{mag, shr_z, mag_shr}
use lib.Bits.{bit_and, and_mask, mask_lt}
use lib.Ieee.{minus, down}
use lib.Ieee.Bits.{is_true, is_false}
use mir.ValLaws.{to_z_pos, to_z-of_z}
use Rattle.roots.specs.Inside.{Exponent, lifted}

-- ---- a - b
either_way : {X : Type 0} (p q : Bool) (x y : X) → (T p → T q → ⊥) → (T (not p) → T (not q) → ⊥) → cond p x y ≡ cond q y x
either_way true true x y f g = absurd (f tt tt)
either_way true false x y f g = refl
either_way false true x y f g = refl
either_way false false x y f g = absurd (g tt tt)

sub_is : (a b : ℕ) → sub_ℕ a b ≡ minus a b
sub_is a b =
    either_way (ltb a b) (leb b a) (negsuc (b - suc a)) (pos (a - b))
    (λ t u. not-le_of_lt (ltb→lt a b t) (leb→le b a u))
    (λ t u. not-le_of_lt (nleb→lt b a u) (nltb→le a b t))

pos_sub : (a b : ℕ) → pos a -ℤ pos b ≡ minus a b
pos_sub a zero = ap pos (same a) ∙ sym (ap (λ (t : Bool). cond t (pos (a - 0)) (negsuc (0 - suc a))) (is_true (leb 0 a) (le→leb 0 a zero-le)))
  where
    same : (a : ℕ) → a + 0 ≡ a - 0
    same a = omega arith
pos_sub a (suc b) = sub_is a (suc b)

wide : (a : ℕ) → a < 2 ^ 32 → a < 2 ^ 63
wide a h = omega arith

-- as the machine has it, of two u32
pub difference_is : (a b : ℕ) → a < 2 ^ 32 → b < 2 ^ 32 → to_z w64 a -ℤ to_z w64 b ≡ minus a b
difference_is a b h k = ap (λ (z : ℤ). z -ℤ to_z w64 b) (to_z_pos w64 a (wide a h)) ∙ ap (λ (z : ℤ). pos a -ℤ z) (to_z_pos w64 b (wide b k)) ∙ pos_sub a b

pub minus_fits : (a b : ℕ) → a < 2 ^ 32 → b < 2 ^ 32 → SFits w64 (minus a b)
minus_fits a b h k = record { sfits = go (leb b a) }
  where
    go : (t : Bool) → mag (cond t (pos (a - b)) (negsuc (b - suc a))) < 2 ^ 63
    go true = omega arith
    go false = omega arith

-- ---- half of e, rounded down, and lifted
half_lifted : (e : ℤ) → Exponent e → shr_z e 2 +ℤ pos 1048 ≡ pos (lifted e / 2)
unfolding Exponent lifted
half_lifted (pos a) h = ap pos (sum a)
  where
    sum : (a : ℕ) → a / 2 + 1048 ≡ (a + 2096) / 2
    sum a = omega arith
half_lifted (negsuc a) h =
    ap (λ (t : Bool). cond t (negsuc (suc (a / 2) - suc 1048)) (pos (1048 - suc (a / 2))))
    (is_false (ltb 1048 (suc (a / 2))) (not_T (ltb 1048 (suc (a / 2))) (λ t. low a h (ltb→lt 1048 (suc (a / 2)) t))))
    ∙ ap pos (sum a h)
  where
    low : (a : ℕ) → a < 1126 → 1048 < suc (a / 2) → ⊥
    low a h k = omega arith

    sum : (a : ℕ) → a < 1126 → 1048 - suc (a / 2) ≡ (2095 - a) / 2
    sum a h = omega arith

pub halved_is : (e : ℤ) → SFits w64 e → Exponent e → to_z w64 (of_z w64 (shr_z (to_z w64 (of_z w64 e)) 2)) +ℤ pos 1048 ≡ pos (lifted e / 2)
halved_is e f h =
    ap (λ (z : ℤ). to_z w64 (of_z w64 (shr_z z 2)) +ℤ pos 1048) (to_z-of_z w64 e f)
    ∙ ap (λ (z : ℤ). z +ℤ pos 1048) (to_z-of_z w64 (shr_z e 2) (record { sfits = lt_of_le_of_lt (mag_shr e 2) f.sfits }))
    ∙ half_lifted e h

pub lifted_lt : (e : ℤ) → Exponent e → lifted e / 2 < 2 ^ 11 - 2
unfolding Exponent lifted
lifted_lt (pos a) h = omega arith
lifted_lt (negsuc a) h = omega arith

pub exponent_down : (e : ℤ) → Exponent e → down e ≤ 2 ^ 1126
unfolding Exponent
exponent_down (pos a) h = lit≤ tt
exponent_down (negsuc a) h = pow_mono h

-- ---- whether e is odd
parity : (e : ℤ) → Exponent e → of_z w64 e % 2 ≡ lifted e % 2
unfolding Exponent lifted
parity (pos a) h = omega arith
parity (negsuc a) h = omega arith

pub odd_is : (e : ℤ) → Exponent e → to_z w64 (bit_and (of_z w64 e) 1) ≡ pos (lifted e % 2)
odd_is e h =
    to_z_pos w64 (bit_and (of_z w64 e) 1) (wider (bit_and (of_z w64 e) 1) (mask_lt (of_z w64 e) 1))
    ∙ ap pos (and_mask (of_z w64 e) 1 ∙ parity e h)
  where
    wider : (n : ℕ) → n < 2 → n < 2 ^ 63
    wider n h = omega arith

-- a difference that was returned, and is read again
pub returned : (z : ℤ) (a b : ℕ) → z ≡ minus a b → a < 2 ^ 32 → b < 2 ^ 32 → to_z w64 (of_z w64 z) ≡ minus a b
returned z a b e h k = ap (λ (y : ℤ). to_z w64 (of_z w64 y)) e ∙ to_z-of_z w64 (minus a b) (minus_fits a b h k)
