-- What a comparison with the least normal number tells of the fields.
use Rattle.std.proofs.Common.{◌≡◌, ℕ, zero, suc, ◌+◌, ◌-◌, ◌*◌, ◌/◌, ◌^◌, ◌<◌, Bool, true, false, cond, not, T, eqb, leb, ◌⊎◌, sym, refl, ap, ◌∙◌, subst, inl, inr, le_trans, lt_of_lt_of_le, le_of_suc-le-suc, le-add_right, lt_irrefl, mul-le-mul_right, mod-eq_of_lt, eq-or-lt_of_le, le-mul_of_pos_right, le_of_mul-le-mul_right, arith, pow_pos, leb-false}
use lib.Bits.{and_mask}
use lib.Ieee.{Float, nan, inf, binary64, fits, is_nan, of_fields, of_bits, to_bits, le}
use lib.Ieee.Exact.{HasValue}
use Rattle.roots.specs.Inside.{least_normal}
use Rattle.numbers.proofs.Patterns.{apart, exponent_of, fraction_of, exponent_lt, fraction_lt, special, normal_value, subnormal_value}
use Rattle.numbers.proofs.Signs.{le_of_signed, under_of_le}

least_is : HasValue least_normal false (2 ^ 52) (2 ^ 1074)
unfolding of_bits
least_is = (refl, refl)

holds : (b : Bool) → b ≡ true → T b
holds b e = subst T (sym e) tt

-- ---- a negative number, a NaN and a subnormal are below
least_special : (b s : Bool) → T (le least_normal (cond b (inf s) nan)) → s ≡ false
unfolding le of_bits
least_special true true l = absurd l
least_special true false l = refl
least_special false s l = absurd l

some : 2 ^ 52 ≡ 0 → ⊥
some e = omega arith

not_minus : (x : Float) (a : ℕ) → HasValue x true a (2 ^ 1074) → T (le least_normal x) → ⊥
not_minus x a v l = some (under_of_le least_normal x false (2 ^ 52) (2 ^ 1074) true a (2 ^ 1074) (pow_pos 1074) (pow_pos 1074) least_is v l).0

not_low : (f : ℕ) → f < 2 ^ 52 → T (le least_normal (of_fields binary64 false 0 f)) → ⊥
not_low f h l =
    lt_irrefl f (lt_of_lt_of_le h (le_of_mul-le-mul_right (under_of_le least_normal (of_fields binary64 false 0 f) false (2 ^ 52) (2 ^ 1074) false f (2 ^ 1074)
    (pow_pos 1074) (pow_pos 1074) least_is (subnormal_value false f) l) (pow_pos 1074)))

normal_says : (s : Bool) (e f : ℕ) → e < 2 ^ 11 → f < 2 ^ 52 → T (le least_normal (of_fields binary64 s e f)) → (s ≡ false) × (e ≡ 0 → ⊥)
normal_says true zero f E h l = absurd (not_minus (of_fields binary64 true 0 f) f (subnormal_value true f) l)
normal_says false zero f E h l = absurd (not_low f h l)
normal_says s (suc k) f E h l = (go s (eq-or-lt_of_le (le_of_suc-le-suc E)) l, λ z. no k z)
  where
    no : (k : ℕ) → suc k ≡ 0 → ⊥
    no k z = omega arith

    go : (s : Bool) → (suc k ≡ 2 ^ 11 - 1) ⊎ (suc k < 2 ^ 11 - 1) → T (le least_normal (of_fields binary64 s (suc k) f)) → s ≡ false
    go s (inl q) l = least_special (eqb f 0) s (subst (λ (x : Float). T (le least_normal x)) (ap (λ (n : ℕ). of_fields binary64 s n f) q ∙ special s f) l)
    go false (inr q) l = refl
    go true (inr q) l = absurd (not_minus (of_fields binary64 true (suc k) f) ((2 ^ 52 + f) * 2 ^ k) (normal_value true k f (le_of_suc-le-suc q)) l)

pub record NormalBits (b : ℕ) : Type 0 where
  pub plus : leb (2 ^ 63) b ≡ false
  pub some : exponent_of b ≡ 0 → ⊥
  pub whole : b / 2 ^ 52 ≡ exponent_of b

pub normal_bits : (x : Float) → T (fits binary64 x) → le least_normal x ≡ true → NormalBits (to_bits binary64 x)
normal_bits x h l =
    let b = to_bits binary64 x in
    let s = leb (2 ^ 63) b in
    let r = normal_says s (exponent_of b) (fraction_of b) (exponent_lt b) (fraction_lt b)
    (subst (λ (y : Float). T (le least_normal y)) (apart x s h refl) (holds _ l)) in
    record { plus = r.0; some = r.1; whole = whole b (leb-false (2 ^ 63) b r.0) }
  where
    high : (b : ℕ) → b < 2 ^ 63 → b / 2 ^ 52 < 2 ^ 11
    high b h = omega arith

    whole : (b : ℕ) → b < 2 ^ 63 → b / 2 ^ 52 ≡ exponent_of b
    whole b h = sym (and_mask (b / 2 ^ 52) 11 ∙ mod-eq_of_lt (high b h))

-- ---- what is below it, and has no sign, has an exponent's field of 0
refused : (b : Bool) → T b → b ≡ false → ⊥
refused b t e = subst T e t

low_special : (b : Bool) → T (not (is_nan (cond b (inf false) nan))) → T (le least_normal (cond b (inf false) nan))
unfolding le of_bits is_nan
low_special true n = tt
low_special false n = absurd n

low_says : (e f : ℕ) → e < 2 ^ 11 → T (not (is_nan (of_fields binary64 false e f))) → le least_normal (of_fields binary64 false e f) ≡ false → e ≡ 0
low_says zero f E n l = refl
low_says (suc k) f E n l = absurd (refused _ (go (eq-or-lt_of_le (le_of_suc-le-suc E))) l)
  where
    go : (suc k ≡ 2 ^ 11 - 1) ⊎ (suc k < 2 ^ 11 - 1) → T (le least_normal (of_fields binary64 false (suc k) f))
    go (inl q) =
        let e = ap (λ (n : ℕ). of_fields binary64 false n f) q ∙ special false f in
        subst (λ (x : Float). T (le least_normal x)) (sym e) (low_special (eqb f 0) (subst (λ (x : Float). T (not (is_nan x))) e n))
    go (inr q) =
        le_of_signed least_normal (of_fields binary64 false (suc k) f) false (2 ^ 52) (2 ^ 1074) false ((2 ^ 52 + f) * 2 ^ k) (2 ^ 1074) (pow_pos 1074)
        (pow_pos 1074) least_is (normal_value false k f (le_of_suc-le-suc q))
        (mul-le-mul_right (2 ^ 1074) (le_trans (le-add_right (2 ^ 52) f) (le-mul_of_pos_right (2 ^ 52 + f) (pow_pos k))))

pub low_bits : (x : Float) → T (fits binary64 x) → T (not (is_nan x)) → le least_normal x ≡ false → leb (2 ^ 63) (to_bits binary64 x) ≡ false
    → exponent_of (to_bits binary64 x) ≡ 0
low_bits x h n l p =
    let b = to_bits binary64 x in
    let e = apart x false h p in
    low_says (exponent_of b) (fraction_of b) (exponent_lt b) (subst (λ (y : Float). T (not (is_nan y))) e n) (sym (ap (le least_normal) e) ∙ l)
