-- The sign bit is set where the value carries a minus.
use Rattle.std.proofs.Common.{◌≡◌, ℕ, zero, suc, ◌+◌, ◌/◌, ◌^◌, ◌<◌, Bool, true, false, cond, not, ◌&&◌, T, eqb, ltb, leb, sym, refl, ap, ◌∙◌, subst, arith, leb-false, leb-true}
use lib.Ieee.{Float, nan, inf, binary64, odd, fits, is_nan, of_fields, to_bits}
use lib.Ieee.Bits.{to_bits-lt}
use Rattle.numbers.specs.Order.{sign_of}
use Rattle.numbers.proofs.Patterns.{apart, exponent_of, fraction_of}

sign_odd : (s : Bool) (q k l : ℕ) → sign_of (odd 53 s q k l) ≡ s
unfolding sign_of odd
sign_odd s zero k l = refl
sign_odd s (suc q) k l = refl

sign_pick : (b t s : Bool) (q k l : ℕ) → T (not (is_nan (cond b (cond t (inf s) nan) (odd 53 s q k l))))
    → sign_of (cond b (cond t (inf s) nan) (odd 53 s q k l)) ≡ s
unfolding sign_of is_nan
sign_pick true true s q k l n = refl
sign_pick true false s q k l n = absurd n
sign_pick false t s q k l n = sign_odd s q k l

sign_fields : (s : Bool) (e f : ℕ) → T (not (is_nan (of_fields binary64 s e f))) → sign_of (of_fields binary64 s e f) ≡ s
unfolding of_fields
sign_fields s zero f n = sign_odd s f 0 1074
sign_fields s (suc e) f n = sign_pick (eqb (suc e) 2047) (eqb f 0) s (2 ^ 52 + f) e 1074 n

sign_of_lem : (x : Float) → T (fits binary64 x) → T (not (is_nan x)) → sign_of x ≡ leb (2 ^ 63) (to_bits binary64 x)
sign_of_lem x h n =
    let b = to_bits binary64 x in
    let s = leb (2 ^ 63) b in
    let e = apart x s h refl in
    ap sign_of e ∙ sign_fields s (exponent_of b) (fraction_of b) (subst (λ (y : Float). T (not (is_nan y))) e n)

sign_bit : (b : ℕ) → b < 2 ^ 64 → b / 2 ^ 63 ≡ cond (leb (2 ^ 63) b) 1 0
sign_bit b h = go (leb (2 ^ 63) b) refl
  where
    go : (t : Bool) → leb (2 ^ 63) b ≡ t → b / 2 ^ 63 ≡ cond t 1 0
    go true e = omega (arith, leb-true (2 ^ 63) b e)
    go false e = omega (arith, leb-false (2 ^ 63) b e)

bit_less : (s t : Bool) → ltb (cond t 1 0) (cond s 1 0) ≡ (s && not t)
bit_less true true = refl
bit_less true false = refl
bit_less false true = refl
bit_less false false = refl

pub signs_less : (x y : Float) → T (fits binary64 x) → T (fits binary64 y) → T (not (is_nan x)) → T (not (is_nan y))
    → ltb (to_bits binary64 y / 2 ^ 63) (to_bits binary64 x / 2 ^ 63) ≡ (sign_of x && not (sign_of y))
signs_less x y p q n m =
    ap (λ (k : ℕ). ltb k (to_bits binary64 x / 2 ^ 63)) (bit y q m) ∙ ap (ltb (cond (sign_of y) 1 0)) (bit x p n) ∙ bit_less (sign_of x) (sign_of y)
  where
    bit : (z : Float) → T (fits binary64 z) → T (not (is_nan z)) → to_bits binary64 z / 2 ^ 63 ≡ cond (sign_of z) 1 0
    bit z h k = sign_bit (to_bits binary64 z) (to_bits-lt binary64 z h) ∙ ap (λ (t : Bool). cond t 1 0) (sym (sign_of_lem z h k))
