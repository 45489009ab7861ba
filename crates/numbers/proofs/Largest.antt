-- Rounding down as the definition has it: the largest whole number not above, in order, and what truncating gives.
use Rattle.std.proofs.Common.{◌≡◌, ℕ, suc, ◌+◌, ◌-◌, ◌*◌, ◌/◌, ◌^◌, ◌<◌, ◌≤◌, min, Bool, true, false, cond, T, ℤ, pos, negsuc, sym, refl, ap, ◌∙◌, subst, le_trans, le_of_eq, lt_of_lt_of_le, lt_of_le_of_lt, add-zero, le_of_lt, mul-le-mul_right, mul_assoc, suc-mul, mul_comm, add-mul, lt_of_mul-lt-mul_right, mul-lt-mul_of_pos_right, mul-one, div-le_self, le-mul_of_pos_right, div-mul-le_self, div-one, mul-div_cancel, arith, lit<, pow_pos}
use native.Mathlib.Nat.{lt-div-mul-add}
use lib.Arith.{le-zero}
use lib.Ieee.{Float, nan, inf, fin, binary64, up, down, round, fits, le, to_unsigned}
use lib.Ieee.Fits.{down_pos}
use lib.Ieee.Exact.{HasValue}
use lib.Ieee.Back.{round_whole}
use lib.Ieee.Nearest.{div_mono}
use lib.Ieee.Scale.{finite}
use Rattle.numbers.specs.Rounding.{size_down, round_down_of, Encloses, LargestWhole, RoundsDown}
use Rattle.numbers.proofs.Rounding.{up_says}
use Rattle.numbers.proofs.Counts.{small, exact_value}
use Rattle.numbers.proofs.Signs.{Under, le→under, le_of_signed}

-- ---- the result is a whole number: nothing is rounded
size_whole : (s : Bool) (n : ℕ) → size_down s n 1 ≡ n
size_whole false n = div-one n
size_whole true n = div-one (n + 0) ∙ add-zero n

-- a size grown to the next whole number keeps the order
up_mono : (a b c d : ℕ) → 0 < c → 0 < d → b * c ≤ a * d → (b + (d - 1)) / d ≤ (a + (c - 1)) / c
up_mono a b c d C D h =
    let M = (b + (d - 1)) / d in
    let N = (a + (c - 1)) / c in
    let p : M * (c * d) < b * c + c * d = lt_of_le_of_lt (le_of_eq (ap (λ (n : ℕ). M * n) (mul_comm c d) ∙ sym (mul_assoc M d c)))
    (lt_of_lt_of_le (mul-lt-mul_of_pos_right (up_says b d D).1 C) (le_of_eq (add-mul b d c ∙ ap (λ (n : ℕ). b * c + n) (mul_comm d c)))) in
    let q : a * d ≤ N * (c * d) = le_trans (mul-le-mul_right d (up_says a c C).0) (le_of_eq (mul_assoc N c d)) in
    le_of_lt_suc M N (lt_of_mul-lt-mul_right (c * d)
    (lt_of_lt_of_le (sum (M * (c * d)) (b * c) (a * d) (N * (c * d)) (c * d) p h q) (le_of_eq (sym (suc-mul N (c * d))))))
  where
    sum : (m b a n k : ℕ) → m < b + k → b ≤ a → a ≤ n → m < n + k
    sum m b a n k p h q = omega arith

    le_of_lt_suc : (m n : ℕ) → m < suc n → m ≤ n
    le_of_lt_suc m n h = omega arith

size_under : (s : Bool) (m c : ℕ) → 0 < c → size_down s m c ≤ m
size_under false m c C = div-le_self m c
size_under true m c C = le_trans (up_mono m m 1 c (lit< tt) C (le_trans (le_of_eq (mul-one m)) (le-mul_of_pos_right m C))) (le_of_eq (size_whole true m))

pub whole_value : (s : Bool) (m : ℕ) (e : ℤ) → T (fits binary64 (fin s m e)) → HasValue (round_down_of (fin s m e)) s (size_down s (m * up e) (down e)) 1
unfolding round_down_of
whole_value s m (pos k) t = subst (λ (n : ℕ). HasValue (round binary64 s n 1) s n 1) (sym (size_whole s (m * 2 ^ k))) (exact_value s m (pos k) t)
whole_value s m (negsuc k) t = round_whole binary64 s (size_down s (m * 1) (2 ^ suc k))
    (le_trans (size_under s (m * 1) (2 ^ suc k) (pow_pos (suc k))) (le_trans (le_of_eq (mul-one m)) (le_of_lt (small s m (negsuc k) t))))

-- ---- it encloses the number
encloses : (s : Bool) (a c : ℕ) → 0 < c → Encloses s (size_down s a c) a c
encloses false a c C = (div-mul-le_self a c, lt-div-mul-add C)
encloses true a c C = up_says a c C

largest : (x : Float) → T (fits binary64 x) → T (finite x) → LargestWhole x (round_down_of x)
largest nan t f = absurd f
largest (inf s) t f = absurd f
largest (fin s m e) t f = record {
  s = s;
  n = size_down s (m * up e) (down e);
  a = m * up e;
  c = down e;
  whole = whole_value s m e t;
  value = (refl, refl);
  some = down_pos e;
  between = encloses s (m * up e) (down e) (down_pos e);
}

not_above : (x : Float) → T (fits binary64 x) → T (finite x) → T (le (round_down_of x) x)
not_above nan t f = absurd f
not_above (inf s) t f = absurd f
not_above (fin s m e) t f =
    le_of_signed (round_down_of (fin s m e)) (fin s m e) s (size_down s (m * up e) (down e)) 1 s (m * up e) (down e) (lit< tt) (down_pos e)
    (whole_value s m e t) (refl, refl)
    (go s (m * up e) (down e) (size_down s (m * up e) (down e)) (encloses s (m * up e) (down e) (down_pos e)))
  where
    go : (s : Bool) (a c n : ℕ) → Encloses s n a c → Under s n 1 s a c
    go false a c n h = le_trans h.0 (le_of_eq (sym (mul-one a)))
    go true a c n h = le_trans (le_of_eq (mul-one a)) h.0

-- ---- it keeps the order
under : (s : Bool) (a c : ℕ) (t : Bool) (b d : ℕ) → 0 < c → 0 < d → Under s a c t b d → Under s (size_down s a c) 1 t (size_down t b d) 1
under false a c false b d C D h = mul-le-mul_right 1 (div_mono a c b d C D h)
under false a c true b d C D h = (le-zero (le_trans (size_under false a c C) (le_of_eq h.0)), le-zero (le_trans (size_under true b d D) (le_of_eq h.1)))
under true a c false b d C D h = zero-le
  where
    zero-le : 0 ≤ size_down true a c
    zero-le = omega arith
under true a c true b d C D h = mul-le-mul_right 1 (up_mono a b c d C D h)

-- an infinity beside a finite number, whichever it is
inf_below : (s : Bool) (m : ℕ) (e : ℤ) (y : Float) (t : Bool) (b d : ℕ) → HasValue y t b d → T (le (inf s) (fin t m e)) → T (le (inf s) y)
unfolding le
inf_below s m e nan t b d h l = absurd h
inf_below s m e (inf z) t b d h l = absurd h
inf_below s m e (fin z n g) t b d h l = l

below_inf : (m : ℕ) (e : ℤ) (s : Bool) (x : Float) (t : Bool) (a c : ℕ) → HasValue x t a c → T (le (fin t m e) (inf s)) → T (le x (inf s))
unfolding le
below_inf m e s nan t a c h l = absurd h
below_inf m e s (inf z) t a c h l = absurd h
below_inf m e s (fin z n g) t a c h l = l

down_nan : round_down_of nan ≡ nan
unfolding round_down_of
down_nan = refl

down_inf : (s : Bool) → round_down_of (inf s) ≡ inf s
unfolding round_down_of
down_inf s = refl

no_nan_le : (x : Float) → T (le x nan) → ⊥
unfolding le
no_nan_le nan l = l
no_nan_le (inf s) l = l
no_nan_le (fin s m e) l = l

pub ordered : (x y : Float) → T (fits binary64 x) → T (fits binary64 y) → T (le x y) → T (le (round_down_of x) (round_down_of y))
ordered nan y p q l = absurd (unfold le in l)
ordered (inf s) nan p q l = absurd (no_nan_le (inf s) l)
ordered (inf s) (inf t) p q l =
    subst (λ (r : Float). T (le r (round_down_of (inf t)))) (sym (down_inf s)) (subst (λ (r : Float). T (le (inf s) r)) (sym (down_inf t)) l)
ordered (inf s) (fin t n d) p q l =
    subst (λ (r : Float). T (le r (round_down_of (fin t n d)))) (sym (down_inf s)) (inf_below s n d (round_down_of (fin t n d)) t _ 1 (whole_value t n d q) l)
ordered (fin s m e) nan p q l = absurd (no_nan_le (fin s m e) l)
ordered (fin s m e) (inf t) p q l =
    subst (λ (r : Float). T (le (round_down_of (fin s m e)) r)) (sym (down_inf t)) (below_inf m e t (round_down_of (fin s m e)) s _ 1 (whole_value s m e p) l)
ordered (fin s m e) (fin t n d) p q l =
    le_of_signed (round_down_of (fin s m e)) (round_down_of (fin t n d)) s (size_down s (m * up e) (down e)) 1 t (size_down t (n * up d) (down d)) 1 (lit< tt)
    (lit< tt) (whole_value s m e p) (whole_value t n d q)
    (under s (m * up e) (down e) t (n * up d) (down d) (down_pos e) (down_pos d) (le→under s m e t n d l))

-- ---- it is what truncating gives
cut_value : (x : Float) (s : Bool) (n : ℕ) → HasValue x s n 1 → to_unsigned 64 x ≡ cond s 0 (min n (2 ^ 64 - 1))
unfolding to_unsigned
cut_value nan s n h = absurd h
cut_value (inf t) s n h = absurd h
cut_value (fin t m e) s n h =
    ap (λ (b : Bool). cond b 0 (min (m * up e / down e) (2 ^ 64 - 1))) h.0
    ∙ ap (λ (k : ℕ). cond s 0 (min k (2 ^ 64 - 1))) (ap (λ (k : ℕ). k / down e) (sym (mul-one (m * up e)) ∙ h.1) ∙ mul-div_cancel n (down_pos e))

pub cut : (x : Float) → T (fits binary64 x) → to_unsigned 64 (round_down_of x) ≡ to_unsigned 64 x
cut nan t = ap (to_unsigned 64) down_nan
cut (inf s) t = ap (to_unsigned 64) (down_inf s)
cut (fin s m e) t = cut_value (round_down_of (fin s m e)) s (size_down s (m * up e) (down e)) (whole_value s m e t) ∙ go s
  where
    go : (s : Bool) → cond s 0 (min (size_down s (m * up e) (down e)) (2 ^ 64 - 1)) ≡ to_unsigned 64 (fin s m e)
    go true = unfold to_unsigned in refl
    go false = unfold to_unsigned in refl

pub rounds_down : (x y : Float) → T (fits binary64 x) → T (fits binary64 y) → RoundsDown x y
rounds_down x y p q = record { largest = largest x p; not_above = not_above x p; ordered = ordered x y p q; cut = cut x p }
