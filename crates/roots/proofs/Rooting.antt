-- Finding a root digit by digit. The digits so far are q, the last of them of weight w; rest * w + low is what v exceeds 2 * q * q by, low being what has not
-- come down to rest. The next digit has the weight r, half of w; it is set exactly where 2 * q + r is not above rest, for then 2 * (q + r) * (q + r) is not
-- above v. Then the next digit of low comes down: 1 where low is r or more.
use Rattle.std.proofs.Common.{◌≡◌, ℕ, zero, suc, ◌+◌, ◌-◌, ◌*◌, ◌/◌, ◌%◌, ◌^◌, ◌<◌, ◌≤◌, sym, refl, ap, ◌∙◌, subst, mul-le-mul_right, mul_assoc, add-mul, lt_of_mul-lt-mul_right, mul_left_comm, arith, lit<, pow_pos}
use native.Mathlib.Nat.{pow-succ'}
use lib.Bits.{bit_and, and_mask, and_mod}
use Rattle.roots.proofs.Squares.{square_add}
use Rattle.roots.specs.Root.{Nearest}
use Rattle.roots.specs.Hypot.{NearestEven}
use Rattle.roots.proofs.Evens.{odd_square, down, up, tie}

pub record Digits (v rest low q w : ℕ) : Type 0 where
  pub same : v ≡ 2 * (q * q) + rest * w + low
  pub little : low < w
  pub next : v < 2 * ((q + w) * (q + w))
  pub few : q + w ≤ 2 ^ 54

-- the same before the digit of low has come down
pub record Part (v rest low q r : ℕ) : Type 0 where
  pub same : v ≡ 2 * (q * q) + rest * r + low
  pub little : low < 2 * r
  pub next : v < 2 * ((q + r) * (q + r))
  pub few : q + r ≤ 2 ^ 54

-- the digit is set
pub set : (v rest low q r : ℕ) → Digits v rest low q (2 * r) → 2 * q + r ≤ rest → Part v (2 * (rest - (2 * q + r))) low (q + r) r
set v rest low q r d h =
    let u = rest - (2 * q + r) in
    let e : rest ≡ 2 * q + r + u = omega arith in
    let f : rest * (2 * r) ≡ 2 * (rest * r) = mul_left_comm rest 2 r in
    let g : rest * r ≡ (2 * q + r) * r + u * r = ap (λ (z : ℕ). z * r) e ∙ add-mul (2 * q + r) u r in
    let k : (2 * q + r) * r ≡ 2 * q * r + r * r = add-mul (2 * q) r r in
    let l : 2 * q * r ≡ 2 * (q * r) = mul_assoc 2 q r in
    let p : 2 * u * r ≡ 2 * (u * r) = mul_assoc 2 u r in
    let s : (q + r) * (q + r) ≡ q * q + 2 * (q * r) + r * r = square_add q r in
    let n : q + 2 * r ≡ q + r + r = omega arith in
    let a = d.same in
    record {
      same = same_is v low (q * q) ((q + r) * (q + r)) (q * r) (r * r) (rest * r) (u * r) (rest * (2 * r)) (2 * u * r) (2 * q * r)
          ((2 * q + r) * r) a f g k l p s;
      little = d.little;
      next = subst (λ (z : ℕ). v < 2 * (z * z)) n d.next;
      few = subst (λ (z : ℕ). z ≤ 2 ^ 54) n d.few;
    }
  where
    same_is : (v low qq ss qr rr er ur e2 u2 q2 t : ℕ) → v ≡ 2 * qq + e2 + low → e2 ≡ 2 * er → er ≡ t + ur → t ≡ q2 + rr → q2 ≡ 2 * qr → u2 ≡ 2 * ur
        → ss ≡ qq + 2 * qr + rr → v ≡ 2 * ss + u2 + low
    same_is v low qq ss qr rr er ur e2 u2 q2 t a b c d e f g = omega arith

-- it is not
pub clear : (v rest low q r : ℕ) → Digits v rest low q (2 * r) → rest < 2 * q + r → Part v (2 * rest) low q r
clear v rest low q r d h =
    let f : rest * (2 * r) ≡ 2 * (rest * r) = mul_left_comm rest 2 r in
    let p : 2 * rest * r ≡ 2 * (rest * r) = mul_assoc 2 rest r in
    let k : (2 * q + r) * r ≡ 2 * q * r + r * r = add-mul (2 * q) r r in
    let l : 2 * q * r ≡ 2 * (q * r) = mul_assoc 2 q r in
    let s : (q + r) * (q + r) ≡ q * q + 2 * (q * r) + r * r = square_add q r in
    let m : (rest + 1) * r ≤ (2 * q + r) * r = mul-le-mul_right r (omega arith) in
    let o : (rest + 1) * r ≡ rest * r + 1 * r = add-mul rest 1 r in
    record {
      same = d.same ∙ ap (λ (z : ℕ). 2 * (q * q) + z + low) (f ∙ sym p);
      little = d.little;
      next = next_is v low r (q * q) ((q + r) * (q + r)) (q * r) (r * r) (rest * r) (rest * (2 * r)) ((2 * q + r) * r) (2 * q * r) ((rest + 1) * r)
          d.same d.little f k l s m o;
      few = fewer q r d.few;
    }
  where
    next_is : (v low r qq ss qr rr er e2 t q2 n : ℕ) → v ≡ 2 * qq + e2 + low → low < 2 * r → e2 ≡ 2 * er → t ≡ q2 + rr → q2 ≡ 2 * qr → ss ≡ qq + 2 * qr + rr
        → n ≤ t → n ≡ er + 1 * r → v < 2 * ss
    next_is v low r qq ss qr rr er e2 t q2 n a b c d e f g h = omega arith

    fewer : (q r : ℕ) → q + 2 * r ≤ 2 ^ 54 → q + r ≤ 2 ^ 54
    fewer q r h = omega arith

-- a digit of low comes down
pub brought : (v rest low q r : ℕ) → Part v rest low q r → r ≤ low → Digits v (rest + 1) (low - r) q r
brought v rest low q r p h =
    let o : (rest + 1) * r ≡ rest * r + 1 * r = add-mul rest 1 r in
    let a = p.same in
    let b = p.little in
    record { same = omega arith; little = omega arith; next = p.next; few = p.few }

pub none : (v rest low q r : ℕ) → Part v rest low q r → low < r → Digits v rest low q r
none v rest low q r p h = record { same = p.same; little = h; next = p.next; few = p.few }

-- what is left stays small
pub rest_lt : (v rest low q w : ℕ) → Digits v rest low q w → rest < 2 ^ 56
rest_lt v rest low q w d =
    let s : (q + w) * (q + w) ≡ q * q + 2 * (q * w) + w * w = square_add q w in
    let k : (4 * q + 2 * w) * w ≡ 4 * q * w + 2 * w * w = add-mul (4 * q) (2 * w) w in
    let l : 4 * q * w ≡ 4 * (q * w) = mul_assoc 4 q w in
    let p : 2 * w * w ≡ 2 * (w * w) = mul_assoc 2 w w in
    few rest q w (lt_of_mul-lt-mul_right w (small v low (q * q) ((q + w) * (q + w)) (q * w) (w * w) (rest * w) ((4 * q + 2 * w) * w) (4 * q * w) (2 * w * w)
    d.same d.next s k l p)) d.few
  where
    small : (v low qq ss qw ww ew t a b : ℕ) → v ≡ 2 * qq + ew + low → v < 2 * ss → ss ≡ qq + 2 * qw + ww → t ≡ a + b → a ≡ 4 * qw → b ≡ 2 * ww → ew < t
    small v low qq ss qw ww ew t a b c d e f g h = omega arith

    few : (rest q w : ℕ) → rest < 4 * q + 2 * w → q + w ≤ 2 ^ 54 → rest < 2 ^ 56
    few rest q w a b = omega arith

-- ---- r is the weight of the next digit: half of w, and 0 where w is 1
abbrev pub Found : (v rest low q r : ℕ) → Type 0
Found v rest low q r = (i : ℕ) × (r ≡ 2 ^ i / 2) × Digits v rest low q (2 ^ i)

pub found_small : (v rest low q r : ℕ) → Found v rest low q r → (rest < 2 ^ 56) × (q + r ≤ 2 ^ 54)
found_small v rest low q r f = (rest_lt v rest low q (2 ^ f.0) f.2, both q r (2 ^ f.0) f.1 f.2.few)
  where
    both : (q r w : ℕ) → r ≡ w / 2 → q + w ≤ 2 ^ 54 → q + r ≤ 2 ^ 54
    both q r w a b = omega arith

-- one digit more
pub found_next : (v rest low q r rest' low' q' : ℕ) → (Digits v rest low q (2 * r) → Digits v rest' low' q' r) → (r ≡ 0 → ⊥) → Found v rest low q r
    → Found v rest' low' q' (r / 2)
found_next v rest low q r rest' low' q' go n (zero, e, d) = absurd (n e)
found_next v rest low q r rest' low' q' go n (suc i, e, d) =
    let p : 2 ^ suc i ≡ 2 * 2 ^ i = pow-succ' 2 i in
    let s : r ≡ 2 ^ i = half r (2 ^ i) (2 ^ suc i) e p in
    let g = go (subst (λ (w : ℕ). Digits v rest low q w) (p ∙ ap (λ (w : ℕ). 2 * w) (sym s)) d) in
    (i, ap (λ (w : ℕ). w / 2) s, subst (λ (w : ℕ). Digits v rest' low' q' w) s g)
  where
    half : (r a b : ℕ) → r ≡ b / 2 → b ≡ 2 * a → r ≡ a
    half r a b e f = omega arith

-- before the first of 54 digits
pub found_none : (hi lo low : ℕ) → hi < 2 ^ 54 → lo < 2 ^ 55 → low ≡ lo % 2 ^ 54 → Found (hi * 2 ^ 55 + lo) (2 * hi + lo / 2 ^ 54) low 0 (2 ^ 53)
found_none hi lo low h k e = (54, refl, record { same = omega arith; little = omega arith; next = omega arith; few = omega arith })

-- ---- no digit is left: v is 2 * q * q + rest, and the last digit of q counts a half
pub last : (v rest low q r : ℕ) → Found v rest low q r → r ≡ 0 → (v ≡ 2 * (q * q) + rest) × (v < 2 * ((q + 1) * (q + 1)))
last v rest low q r (zero, e, d) h = let a = d.same in let b = d.little in (omega arith, d.next)
last v rest low q r (suc i, e, d) h = absurd (never (2 ^ i) (2 ^ suc i) (pow_pos i) (pow-succ' 2 i) (sym h ∙ e))
  where
    never : (a b : ℕ) → 0 < a → b ≡ 2 * a → 0 ≡ b / 2 → ⊥
    never a b p e f = omega arith

module _ (v rest q : ℕ) (e : v ≡ 2 * (q * q) + rest) (h : v < 2 * ((q + 1) * (q + 1))) where
  even_digit : (s : ℕ) → q ≡ 2 * s → NearestEven v 2 s
  even_digit s f =
      let a : q * q ≡ 2 * s * (2 * s) = ap (λ (z : ℕ). z * z) f in
      let b : (q + 1) * (q + 1) ≡ (2 * s + 1) * (2 * s + 1) = ap (λ (z : ℕ). (z + 1) * (z + 1)) f in
      let x = square_add (2 * s) 1 in
      let y = square_add (2 * s) 2 in
      let z : 2 * s + 2 ≡ 2 * (s + 1) = omega arith in
      let w : (2 * s + 2) * (2 * s + 2) ≡ 2 * (s + 1) * (2 * (s + 1)) = ap (λ (z : ℕ). z * z) z in
      down v 2 s (lit< tt) (omega arith) (omega arith) (omega arith) (λ g. absurd (omega arith))

  odd_digit : (s : ℕ) → q ≡ 2 * s + 1 → (rest ≡ 0 → ⊥) → NearestEven v 2 (s + 1)
  odd_digit s f n =
      let a : q * q ≡ (2 * s + 1) * (2 * s + 1) = ap (λ (z : ℕ). z * z) f in
      let b : (q + 1) * (q + 1) ≡ 2 * (s + 1) * (2 * (s + 1)) = ap (λ (z : ℕ). z * z) (ap suc' f ∙ next s) in
      let x = square_add (2 * s) 1 in
      up v 2 s (lit< tt) (omega arith) (omega arith) (omega arith) (λ g. absurd (omega arith))
    where
      suc' : ℕ → ℕ
      suc' n = n + 1

      next : (s : ℕ) → 2 * s + 1 + 1 ≡ 2 * (s + 1)
      next s = omega arith

  midway : (s : ℕ) → q ≡ 2 * s + 1 → rest ≡ 0 → NearestEven v 2 (s + s % 2)
  midway s f n =
      let a : q * q ≡ (2 * s + 1) * (2 * s + 1) = ap (λ (z : ℕ). z * z) f in
      let b : (q + 1) * (q + 1) ≡ 2 * (s + 1) * (2 * (s + 1)) = ap (λ (z : ℕ). z * z) (ap suc' f ∙ next s) in
      let x = square_add (2 * s) 1 in
      tie v 2 s (lit< tt) (omega arith) (omega arith) (omega arith)
    where
      suc' : ℕ → ℕ
      suc' n = n + 1

      next : (s : ℕ) → 2 * s + 1 + 1 ≡ 2 * (s + 1)
      next s = omega arith

  pub rounded : (rest ≡ 0 → ⊥) → NearestEven v 2 (q / 2 + bit_and q 1)
  rounded n = subst (λ (z : ℕ). NearestEven v 2 (q / 2 + z)) (sym (and_mask q 1)) (go (q % 2) (omega arith) refl)
    where
      go : (b : ℕ) → b < 2 → q % 2 ≡ b → NearestEven v 2 (q / 2 + b)
      go zero B f = subst (λ (z : ℕ). NearestEven v 2 z) (omega arith) (even_digit (q / 2) (omega arith))
      go (suc zero) B f = odd_digit (q / 2) (omega arith) n
      go (suc (suc b)) B f = absurd (omega arith)

  both_digits : bit_and (bit_and q (q / 2)) 1 ≡ bit_and (q % 2) (q / 2 % 2)
  both_digits = and_mask (bit_and q (q / 2)) 1 ∙ and_mod q (q / 2) 1

  pub tied : rest ≡ 0 → NearestEven v 2 (q / 2 + bit_and (bit_and q (q / 2)) 1)
  tied n = subst (λ (z : ℕ). NearestEven v 2 (q / 2 + z)) (sym both_digits) (go (q % 2) (q / 2 % 2) (omega arith) (omega arith) refl refl)
    where
      go : (b d : ℕ) → b < 2 → d < 2 → q % 2 ≡ b → q / 2 % 2 ≡ d → NearestEven v 2 (q / 2 + bit_and b d)
      go zero d B D f g = subst (λ (z : ℕ). NearestEven v 2 z) (omega arith) (even_digit (q / 2) (omega arith))
      go (suc zero) zero B D f g = subst (λ (z : ℕ). NearestEven v 2 (q / 2 + z)) g (midway (q / 2) (omega arith) n)
      go (suc zero) (suc zero) B D f g = subst (λ (z : ℕ). NearestEven v 2 (q / 2 + z)) g (midway (q / 2) (omega arith) n)
      go (suc zero) (suc (suc d)) B D f g = absurd (omega arith)
      go (suc (suc b)) d B D f g = absurd (omega arith)

-- ---- the plain root: of eight times n there are no ties
pub plain : (n q : ℕ) → 0 < n → NearestEven (8 * n) 2 q → Nearest n q
plain n zero z a = record { above = omega arith; below = let b = a.below in omega arith }
plain n (suc r) z a =
    let q = r + 1 in
    let e : suc r ≡ q = omega arith in
    let f : 2 * suc r - 1 ≡ 2 * r + 1 = omega arith in
    let b : (2 * r + 1) * (2 * r + 1) * 2 ≤ 8 * n = subst (λ (z : ℕ). z * z * 2 ≤ 8 * n) f a.above in
    let c : 8 * n ≤ (2 * q + 1) * (2 * q + 1) * 2 = subst (λ (z : ℕ). 8 * n ≤ (2 * z + 1) * (2 * z + 1) * 2) e a.below in
    let g = odd_square r in
    let h = odd_square q in
    let k = square_add r 1 in
    subst (λ (z : ℕ). Nearest n z) (sym e) (record { above = omega arith; below = omega arith })
