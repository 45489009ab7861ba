-- Laws of the length rule.
use mathlib.Core.Path.{◌≡◌, refl, ap, sym, ◌∙◌}
use Prim.Native.Nat.{ℕ, ◌-◌, ◌*◌, ◌/◌, ◌≤◌, ◌<◌, min}
use native.Mathlib.Nat.{mul-le-mul_left, mul-le-mul_right, div-zero, zero-div, div-mul-le_self}
use native.Mathlib.Nat.{div-add-mod', mod-lt, add-mul, one-mul, min-le_left, min-le_right}
use native.Mathlib.Omega.{arith}
use borrow.Author.Tests.{lt-ltb, le-ltb, ltb-true, ltb-false}
use lib.Dec.{ltb}
use Rattle.rules.proofs.Branches.{taken, left, either}
use Rattle.fields.specs.declared.Shape.{Shape}
use Rattle.fields.specs.declared.Length.{Length}
use Rattle.fields.specs.declared.Length.TheVariants.{Short, Exact, Surplus}
use Rattle.fields.specs.Length.{bytes_of, whole_in, length_rule, refuse_length, Whole}

-- entries of a u16's bytes each, a u32 of them
pub few_bytes : (n size : ℕ) → n < 0x1_0000_0000 → size < 0x1_0000 → n * size < 0x1_0000_0000_0000
few_bytes n size h l =
    let p : n * size ≤ n * 0xffff = mul-le-mul_left n (omega arith) in
    omega arith

-- the count that a short file tells; d where none is told
unfoldable count : ℕ → Length → ℕ
count d (Short c) = c
count d Surplus = d
count d Exact = d

-- ---- the whole entries before a cut
module _ (s : Shape) (length : ℕ) where
  pub none_whole : length ≤ s.head → 0 ≡ whole_in s length
  unfolding whole_in
  none_whole h =
      let e : length - s.head ≡ 0 = omega arith in
      rw (e, zero-div) (omega arith)

  pub no_size : s.size ≡ 0 → 0 ≡ whole_in s length
  unfolding whole_in
  no_size e = rw (e, div-zero) (omega arith)

  pub some_whole : (c : ℕ) → c ≡ (length - s.head) / s.size → c < s.n → c ≡ whole_in s length
  unfolding whole_in
  some_whole c e h = rw (← e) (omega arith)

  pub all_whole : (c : ℕ) → c ≡ (length - s.head) / s.size → s.n ≤ c → s.n ≡ whole_in s length
  unfolding whole_in
  all_whole c e h = rw (← e) (omega arith)

  -- ---- the three answers
  module _ (w : ℕ) (e : w ≡ bytes_of s) where
    pub is_short : (c : ℕ) → length < w → c ≡ whole_in s length → Short c ≡ length_rule s length
    unfolding length_rule
    is_short c h p = rw (p, ← e) (taken _ _ _ _ (lt-ltb length w h) refl)

    pub is_surplus : w < length → Surplus ≡ length_rule s length
    unfolding length_rule
    is_surplus h = rw (← e) (left _ _ _ _ (le-ltb length w (omega arith)) (taken _ _ _ _ (lt-ltb w length h) refl))

    pub is_exact : length ≡ w → Exact ≡ length_rule s length
    unfolding length_rule
    is_exact h = rw (← e) (left _ _ _ _ (le-ltb length w (omega arith)) (left _ _ _ _ (le-ltb w length (omega arith)) refl))

  -- ---- what the number of whole entries is
  pub whole_is : s.head ≤ length → 1 ≤ s.size → Whole s length (whole_in s length)
  unfolding whole_in
  whole_is h l =
      let q = (length - s.head) / s.size in
      let a : min s.n q * s.size ≤ q * s.size = mul-le-mul_right s.size (min-le_right s.n q) in
      record {
        few = min-le_left s.n q;
        stand = omega (arith, div-mul-le_self (length - s.head) s.size);
        no_more = λ (i : min s.n q < s.n).
            let e : min s.n q ≡ q = omega arith in
            rw (e, add-mul, one-mul) (omega (arith, div-add-mod' (length - s.head) s.size, mod-lt (length - s.head) {m = s.size} (omega arith)));
      }

  -- ---- what a refusal says of the length
  judge : (P : Length → Type 0) → (length < bytes_of s → P (Short (whole_in s length))) → (bytes_of s < length → P Surplus) → (length ≡ bytes_of s → P Exact)
      → P (length_rule s length)
  unfolding length_rule
  judge P short surplus exact =
      either P (ltb length (bytes_of s)) _ _
      (λ t. short (ltb-true length (bytes_of s) t))
      (λ t. either P (ltb (bytes_of s) length) _ _ (λ u. surplus (ltb-true (bytes_of s) length u))
      (λ u. exact (omega (arith, ltb-false length (bytes_of s) t, ltb-false (bytes_of s) length u))))

  pub exact_only : (next : ℕ) → refuse_length (length_rule s length) next ≡ 0 → (length ≡ bytes_of s) × (next ≡ 0)
  unfolding refuse_length
  exact_only next =
      judge (λ (r : Length). refuse_length r next ≡ 0 → (length ≡ bytes_of s) × (next ≡ 0))
      (λ h e. absurd (omega arith))
      (λ h e. absurd (omega arith))
      (λ h e. (h, e))

  pub exact_length : Exact ≡ length_rule s length → length ≡ bytes_of s
  unfolding refuse_length
  exact_length e = (exact_only 0 (ap (λ (r : Length). refuse_length r 0) (sym e))).0

  pub short_only : (next : ℕ) → (next ≡ 19 → ⊥) → refuse_length (length_rule s length) next ≡ 19 → length < bytes_of s
  unfolding refuse_length
  short_only next n =
      judge (λ (r : Length). refuse_length r next ≡ 19 → length < bytes_of s)
      (λ h e. h)
      (λ h e. absurd (omega arith))
      (λ h e. absurd (n e))

  pub short_tells : (c : ℕ) → Short c ≡ length_rule s length → c ≡ whole_in s length
  unfolding count
  short_tells c e =
      let w = whole_in s length in
      ap (count w) e ∙ judge (λ (r : Length). count w r ≡ w) (λ h. refl) (λ h. refl) (λ h. refl)

-- ---- the rung of a ladder that the length decides
module _ (s : Shape) (length next : ℕ) where
  pub rung_short : length < bytes_of s → 19 ≡ refuse_length (length_rule s length) next
  unfolding refuse_length
  rung_short h = ap (λ (r : Length). refuse_length r next) (is_short s length (bytes_of s) refl _ h refl)

  pub rung_surplus : bytes_of s < length → 21 ≡ refuse_length (length_rule s length) next
  unfolding refuse_length
  rung_surplus h = ap (λ (r : Length). refuse_length r next) (is_surplus s length (bytes_of s) refl h)

  pub rung_exact : (k : ℕ) → length ≡ bytes_of s → k ≡ next → k ≡ refuse_length (length_rule s length) next
  unfolding refuse_length
  rung_exact k h e = e ∙ ap (λ (r : Length). refuse_length r next) (is_exact s length (bytes_of s) refl h)

-- a rung from what the length rule answered
pub rung_told : (r t : Length) (k next : ℕ) → r ≡ t → k ≡ refuse_length r next → k ≡ refuse_length t next
rung_told r t k next p e = rw p at e
