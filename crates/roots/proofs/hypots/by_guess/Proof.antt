-- `by_guess` meets its contract: what the check passes, with 53 digits but not the least such number, is the significand (`Scales.antt`).
use Rattle.std.proofs.Common.{◌≡◌, ℕ, ◌+◌, ◌-◌, ◌*◌, ◌/◌, ◌%◌, ◌^◌, ◌<◌, ◌≤◌, not, T, ap, ◌∙◌, subst, arith, rules}
use lib.Bits.{bit_and, and_mask, mask_lt}
use lib.Ieee.{binary64, of_bits, nan_bits}
use Rattle.roots.specs.Hypot.{hypot_of_count}
use Rattle.roots.specs.Inside.{place_of, digits_of, infinite_bits, of_sizes, Settled}
use Rattle.roots.proofs.Scales.{sum_of, Hits, guarded}
use Rattle.roots.proofs.Sized.{sizes_finite, result_is}
use Rattle.roots.proofs.hypots.by_guess.Statement.{statement}
use Rattle.roots.proofs.hypots.by_guess.Tie as tie

wide : (a : ℕ) → bit_and a (2 ^ 52 - 1) < 2 ^ 52
wide a = mask_lt a 52

digits : (a : ℕ) → 1 ≤ a / 2 ^ 52 → bit_and a (2 ^ 52 - 1) + 2 ^ 52 ≡ digits_of a
digits a h = go a (bit_and a (2 ^ 52 - 1)) (and_mask a 52) h
  where
    go : (a f : ℕ) → f ≡ a % 2 ^ 52 → 1 ≤ a / 2 ^ 52 → f + 2 ^ 52 ≡ digits_of a
    go a f e h = omega arith

-- what the guard lets through
module _ (a b k i s t : ℕ) (A : 28 ≤ a / 2 ^ 52) (A' : a / 2 ^ 52 < 2046) (D : b / 2 ^ 52 + k ≡ a / 2 ^ 52) (K : k ≤ 26) (I : i ≤ 1)
    (S : Settled s (4 * ((bit_and a (2 ^ 52 - 1) + 2 ^ 52) * (bit_and a (2 ^ 52 - 1) + 2 ^ 52) * 4 ^ k + (bit_and b (2 ^ 52 - 1) + 2 ^ 52)
    * (bit_and b (2 ^ 52 - 1) + 2 ^ 52))) (4 ^ (k + i)))
    (e : (t + (2 ^ 52 + 1)) % 2 ^ 64 ≡ s) (l : t < 2 ^ 52 - 1) where
  low : 2 ^ 52 < s
  low = omega arith

  high : s < 2 ^ 53
  high = omega arith

  hits : Hits (sum_of (digits_of a) (digits_of b) (place_of a) k) (place_of a + i) s
  hits =
      guarded (digits_of a) (digits_of b) (place_of a) k i s (omega arith)
      (subst (λ (z : ℕ). Settled s (4 * (z * z * 4 ^ k + digits_of b * digits_of b)) (4 ^ (k + i))) (digits a (omega arith))
      (subst (λ (z : ℕ). Settled s (4 * ((bit_and a (2 ^ 52 - 1) + 2 ^ 52) * (bit_and a (2 ^ 52 - 1) + 2 ^ 52) * 4 ^ k + z * z)) (4 ^ (k + i)))
      (digits b (omega arith)) S))
      low high

  place : place_of a - k ≡ place_of b
  place = omega arith

  below : a < infinite_bits
  below = omega arith

  under : (place_of a + i) * 2 ^ 52 % 2 ^ 64 + s < infinite_bits
  under = let h = high in omega arith

  pub good : (of_bits binary64 ((place_of a + i) * 2 ^ 52 % 2 ^ 64 + s) ≡ of_sizes a b) × T (not (nan_bits binary64 ((place_of a + i) * 2 ^ 52 % 2 ^ 64 + s)))
  good =
      let r = result_is (sum_of (digits_of a) (digits_of b) (place_of a) k) (place_of a + i) s hits (omega arith) under in (
        r.0 ∙ ap (λ (z : ℕ). hypot_of_count (digits_of a * 2 ^ place_of a * (digits_of a * 2 ^ place_of a) + digits_of b * 2 ^ z * (digits_of b * 2 ^ z))) place
            ∙ sizes_finite a b below,
        r.1,
      )

passed : (c : tie.Then-wrapping_sub_u64) → (of_bits binary64 ((place_of c.before.before.before.before.args.a + c.before.before.before.guessed-g.result.over) * 2
    ^ 52 % 2 ^ 64 + c.before.before.checked-s.result) ≡ of_sizes c.before.before.before.before.args.a c.before.before.before.before.args.b)
    × T (not (nan_bits binary64 ((place_of c.before.before.before.before.args.a + c.before.before.before.guessed-g.result.over) * 2 ^ 52 % 2 ^ 64
    + c.before.before.checked-s.result)))
passed c =
    let s = c.before.before.before.before in
    let g = c.before.before.before.guessed-g in
    good s.args.a s.args.b s.args.k g.result.over c.before.before.checked-s.result c.before.wrapping_sub_u64.result s.requires.1
    s.requires.2 s.requires.3 s.requires.4 g.ensures.0
    c.before.before.checked-s.ensures c.before.wrapping_sub_u64.ensures c.if-wrapping_sub_u64.true

pub by_guess_spec : {M : Type 1} → statement M
by_guess_spec =
    tie.close
    (tie.spec
    (λ c κs. c.requires.5)
    (λ c. omega (arith, wide c.before.args.a))
    (λ c. omega (arith, wide c.before.args.b))
    (λ c κs. (
      omega (arith, wide c.before.args.a),
      omega (arith, wide c.before.args.b),
      c.before.requires.4,
      c.guessed-g.ensures.0,
      c.guessed-g.ensures.1,
      c.guessed-g.ensures.2,
    ))
    (λ c. search rules)
    (λ c κs. tt)
    (λ c. search rules)
    (λ c. search rules)
    (λ c. search rules)
    (λ c. search rules)
    (λ c. (passed c).1)
    (λ c. (passed c).0)
    (λ c κs. (c.before.before.before.before.requires.0, omega (arith, c.before.before.before.before.requires.2)))
    (λ c. search rules))
