-- `roots::root_of` meets its contract: `Units.antt` makes the result of the nearest root of m and half of e;
-- a candidate passed the check, or the digits were found.
use Rattle.std.proofs.Common.{◌≡◌, ℕ, ◌+◌, ◌*◌, ◌/◌, ◌%◌, ◌^◌, ◌<◌, ◌≤◌, ℤ, pos, negsuc, sym, ap, ◌∙◌, subst, inr, arith, lit≤, w64, rules}
use lib.Ieee.{binary64, of_bits}
use mir.ValLaws.{to_z-of_z}
use Rattle.roots.specs.Root.{Nearest, nearest_root}
use Rattle.roots.specs.Inside.{Exponent, lifted}
use Rattle.roots.proofs.Squares.{nearest_root_lem}
use Rattle.roots.proofs.Units.{shifted, bits_fit, bits_no_nan, bits_root}
use Rattle.roots.proofs.root_of.Statement.{statement}
use Rattle.roots.proofs.root_of.Tie as tie

is_odd : (c : tie.After-odd-o) → c.odd-o.result ≡ lifted c.before.args.e % 2
is_odd c = c.odd-o.ensures ∙ ap (λ (z : ℤ). lifted z % 2) (to_z-of_z w64 c.before.args.e c.before.ranges.e)

is_half : (c : tie.After-halved-p) → c.halved-p.result ≡ lifted c.before.before.args.e / 2
is_half c = c.halved-p.ensures ∙ ap (λ (z : ℤ). lifted z / 2) (to_z-of_z w64 c.before.before.args.e c.before.before.ranges.e)

one_digit : (c : tie.After-odd-o) → c.odd-o.result < 2
one_digit c = go _ _ (is_odd c)
  where
    go : (o l : ℕ) → o ≡ l % 2 → o < 2
    go o l e = omega arith

-- the machine's m << odd
n_is : (c : tie.After-odd-o) → (2 ^ 52 ≤ c.before.args.m * 2 ^ c.odd-o.result % 2 ^ 64) × (c.before.args.m * 2 ^ c.odd-o.result % 2 ^ 64 < 2 ^ 54)
    × (c.before.args.m * 2 ^ c.odd-o.result % 2 ^ 64 ≡ c.before.args.m * 2 ^ c.odd-o.result)
n_is c = shifted c.before.args.m c.odd-o.result c.before.requires.0 c.before.requires.1 (one_digit c)

-- ---- the candidate
passed : (c : tie.Then-nearest) → Nearest (c.before.before.before.before.before.args.m * 2 ^ c.before.before.before.before.odd-o.result * 2 ^ 52)
    c.before.before.candidate-s.result
passed c = subst (λ (n : ℕ). Nearest (n * 2 ^ 52) c.before.before.candidate-s.result) (n_is c.before.before.before.before).2
    (c.before.nearest.ensures c.if-nearest.true)

add-result : tie.Need-overflow_add-result
add-result c =
    let s = c.before.before.before.before.before in
    record {
      fits = bits_fit s.args.m s.args.e _ _ _ s.requires.0 s.requires.1 s.requires.2 (is_odd c.before.before.before.before)
          (is_half c.before.before.before) (passed c);
    }

float_from_bits-result : tie.Need-float_from_bits-result
float_from_bits-result c =
    let s = c.before.before.before.before.before in
    bits_no_nan s.args.m s.args.e _ _ _ s.requires.0 s.requires.1 s.requires.2 (is_odd c.before.before.before.before)
    (is_half c.before.before.before) (passed c)

returns : tie.Need-returns-then-nearest
returns c =
    let s = c.before.before.before.before.before in
    bits_root s.args.m s.args.e _ _ _ s.requires.0 s.requires.1 s.requires.2 (is_odd c.before.before.before.before)
    (is_half c.before.before.before) (passed c)

-- ---- the digits
low : (e : ℤ) → Exponent e → lifted e / 2 ≤ 2044
unfolding Exponent lifted
low (pos a) h = omega arith
low (negsuc a) h = omega arith

half_low : (c : tie.After-halved-p) → c.halved-p.result ≤ 2044
half_low c = subst (λ (z : ℕ). z ≤ 2044) (sym (is_half c)) (low c.before.before.args.e c.before.before.requires.2)

digits-requires : tie.Need-by_digits-requires
digits-requires c κs =
    let h = c.before.before.before in
    let s = h.before.before in
    let p = half_low h in
    ((n_is h.before).1, s.requires.1, s.requires.1, wider _ p, lit≤ tt, least _, inr s.requires.0)
  where
    wider : (p : ℕ) → p ≤ 2044 → p ≤ 2045
    wider p h = omega arith

    least : (p : ℕ) → 0 ≤ p
    least p = omega arith

returns-2 : tie.Need-returns
returns-2 c =
    let h = c.before.before.before.before in
    let o = h.before in
    let s = o.before in
    let n = n_is o in
    let w = s.args.m * 2 ^ o.odd-o.result % 2 ^ 64 in
    let q = nearest_root (w * 2 ^ 52) in
    let a : Nearest (w * 2 ^ 52) q = nearest_root_lem (w * 2 ^ 52) (some w n.0) (most w n.1) in
    let b : Nearest (s.args.m * 2 ^ o.odd-o.result * 2 ^ 52) q = subst (λ (z : ℕ). Nearest (z * 2 ^ 52) q) n.2 a in
    c.by_digits.ensures.1 (above w n.0) (half_low h) q a
    ∙ ap (λ (z : ℕ). of_bits binary64 (z + q)) (exact h.halved-p.result (half_low h))
    ∙ bits_root s.args.m s.args.e o.odd-o.result h.halved-p.result q s.requires.0 s.requires.1 s.requires.2 (is_odd o) (is_half h) b
  where
    some : (w : ℕ) → 2 ^ 52 ≤ w → 0 < w * 2 ^ 52
    some w h = omega arith

    most : (w : ℕ) → w < 2 ^ 54 → w * 2 ^ 52 < 4 ^ 53
    most w h = omega arith

    above : (w : ℕ) → 2 ^ 52 ≤ w → 0 < w
    above w h = omega arith

    exact : (p : ℕ) → p ≤ 2044 → p * 2 ^ 52 ≡ p * 2 ^ 52 % 2 ^ 64
    exact p h = omega arith

pub root_of_spec : {M : Type 1} → statement M
root_of_spec =
    tie.close
    (tie.spec
    (λ c κs. search rules)
    (λ c κs. search rules)
    (λ c κs. (c.before.before.requires.0, c.before.before.requires.1, one_digit c.before))
    (λ c. omega (arith, one_digit c.before.before))
    (λ c κs. ((n_is c.before.before).0, (n_is c.before.before).1, c.candidate-s.ensures.0, c.candidate-s.ensures.1))
    add-result
    float_from_bits-result
    returns
    (λ c. omega (arith, one_digit c.before.before.before.before))
    digits-requires
    returns-2)
