-- `by_digits` meets its contract: the nearest root of the sum, lowered to 109 digits, is the significand (`Scales.antt`); of w * 2^52 nothing is lowered, and
-- there are no ties (`plain` in `Rooting.antt`).
use Rattle.std.proofs.Common.{◌≡◌, ℕ, zero, suc, ◌+◌, ◌-◌, ◌*◌, ◌/◌, ◌%◌, ◌^◌, ◌<◌, ◌≤◌, false, not, T, refl, ap, ◌∙◌, subst, arith, lit<, rules}
use lib.Ieee.{binary64, of_bits, nan_bits}
use Rattle.roots.specs.Root.{Nearest}
use Rattle.roots.specs.Hypot.{NearestEven}
use Rattle.roots.specs.Inside.{Lowered, infinite_bits}
use Rattle.roots.proofs.Infinities.{infinity_is}
use Rattle.numbers.proofs.Patterns.{made_no_nan}
use Rattle.roots.proofs.Squares.{one_nearest}
use Rattle.roots.proofs.Evens.{even_le}
use Rattle.roots.proofs.Lowering.{nearest_lowered}
use Rattle.roots.proofs.Rooting.{plain}
use Rattle.roots.proofs.Scales.{sum_of, Hits, more, by_sum}
use Rattle.roots.proofs.Sized.{result_is, result_beyond}
use Rattle.roots.proofs.wide.by_digits.Statement.{statement}
use Rattle.roots.proofs.wide.by_digits.Tie as tie

-- lowered to 109 digits
top : (h w : ℕ) → w ≡ h / 2 ^ (2 * (h / 2 ^ 54)) → h < 2 ^ 55 → w < 2 ^ 54
top h w e H = go (h / 2 ^ 54) refl e
  where
    go : (j : ℕ) → h / 2 ^ 54 ≡ j → w ≡ h / 2 ^ (2 * j) → w < 2 ^ 54
    go zero f g = omega arith
    go (suc zero) f g = omega arith
    go (suc (suc j)) f g = absurd (omega arith)

-- the sum of two squares
hits : (c : tie.After-nearest_root) → c.before.before.before.before.args.w ≡ 0 → Hits (sum_of c.before.before.before.before.args.m
    c.before.before.before.before.args.n c.before.before.before.before.args.p c.before.before.before.before.args.k)
    (c.before.before.before.before.args.p + c.before.before.before.under_root-v.result.hi / 2 ^ 54) c.nearest_root.result
hits c e =
    let v = c.before.before.before.under_root-v in
    let s = c.before.before.before.before in
    by_sum s.args.m s.args.n s.args.p s.args.k _ _ _ _ s.requires.1 s.requires.2 s.requires.6 s.requires.5 (v.ensures.2.0 e)
    c.before.lowered-t.ensures.2 c.nearest_root.ensures (more v.result.hi v.result.lo v.ensures.0 v.ensures.1)

place : (c : tie.After-nearest_root) → c.before.before.before.before.args.p + c.before.before.before.under_root-v.result.hi / 2 ^ 54 ≤ 2046
place c = sum _ _ c.before.before.before.before.requires.3 c.before.before.before.under_root-v.ensures.0
  where
    sum : (p h : ℕ) → p ≤ 2045 → h < 2 ^ 55 → p + h / 2 ^ 54 ≤ 2046
    sum p h a b = omega arith

low : (c : tie.After-lowered-t) → (c.lowered-t.result.hi < 2 ^ 54) × (c.lowered-t.result.lo < 2 ^ 55)
low c = (top _ _ c.lowered-t.ensures.0 c.before.before.under_root-v.ensures.0, c.lowered-t.ensures.1)

few : (c : tie.After-nearest_root) → c.nearest_root.result ≤ 2 ^ 53
few c = let l = low c.before in even_le _ 2 c.nearest_root.result (lit< tt) (under _ _ l.0 l.1) c.nearest_root.ensures
  where
    under : (h l : ℕ) → h < 2 ^ 54 → l < 2 ^ 55 → h * 2 ^ 55 + l < 2 ^ 108 * 2
    under h l a b = omega arith

-- one number
plainly : (w p vh vl t q : ℕ) → w < 2 ^ 54 → vl < 2 ^ 55 → vh * 2 ^ 55 + vl ≡ 8 * (w * 2 ^ 52) → Lowered (vh * 2 ^ 55 + vl) t (2 * (vh / 2 ^ 54))
    → NearestEven t 2 q → 0 < w → (vh / 2 ^ 54 ≡ 0) × Nearest (w * 2 ^ 52) q
plainly w p vh vl t q W L e l a z =
    let j : vh / 2 ^ 54 ≡ 0 = omega arith in
    let b : Lowered (8 * (w * 2 ^ 52)) t (2 * 0) = subst (λ (x : ℕ). Lowered x t (2 * 0)) e (subst (λ (x : ℕ). Lowered (vh * 2 ^ 55 + vl) t (2 * x)) j l) in
    (j, plain (w * 2 ^ 52) q (some w z) (nearest_lowered (8 * (w * 2 ^ 52)) t (2 * 0) q b a))
  where
    some : (w : ℕ) → 0 < w → 0 < w * 2 ^ 52
    some w h = omega arith

one : (c : tie.After-nearest_root) → 0 < c.before.before.before.before.args.w → (c.before.before.before.under_root-v.result.hi / 2 ^ 54 ≡ 0)
    × Nearest (c.before.before.before.before.args.w * 2 ^ 52) c.nearest_root.result
one c z =
    let s = c.before.before.before.before in
    let v = c.before.before.before.under_root-v in
    plainly s.args.w s.args.p v.result.hi v.result.lo _ c.nearest_root.result s.requires.0 v.ensures.1 (v.ensures.2.1 z)
    c.before.lowered-t.ensures.2 c.nearest_root.ensures z

returns : tie.Need-returns-then-r-ge-INFINITE
returns c =
    let n = c.before in (
      (λ e. infinity_is ∙ result_beyond _ _ _ (hits n e) (place n) c.if-r-ge-INFINITE.true),
      (λ z P s a. absurd (none _ _ _ P (one n z).0 (few n) c.if-r-ge-INFINITE.true)),
    )
  where
    none : (p j q : ℕ) → p ≤ 2044 → j ≡ 0 → q ≤ 2 ^ 53 → infinite_bits ≤ (p + j) * 2 ^ 52 % 2 ^ 64 + q → ⊥
    none p j q a b d e = omega arith

no_nan : tie.Need-float_from_bits-result
no_nan c = go _ c.if-r-ge-INFINITE.false
  where
    go : (r : ℕ) → r < infinite_bits → T (not (nan_bits binary64 r))
    go r h = subst (λ (b : ℕ). T (not (nan_bits binary64 b))) (same r) (made_no_nan false (r / 2 ^ 52) (r % 2 ^ 52) (field r h) (rest r))
      where
        same : (r : ℕ) → 0 + (r / 2 ^ 52 * 2 ^ 52 + r % 2 ^ 52) ≡ r
        same r = omega arith

        field : (r : ℕ) → r < infinite_bits → r / 2 ^ 52 < 2 ^ 11 - 1
        field r h = omega arith

        rest : (r : ℕ) → r % 2 ^ 52 < 2 ^ 52
        rest r = omega arith

returns-2 : tie.Need-returns
returns-2 c =
    let n = c.before in (
      (λ e. (result_is _ _ _ (hits n e) (place n) c.if-r-ge-INFINITE.false).0),
      (λ z P s a. ap (of_bits binary64) (same _ _ _ s P (one n z).0 (one_nearest (one n z).1 a))),
    )
  where
    same : (p j q s : ℕ) → p ≤ 2044 → j ≡ 0 → q ≡ s → (p + j) * 2 ^ 52 % 2 ^ 64 + q ≡ p * 2 ^ 52 + s
    same p j q s a b e = omega arith

pub by_digits_spec : {M : Type 1} → statement M
by_digits_spec =
    tie.close
    (tie.spec
    (λ c κs. (c.requires.0, c.requires.1, c.requires.2, c.requires.4))
    (λ c. search rules)
    (λ c κs. search rules)
    (λ c. search rules)
    (λ c κs. low c)
    (λ c. record { fits = held _ _ (place c) (few c) })
    returns
    no_nan
    returns-2)
  where
    held : (k q : ℕ) → k ≤ 2046 → q ≤ 2 ^ 53 → k * 2 ^ 52 % 2 ^ 64 + q < 2 ^ 64
    held k q a b = omega arith
