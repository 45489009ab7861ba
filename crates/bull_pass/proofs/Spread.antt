-- What operations make of numbers that lie between two others.
use mathlib.Core.Bool.{Bool, true, false, cond}
use mathlib.Core.Logic.{◌⊎◌, inl, inr}
use mathlib.Core.Path.{◌≡◌, refl, sym, ◌∙◌}
use lib.Dec.{T, eqb}
use lib.Ieee.{Float, nan, inf, fin, binary64, unlike, mul, div, neg, lt, le}
use lib.Ieee.Scale.{finite}
use lib.Ieee.Positive.{positive}
use Rattle.numbers.specs.Reals.{◌⊖◌, ◌⊗◌, ◌⊘◌}
use Rattle.rules.proofs.Branches.{no, by_test}
use Rattle.order.proofs.Ranges.{finite_between, sub_mono, div_up}
use Rattle.order.proofs.Extremes.{not_below_lem, lt_le, not_above}
use Rattle.order.proofs.Order.{O, le_trans, sub_turns, add_right, mul_up, mul_down, mul_swap, neg_finite, neg_turns, no_lower, no_upper}
use Rattle.bound.proofs.Along.{Between, at, add_parts, rising, falling}

never : (b : Bool) (s : Bool) → T (finite (cond b nan (inf s))) → ⊥
never true s h = h
never false s h = h

pub mul_parts : (x y : Float) → T (finite (mul binary64 x y)) → T (finite x) × T (finite y)
unfolding mul
mul_parts nan y h = absurd h
mul_parts (inf s) nan h = absurd h
mul_parts (inf s) (inf t) h = absurd h
mul_parts (inf s) (fin t n d) h = absurd (never (eqb n 0) (unlike s t) h)
mul_parts (fin s m e) nan h = absurd h
mul_parts (fin s m e) (inf t) h = absurd (never (eqb m 0) (unlike s t) h)
mul_parts (fin s m e) (fin t n d) h = (tt, tt)

-- ---- a coordinate between its values at lo and hi
module _ (a b lo hi t : Float) (above : T (le lo t)) (below : T (le t hi)) (P : T (finite (at a b lo))) (Q : T (finite (at a b hi))) where
  abbrev e : Float
  e = b ⊖ a

  fa : T (finite a)
  fa = (add_parts a (lo ⊗ e) P).0

  f₀ : T (finite (lo ⊗ e))
  f₀ = (add_parts a (lo ⊗ e) P).1

  f₁ : T (finite (hi ⊗ e))
  f₁ = (add_parts a (hi ⊗ e) Q).1

  fe : T (finite e)
  fe = (mul_parts lo e f₀).1

  fl : T (finite lo)
  fl = (mul_parts lo e f₀).0

  fh : T (finite hi)
  fh = (mul_parts hi e f₁).0

  ft : T (finite t)
  ft = finite_between lo t hi fl fh above below

  up_way : T (le O e) → T (le (at a b lo) (at a b t)) × T (le (at a b t) (at a b hi))
  up_way h =
      let z = no_lower e fe h in
      let k = mul_up lo t e fl ft fe above z in
      let l = mul_up t hi e ft fh fe below z in
      let f = finite_between (lo ⊗ e) (t ⊗ e) (hi ⊗ e) f₀ f₁ k l in
      (add_right binary64 (lo ⊗ e) (t ⊗ e) a f₀ f fa k, add_right binary64 (t ⊗ e) (hi ⊗ e) a f f₁ fa l)

  down_way : T (le e O) → T (le (at a b hi) (at a b t)) × T (le (at a b t) (at a b lo))
  down_way h =
      let z = no_upper e fe h in
      let k = mul_down lo t e fl ft fe above z in
      let l = mul_down t hi e ft fh fe below z in
      let f = finite_between (hi ⊗ e) (t ⊗ e) (lo ⊗ e) f₁ f₀ l k in
      (add_right binary64 (hi ⊗ e) (t ⊗ e) a f₁ f fa l, add_right binary64 (t ⊗ e) (lo ⊗ e) a f f₀ fa k)

  pub along_part : Between (at a b lo) (at a b hi) (at a b t)
  along_part =
      by_test (lt e O)
      (λ l. let w = down_way (lt_le e O l) in falling _ _ P Q _ w.0 w.1)
      (λ l. let w = up_way (not_below_lem e O fe tt l) in rising _ _ P Q _ w.0 w.1)

-- ---- products
module _ (x y t c : Float) (fx : T (finite x)) (fy : T (finite y)) (ft : T (finite t)) (fc : T (finite c)) (above : T (le x t)) (below : T (le t y)) where
  pub product_left : T (finite (x ⊗ c)) → T (finite (y ⊗ c)) → Between (x ⊗ c) (y ⊗ c) (t ⊗ c)
  product_left P Q =
      by_test (lt c O)
      (λ l. let z = no_upper c fc (lt_le c O l) in falling _ _ P Q _ (mul_down t y c ft fy fc below z) (mul_down x t c fx ft fc above z))
      (λ l. let z = no_lower c fc (not_below_lem c O fc tt l) in rising _ _ P Q _ (mul_up x t c fx ft fc above z) (mul_up t y c ft fy fc below z))

  pub product_right : T (finite (c ⊗ x)) → T (finite (c ⊗ y)) → Between (c ⊗ x) (c ⊗ y) (c ⊗ t)
  product_right P Q = rw (mul_swap c x fc fx, mul_swap c y fc fy, mul_swap c t fc ft)
      (product_left (rw (mul_swap c x fc fx) at P) (rw (mul_swap c y fc fy) at Q))

-- ---- differences and quotients
pub minus_between : (x y p q m n : Float) → T (finite p) → T (finite q) → T (finite m) → T (finite n) → T (finite x) → T (finite y) → T (le p x) → T (le x q)
    → T (le m y) → T (le y n)
    → T (le (p ⊖ n) (x ⊖ y)) × T (le (x ⊖ y) (q ⊖ m))
minus_between x y p q m n fp fq fm fn fx fy a b c d = (
  le_trans (p ⊖ n) (x ⊖ n) (x ⊖ y) (sub_mono binary64 p x n fp fx fn a) (sub_turns binary64 y n x fy fn fx d),
  le_trans (x ⊖ y) (q ⊖ y) (q ⊖ m) (sub_mono binary64 x q y fx fq fy b) (sub_turns binary64 m y q fm fy fq c),
)

pub div_parts : (x y : Float) → T (finite (div binary64 x y)) → T (finite x)
unfolding div
div_parts nan y h = absurd h
div_parts (inf s) nan h = absurd h
div_parts (inf s) (inf t) h = absurd h
div_parts (inf s) (fin t n d) h = absurd h
div_parts (fin s m e) y h = tt

both_turned : (x y : Float) → T (finite x) → T (finite y) → div binary64 (neg x) (neg y) ≡ div binary64 x y
unfolding div neg
both_turned nan y p q = absurd p
both_turned (inf s) y p q = absurd p
both_turned (fin s m e) nan p q = absurd q
both_turned (fin s m e) (inf t) p q = absurd q
both_turned (fin true m e) (fin true n d) p q = refl
both_turned (fin true m e) (fin false n d) p q = refl
both_turned (fin false m e) (fin true n d) p q = refl
both_turned (fin false m e) (fin false n d) p q = refl

pub quotient : (p q x det : Float) → T (finite det) → T (positive det) ⊎ T (positive (neg det)) → T (finite (p ⊘ det)) → T (finite (q ⊘ det)) → T (finite x)
    → T (le p x) → T (le x q) → Between (p ⊘ det) (q ⊘ det) (x ⊘ det)
quotient p q x det fd (inl s) P Q fx a b =
    rising _ _ P Q _ (div_up binary64 p x det (div_parts p det P) fx s a) (div_up binary64 x q det fx (div_parts q det Q) s b)
quotient p q x det fd (inr s) P Q fx a b =
    let fp = div_parts p det P in
    let fq = div_parts q det Q in
    let l = div_up binary64 (neg x) (neg p) (neg det) (neg_finite x fx) (neg_finite p fp) s (neg_turns p x fp fx a) in
    let h = div_up binary64 (neg q) (neg x) (neg det) (neg_finite q fq) (neg_finite x fx) s (neg_turns x q fx fq b) in
    falling _ _ P Q _ (rw (both_turned q det fq fd, both_turned x det fx fd) at h) (rw (both_turned x det fx fd, both_turned p det fp fd) at l)

-- ---- what is at most y is below what y is below
pub below_all : (x y z : Float) → T (le x y) → lt y z ≡ true → le z x ≡ false
below_all x y z h l =
    by_test (le z x)
    (λ e. absurd (no (sym (not_above z y (le_trans z x y (rw e tt) h)) ∙ l)))
    (λ e. e)
