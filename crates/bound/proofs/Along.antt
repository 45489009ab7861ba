-- A coordinate between its values at 0 and 1, and what small numbers make.
use mathlib.Core.Bool.{Bool, true, false, not, cond}
use mathlib.Core.Path.{refl}
use Prim.Native.Nat.{◌≤◌}
use lib.Dec.{T, eqb}
use lib.IntN.{pos}
use lib.Ieee.{Float, nan, inf, fin, binary64, unlike, add, sub, mul, neg, lt, le, of_bits}
use lib.Ieee.Scale.{finite}
use Rattle.order.proofs.Roots.{no_count, count_rises, count_falls}
use Rattle.numbers.specs.Reals.{◌⊕◌, ◌⊖◌, ◌⊗◌, f0, min_of, max_of, f0_is}
use Rattle.roots.specs.Hypot.{count_of}
use Rattle.rules.proofs.Branches.{either, by_test}
use Rattle.order.proofs.Ranges.{finite_between, sub_mono}
use Rattle.order.proofs.Extremes.{either_of, not_below_lem, max_least, min_either, max_first, lt_le, min_first, min_second}
use Rattle.bound.specs.Inside.{nearer_of}
use Rattle.order.proofs.Order.{O, le_trans, add_right, mul_up, mul_down, no_lower, no_upper}
use Rattle.bound.proofs.Unit.{I, Unit, unit_finite}

-- ---- the number nearest to 0, by counts of smallest f64s
pub nearest_count : (low high x : Float) → T (finite low) → T (finite high) → T (finite x) → T (le low x) → T (le x high)
    → count_of (nearer_of low high) ≤ count_of x
unfolding nearer_of
nearest_count low high x p q r h k =
    by_test (lt f0 low)
    (λ e. rw e (count_rises low x p r (rw f0_is at (lt_le f0 low e)) h))
    (λ e.
    by_test (lt high f0)
    (λ g. rw (e, g) (count_falls x high r q (rw f0_is at (lt_le high f0 g)) k))
    (λ g. rw (e, g, f0_is) (no_count false 0 (pos 0) _ refl)))

-- ---- what a finite result tells of its parts
pub add_parts : (x y : Float) → T (finite (add binary64 x y)) → T (finite x) × T (finite y)
unfolding add
add_parts nan y h = absurd h
add_parts (inf s) nan h = absurd h
add_parts (inf true) (inf true) h = absurd h
add_parts (inf true) (inf false) h = absurd h
add_parts (inf false) (inf true) h = absurd h
add_parts (inf false) (inf false) h = absurd h
add_parts (inf s) (fin t n d) h = absurd h
add_parts (fin s m e) nan h = absurd h
add_parts (fin s m e) (inf t) h = absurd h
add_parts (fin s m e) (fin t n d) h = (tt, tt)

pub sub_parts : (x y : Float) → T (finite (sub binary64 x y)) → T (finite x) × T (finite y)
unfolding sub neg
sub_parts x nan h = absurd (add_parts x nan h).1
sub_parts x (inf s) h = absurd (add_parts x (inf (not s)) h).1
sub_parts x (fin t n d) h = ((add_parts x (fin (not t) n d) h).0, tt)

never : (b : Bool) (s : Bool) → T (finite (cond b nan (inf s))) → ⊥
never true s h = h
never false s h = h

pub mul_part : (x y : Float) → T (finite x) → T (finite (mul binary64 x y)) → T (finite y)
unfolding mul
mul_part nan y p h = absurd p
mul_part (inf s) y p h = absurd p
mul_part (fin s m e) nan p h = absurd h
mul_part (fin s m e) (inf t) p h = absurd (never (eqb m 0) (unlike s t) h)
mul_part (fin s m e) (fin t n d) p h = tt

-- ---- between two places
abbrev pub at : Float → Float → Float → Float
at a b t = a ⊕ t ⊗ (b ⊖ a)

pub record Between (p q s : Float) : Type 0 where
  pub low : T (le (min_of p q) s)
  pub high : T (le s (max_of p q))
  pub fine : T (finite s)

module _ (p q : Float) (P : T (finite p)) (Q : T (finite q)) where
  low_fine : T (finite (min_of p q))
  low_fine = min_either (λ v. T (finite v)) p q P Q

  high_fine : T (finite (max_of p q))
  high_fine = either_of (λ v. T (finite v)) p q P Q

  pub rising : (s : Float) → T (le p s) → T (le s q) → Between p q s
  rising s h k =
      let a = le_trans (min_of p q) p s (min_first p q P Q) h in
      let b = le_trans s q (max_of p q) k (max_least p q P Q) in
      record { low = a; high = b; fine = finite_between (min_of p q) s (max_of p q) low_fine high_fine a b }

  pub falling : (s : Float) → T (le q s) → T (le s p) → Between p q s
  falling s h k =
      let a = le_trans (min_of p q) q s (min_second p q P Q) h in
      let b = le_trans s p (max_of p q) k (max_first p q P Q) in
      record { low = a; high = b; fine = finite_between (min_of p q) s (max_of p q) low_fine high_fine a b }

  pub nearest_fine : T (finite (nearer_of (min_of p q) (max_of p q)))
  unfolding nearer_of of_bits
  nearest_fine =
      either (λ v. T (finite v)) (lt f0 (min_of p q)) (min_of p q) (cond (lt (max_of p q) f0) (max_of p q) f0) (λ e. low_fine)
      (λ e. either (λ v. T (finite v)) (lt (max_of p q) f0) (max_of p q) f0 (λ g. high_fine) (λ g. tt))

  pub nearest_below : (s : Float) → Between p q s → count_of (nearer_of (min_of p q) (max_of p q)) ≤ count_of s
  nearest_below s b = nearest_count (min_of p q) (max_of p q) s low_fine high_fine b.fine b.low b.high

-- from lo to hi
module _ (a b lo hi t : Float) (fl : T (finite lo)) (fh : T (finite hi)) (ft : T (finite t)) (l : T (le lo t)) (h : T (le t hi)) (P : T (finite (at a b lo)))
    (Q : T (finite (at a b hi))) where
  fa : T (finite a)
  fa = (add_parts a (lo ⊗ (b ⊖ a)) P).0

  abbrev e : Float
  e = b ⊖ a

  f_l : T (finite (lo ⊗ e))
  f_l = (add_parts a (lo ⊗ e) P).1

  f_h : T (finite (hi ⊗ e))
  f_h = (add_parts a (hi ⊗ e) Q).1

  fe : T (finite e)
  fe = mul_part lo e fl f_l

  -- both ways round
  up_way : T (le O e) → T (le (at a b lo) (at a b t)) × T (le (at a b t) (at a b hi))
  up_way k =
      let z = no_lower e fe k in
      let p = mul_up lo t e fl ft fe l z in
      let q = mul_up t hi e ft fh fe h z in
      let f = finite_between (lo ⊗ e) (t ⊗ e) (hi ⊗ e) f_l f_h p q in
      (add_right binary64 (lo ⊗ e) (t ⊗ e) a f_l f fa p, add_right binary64 (t ⊗ e) (hi ⊗ e) a f f_h fa q)

  down_way : T (le e O) → T (le (at a b hi) (at a b t)) × T (le (at a b t) (at a b lo))
  down_way k =
      let z = no_upper e fe k in
      let p = mul_down lo t e fl ft fe l z in
      let q = mul_down t hi e ft fh fe h z in
      let f = finite_between (hi ⊗ e) (t ⊗ e) (lo ⊗ e) f_h f_l q p in
      (add_right binary64 (hi ⊗ e) (t ⊗ e) a f_h f fa q, add_right binary64 (t ⊗ e) (lo ⊗ e) a f f_l fa p)

  pub along_on : Between (at a b lo) (at a b hi) (at a b t)
  along_on =
      by_test (lt e O)
      (λ k. let w = down_way (lt_le e O k) in falling _ _ P Q _ w.0 w.1)
      (λ k. let w = up_way (not_below_lem e O fe tt k) in rising _ _ P Q _ w.0 w.1)

-- the same as seen from x
module _ (a b x lo hi t : Float) (fl : T (finite lo)) (fh : T (finite hi)) (ft : T (finite t)) (l : T (le lo t)) (h : T (le t hi))
    (P : T (finite (at a b lo ⊖ x))) (Q : T (finite (at a b hi ⊖ x))) where
  p₀ : T (finite (at a b lo))
  p₀ = (sub_parts (at a b lo) x P).0

  q₀ : T (finite (at a b hi))
  q₀ = (sub_parts (at a b hi) x Q).0

  fx : T (finite x)
  fx = (sub_parts (at a b lo) x P).1

  pub side_on_lem : Between (at a b lo ⊖ x) (at a b hi ⊖ x) (at a b t ⊖ x)
  side_on_lem =
      let b₀ = along_on a b lo hi t fl fh ft l h p₀ q₀ in
      by_test (lt (b ⊖ a) O)
      (λ k.
      let w = down_way a b lo hi t fl fh ft l h p₀ q₀ (lt_le (b ⊖ a) O k) in
      falling _ _ P Q _ (sub_mono binary64 (at a b hi) (at a b t) x q₀ b₀.fine fx w.0)
      (sub_mono binary64 (at a b t) (at a b lo) x b₀.fine p₀ fx w.1))
      (λ k.
      let w = up_way a b lo hi t fl fh ft l h p₀ q₀ (not_below_lem (b ⊖ a) O (fe a b lo hi t fl fh ft l h p₀ q₀) tt k) in
      rising _ _ P Q _ (sub_mono binary64 (at a b lo) (at a b t) x p₀ b₀.fine fx w.0)
      (sub_mono binary64 (at a b t) (at a b hi) x b₀.fine q₀ fx w.1))

-- from 0 to 1
pub along_between : (a b t : Float) → Unit t → T (finite (at a b O)) → T (finite (at a b I)) → Between (at a b O) (at a b I) (at a b t)
along_between a b t u P Q = along_on a b O I t tt tt (unit_finite t u) u.low u.high P Q
