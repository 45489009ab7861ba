-- Numbers whose squares have a sum of at most 9e11 are coordinates:
-- what is farther out than 1e6 has a square of 1e12 or more, and a sum is not below its parts.
use mathlib.Core.Bool.{Bool, true, false, not}
use mathlib.Core.List.{List}
use mathlib.Core.Path.{◌≡◌, refl, sym, subst}
use Prim.Native.Nat.{ℕ, ◌+◌, ◌*◌, ◌≤◌, ◌<◌}
use native.Mathlib.Nat.{mul-pos, mul-le-mul, le_of_lt, mul_assoc, mul_comm, mul_left_comm, add-mul}
use native.Mathlib.Omega.{arith}
use lib.Dec.{T}
use lib.IntN.{pos}
use lib.Ieee.{Float, nan, inf, fin, binary64, of_bits, up, down, round, sum, add, mul, fits, le}
use lib.Ieee.Fits.{down_pos, add-fits, mul-fits}
use lib.Ieee.Order.{le_of_values, round_mono}
use lib.Ieee.Scale.{finite}
use lib.Ieee.Bits.{is_true}
use Rattle.numbers.specs.Reals.{num, ◌⊕◌, ◌⊗◌, abs_of, million_is}
use Rattle.grid.specs.Boxes.{box_at}
use Rattle.numbers.proofs.Counts.{round_self}
use Rattle.cells.proofs.Sets.{by_lt}
use Rattle.plane.specs.Ranges.{is_coordinate}
use Rattle.order.proofs.Signed.{up_signed, round_up}
use Rattle.order.proofs.Ranges.{finite_between, le_trans_finite}
use Rattle.rules.specs.Every.{every}
use Rattle.query.specs.Usable.{corners_usable, are_coordinates, box_usable, triangle_usable}
use Rattle.query.specs.Inside.{seven_squares}

-- 9e11 and 1e12
abbrev most : Float
most = fin false 439453125 (pos 11)

abbrev near : Float
near = of_bits binary64 0x426a_3185_c500_0000

near_is : near ≡ most
unfolding of_bits
near_is = refl

abbrev far : Float
far = fin false 244140625 (pos 12)

far_is : round binary64 false 1000000000000 1 ≡ far
unfolding round
far_is = refl

-- ---- what is not negative: a square, and a sum of such
abbrev not_below : Float → Bool
not_below nan = true
not_below (inf s) = not s
not_below (fin s m e) = not s

up_not_below : (x : Float) → T (up_signed x) → T (not_below x)
up_not_below nan p = tt
up_not_below (inf s) p = p
up_not_below (fin s m e) p = p

rounded : (a c : ℕ) → T (not_below (round binary64 false a c))
rounded a c = up_not_below (round binary64 false a c) (round_up binary64 a c)

square_up : (x : Float) → T (not_below (x ⊗ x))
unfolding mul
square_up nan = tt
square_up (inf true) = tt
square_up (inf false) = tt
square_up (fin true m e) = rounded (m * up e * (m * up e)) (down e * down e)
square_up (fin false m e) = rounded (m * up e * (m * up e)) (down e * down e)

sum_up : (x y : Float) → T (not_below x) → T (not_below y) → T (not_below (x ⊕ y))
unfolding add sum
sum_up nan y p q = tt
sum_up (inf true) y p q = absurd p
sum_up (inf false) nan p q = tt
sum_up (inf false) (inf true) p q = absurd q
sum_up (inf false) (inf false) p q = tt
sum_up (inf false) (fin t n d) p q = tt
sum_up (fin true m e) y p q = absurd p
sum_up (fin false m e) nan p q = tt
sum_up (fin false m e) (inf true) p q = absurd q
sum_up (fin false m e) (inf false) p q = tt
sum_up (fin false m e) (fin true n d) p q = absurd q
sum_up (fin false m e) (fin false n d) p q = rounded (m * up e * down d + n * up d * down e) (down e * down d)

-- ---- a sum is not below its parts
part_left : (a b c d : ℕ) → a * (c * d) ≤ (a * d + b * c) * c
part_left a b c d = simp (add-mul, mul_assoc, mul_comm, mul_left_comm) (omega arith)

part_right : (a b c d : ℕ) → b * (c * d) ≤ (a * d + b * c) * d
part_right a b c d = simp (add-mul, mul_assoc, mul_comm, mul_left_comm) (omega arith)

under : (x r : Float) → T (finite x) → T (le x r) → T (le r most) → T (le x most)
under x r f p h = le_trans_finite x r most f (finite_between x r most f tt p h) tt p h

sum_parts : (x y : Float) → T (not_below x) → T (not_below y) → T (fits binary64 x) → T (fits binary64 y) → T (le (x ⊕ y) most) → T (le x most) × T (le y most)
unfolding add sum
sum_parts nan y p q s t h = absurd (unfold le in h)
sum_parts (inf true) y p q s t h = absurd p
sum_parts (inf false) nan p q s t h = absurd (unfold le in h)
sum_parts (inf false) (inf true) p q s t h = absurd q
sum_parts (inf false) (inf false) p q s t h = absurd (unfold le in h)
sum_parts (inf false) (fin u n d) p q s t h = absurd (unfold le in h)
sum_parts (fin true m e) y p q s t h = absurd p
sum_parts (fin false m e) nan p q s t h = absurd (unfold le in h)
sum_parts (fin false m e) (inf true) p q s t h = absurd q
sum_parts (fin false m e) (inf false) p q s t h = absurd (unfold le in h)
sum_parts (fin false m e) (fin true n d) p q s t h = absurd q
sum_parts (fin false m e) (fin false n d) p q s t h =
    let r = round binary64 false (m * up e * down d + n * up d * down e) (down e * down d) in
    let P = mul-pos (down_pos e) (down_pos d) in
    let a : T (le (fin false m e) r) = subst (λ (z : Float). T (le z r)) (round_self false m e s)
    (round_mono binary64 (m * up e) (down e) _ _ (down_pos e) P (part_left (m * up e) (n * up d) (down e) (down d))) in
    let b : T (le (fin false n d) r) = subst (λ (z : Float). T (le z r)) (round_self false n d t)
    (round_mono binary64 (n * up d) (down d) _ _ (down_pos d) P (part_right (m * up e) (n * up d) (down e) (down d))) in
    (under (fin false m e) r tt a h, under (fin false n d) r tt b h)

-- ---- a small square is that of a coordinate
beyond : (a d : ℕ) → 1000000 * d < a → 1000000000000 * (d * d) ≤ a * a * 1
beyond a d h =
    let k = mul-le-mul (le_of_lt h) (le_of_lt h) in
    let e : 1000000 * d * (1000000 * d) ≡ 1000000000000 * (d * d) = simp (mul_assoc, mul_comm, mul_left_comm) (omega arith) in
    omega (arith, k, e)

not_under : T (le far most) → ⊥
unfolding le
not_under h = absurd h

square_coordinate : (x : Float) → T (le (x ⊗ x) most) → is_coordinate x ≡ true
unfolding mul is_coordinate abs_of
square_coordinate nan h = absurd (unfold le in h)
square_coordinate (inf true) h = absurd (unfold le in h)
square_coordinate (inf false) h = absurd (unfold le in h)
square_coordinate (fin s m e) h = rw million_is (by_lt (1000000 * down e) (m * up e) (λ k. absurd (over s k h)) (λ k. is_true _ (le_of_values (fin false m e)
    (fin false 15625 (pos 6)) (m * up e) (down e) 1000000 1 (down_pos e) (omega arith) (refl, refl) (refl, refl) (omega (arith, k)))))
  where
    farther : 1000000 * down e < m * up e → T (le (round binary64 false (m * up e * (m * up e)) (down e * down e)) most) → ⊥
    farther k g =
        let r = round binary64 false (m * up e * (m * up e)) (down e * down e) in
        let l : T (le far r) = subst (λ (z : Float). T (le z r)) far_is
        (round_mono binary64 1000000000000 1 _ _ (omega arith) (mul-pos (down_pos e) (down_pos e)) (beyond (m * up e) (down e) k)) in
        not_under (under far r tt l g)

    over : (s : Bool) → 1000000 * down e < m * up e → T (le (fin s m e ⊗ fin s m e) most) → ⊥
    over true k g = farther k g
    over false k g = farther k g

-- ---- two, four and seven
pair_up : (a b : Float) → T (not_below (a ⊗ a ⊕ b ⊗ b))
pair_up a b = sum_up (a ⊗ a) (b ⊗ b) (square_up a) (square_up b)

pair : (a b : Float) → T (le (a ⊗ a ⊕ b ⊗ b) most) → (is_coordinate a ≡ true) × (is_coordinate b ≡ true)
pair a b h =
    let p = sum_parts (a ⊗ a) (b ⊗ b) (square_up a) (square_up b) (mul-fits binary64 a a) (mul-fits binary64 b b) h in
    (square_coordinate a p.0, square_coordinate b p.1)

module _ (a b c d : Float) where
  abbrev four_squares : Float
  four_squares = (a ⊗ a ⊕ b ⊗ b) ⊕ (c ⊗ c ⊕ d ⊗ d)

  four_up : T (not_below four_squares)
  four_up = sum_up (a ⊗ a ⊕ b ⊗ b) (c ⊗ c ⊕ d ⊗ d) (pair_up a b) (pair_up c d)

  four : T (le four_squares most) → ((is_coordinate a ≡ true) × (is_coordinate b ≡ true)) × ((is_coordinate c ≡ true) × (is_coordinate d ≡ true))
  four h =
      let p = sum_parts (a ⊗ a ⊕ b ⊗ b) (c ⊗ c ⊕ d ⊗ d) (pair_up a b) (pair_up c d) (add-fits binary64 _ _) (add-fits binary64 _ _) h in
      (pair a b p.0, pair c d p.1)

record Seven (a b c d e f g : Float) : Type 0 where
  first : is_coordinate a ≡ true
  second : is_coordinate b ≡ true
  third : is_coordinate c ≡ true
  fourth : is_coordinate d ≡ true
  fifth : is_coordinate e ≡ true
  sixth : is_coordinate f ≡ true
  last : is_coordinate g ≡ true

module _ (a b c d e f g : Float) where
  six_up : T (not_below (four_squares a b c d ⊕ (e ⊗ e ⊕ f ⊗ f)))
  six_up = sum_up (four_squares a b c d) (e ⊗ e ⊕ f ⊗ f) (four_up a b c d) (pair_up e f)

  seven_up : T (not_below (seven_squares a b c d e f g))
  unfolding seven_squares
  seven_up = sum_up (four_squares a b c d ⊕ (e ⊗ e ⊕ f ⊗ f)) (g ⊗ g) six_up (square_up g)

  seven_fits : T (fits binary64 (seven_squares a b c d e f g))
  unfolding seven_squares
  seven_fits = add-fits binary64 _ _

  seven : T (le (seven_squares a b c d e f g) most) → Seven a b c d e f g
  unfolding seven_squares
  seven h =
      let p = sum_parts (four_squares a b c d ⊕ (e ⊗ e ⊕ f ⊗ f)) (g ⊗ g) six_up (square_up g) (add-fits binary64 _ _) (mul-fits binary64 g g) h in
      let q = sum_parts (four_squares a b c d) (e ⊗ e ⊕ f ⊗ f) (four_up a b c d) (pair_up e f) (add-fits binary64 _ _) (add-fits binary64 _ _) p.0 in
      let r = four a b c d q.0 in
      let s = pair e f q.1 in
      record { first = r.0.0; second = r.0.1; third = r.1.0; fourth = r.1.1; fifth = s.0; sixth = s.1; last = square_coordinate g p.1 }

-- nine in a row
every_nine : (test : ℕ → Bool) (k : ℕ) → test k ≡ true → test (k + 1) ≡ true → test (k + 2) ≡ true → test (k + 3) ≡ true → test (k + 4) ≡ true
    → test (k + 5) ≡ true → test (k + 6) ≡ true → test (k + 7) ≡ true → test (k + 8) ≡ true → true ≡ every test k 9
unfolding every
every_nine test k t0 t1 t2 t3 t4 t5 t6 t7 t8 =
    let e2 : k + 1 + 1 ≡ k + 2 = omega arith in
    let e3 : k + 2 + 1 ≡ k + 3 = omega arith in
    let e4 : k + 3 + 1 ≡ k + 4 = omega arith in
    let e5 : k + 4 + 1 ≡ k + 5 = omega arith in
    let e6 : k + 5 + 1 ≡ k + 6 = omega arith in
    let e7 : k + 6 + 1 ≡ k + 7 = omega arith in
    let e8 : k + 7 + 1 ≡ k + 8 = omega arith in
    rw (e2, e3, e4, e5, e6, e7, e8, t0, t1, t2, t3, t4, t5, t6, t7, t8) refl

-- a triangle and its box: both sums are parts of one that is small
pub near_usable : (mesh boxes : List Float) (i : ℕ) (e o : Float)
    → e ≡ seven_squares (num mesh (9 * i)) (num mesh (9 * i + 2)) (num mesh (9 * i + 4)) (num mesh (9 * i + 6)) (num boxes (5 * i))
    (num boxes (5 * i + 2)) (num mesh (9 * i + 8))
    → o ≡ seven_squares (num mesh (9 * i + 1)) (num mesh (9 * i + 3)) (num mesh (9 * i + 5)) (num mesh (9 * i + 7)) (num boxes (5 * i + 1))
    (num boxes (5 * i + 3)) (num boxes (5 * i + 4))
    → le (e ⊕ o) near ≡ true → true ≡ triangle_usable mesh boxes i
unfolding triangle_usable corners_usable box_usable are_coordinates box_at
near_usable mesh boxes i e o p q t =
    let k = 9 * i in
    let j = 5 * i in
    let h : T (le (seven_squares _ _ _ _ _ _ _ ⊕ seven_squares _ _ _ _ _ _ _) most) = rw near_is at (subst T (sym (rw (p, q) at t)) tt) in
    let s = sum_parts (seven_squares _ _ _ _ _ _ _) (seven_squares _ _ _ _ _ _ _) (seven_up _ _ _ _ _ _ _) (seven_up _ _ _ _ _ _ _) (seven_fits _ _ _ _ _ _ _)
    (seven_fits _ _ _ _ _ _ _) h in
    let u = seven (num mesh k) (num mesh (k + 2)) (num mesh (k + 4)) (num mesh (k + 6)) (num boxes j) (num boxes (j + 2)) (num mesh (k + 8)) s.0 in
    let v = seven (num mesh (k + 1)) (num mesh (k + 3)) (num mesh (k + 5)) (num mesh (k + 7)) (num boxes (j + 1)) (num boxes (j + 3))
    (num boxes (j + 4)) s.1 in
    let c = every_nine (λ m. is_coordinate (num mesh m)) k u.first v.first u.second v.second u.third v.third
    u.fourth v.fourth u.last in
    rw (← c, u.fifth, v.fifth, u.sixth, v.sixth, v.last) refl
