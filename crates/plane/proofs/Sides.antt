-- A coordinate lies from -1e6 to 1e6.
use mathlib.Core.Bool.{Bool, true, false, ◌&&◌, ◌||◌}
use mathlib.Core.Path.{◌≡◌, refl, ap, sym, ◌∙◌}
use Prim.Native.Nat.{ℕ, ◌*◌}
use borrow.Author.Tests.{eqb-true, eqb-false, eq-eqb, ne_eqb}
use lib.Dec.{eqb, ltb}
use lib.IntN.{ℤ, pos}
use lib.Ieee.{Float, nan, inf, fin, binary64, of_bits, up, down, le}
use lib.Ieee.Bits.{is_true}
use Rattle.numbers.specs.Reals.{million, abs_of, million_is}
use Rattle.rules.proofs.Branches.{by_test}
use Rattle.plane.specs.Ranges.{is_coordinate}
use Rattle.order.proofs.Signed.{le_apart}

abbrev pub minus_million : Float
minus_million = of_bits binary64 0xc12e_8480_0000_0000

minus_is : minus_million ≡ fin true 15625 (pos 6)
unfolding of_bits
minus_is = refl

turned : (a b : ℕ) → eqb a b ≡ eqb b a
turned a b = by_test (eqb a b) (λ e. e ∙ sym (eq-eqb b a (sym (eqb-true a b e)))) (λ e. e ∙ sym (ne_eqb b a (λ z. eqb-false a b e (sym z))))

mirrored : (m : ℕ) (k : ℤ) → le (fin true 15625 (pos 6)) (fin true m k) ≡ le (fin false m k) (fin false 15625 (pos 6))
unfolding le
mirrored m k = ap (λ (t : Bool). ltb (m * up k * 1) (1000000 * down k) || (t && true)) (turned (1000000 * down k) (m * up k * 1))

on_left : (a b : Bool) → a ≡ true → (a && b) ≡ b
on_left a b e = rw e

off_right : (a b : Bool) → b ≡ true → a ≡ (a && b)
off_right true b e = sym e
off_right false b e = refl

sides : (x : Float) → (le (fin true 15625 (pos 6)) x && le x (fin false 15625 (pos 6))) ≡ le (abs_of x) (fin false 15625 (pos 6))
unfolding abs_of
sides nan = unfold le in refl
sides (inf true) = unfold le in refl
sides (inf false) = unfold le in refl
sides (fin false m k) = on_left (le (fin true 15625 (pos 6)) (fin false m k)) (le (fin false m k) (fin false 15625 (pos 6)))
    (is_true _ (le_apart (fin true 15625 (pos 6)) (fin false m k) tt tt))
sides (fin true m k) =
    sym (off_right (le (fin true 15625 (pos 6)) (fin true m k)) (le (fin true m k) (fin false 15625 (pos 6)))
    (is_true _ (le_apart (fin true m k) (fin false 15625 (pos 6)) tt tt))) ∙ mirrored m k

pub coordinate_sides : (x : Float) → (le minus_million x && le x million) ≡ is_coordinate x
unfolding is_coordinate
coordinate_sides x = rw (minus_is, million_is) (sides x)
