-- What is between finite numbers is finite, and larger numbers give larger differences, quotients and truncations.
use mathlib.Core.Bool.{true, false}
use mathlib.Core.Logic.{inl}
use mathlib.Core.Path.{◌≡◌, refl}
use Prim.Native.Nat.{ℕ, ◌+◌, ◌-◌, ◌*◌, ◌^◌, ◌≤◌, ◌<◌, min}
use native.Mathlib.Nat.{zero-mul, mul-zero, mul_comm, mul_assoc, mul_left_comm, add-mul, mul-add, mul-pos, mul-le-mul_right, zero-div, le_of_mul-le-mul_right}
use native.Mathlib.Omega.{arith}
use lib.Dec.{T, ltb→lt}
use lib.IntN.{pos}
use lib.Ieee.{Float, nan, inf, fin, Format, binary64, up, down, sub, div, le, to_unsigned, round}
use lib.Ieee.Fits.{down_pos, up_pos}
use lib.Ieee.Nearest.{div_mono}
use lib.Ieee.Scale.{finite}
use lib.Ieee.Positive.{num, den, den_pos, positive}
use Rattle.order.proofs.Signed.{upper, lower, le→parts, parts→le, Is, rounded, is_le, is_sub, is_div}

pub sub_mono : (f : Format) (x y z : Float) → T (finite x) → T (finite y) → T (finite z) → T (le x y) → T (le (sub f x z) (sub f y z))
sub_mono f x y z p q r h =
    let dx = den x in
    let dy = den y in
    let dz = den z in
    is_le f _ _ _ _ _ _ _ _ (mul-pos (den_pos x) (den_pos z)) (mul-pos (den_pos y) (den_pos z))
    (cross (upper x) (lower x) dx (upper y) (lower y) dy (upper z) (lower z) dz (le→parts x y p q h))
    (is_sub f x z p r) (is_sub f y z q r)
  where
    cross : (ux lx dx uy ly dy uz lz dz : ℕ) → ux * dy + ly * dx ≤ uy * dx + lx * dy
        → (ux * dz + lz * dx) * (dy * dz) + (uz * dy + ly * dz) * (dx * dz) ≤ (uy * dz + lz * dy) * (dx * dz) + (uz * dx + lx * dz) * (dy * dz)
    cross ux lx dx uy ly dy uz lz dz h =
        let k = mul-le-mul_right (dz * dz) h in
        simp (add-mul, mul-add, mul_assoc, mul_comm, mul_left_comm) (omega (arith, simp (add-mul, mul-add, mul_assoc, mul_comm, mul_left_comm) at k))

pub num_pos : (s : Float) → T (positive s) → 0 < num s
num_pos nan r = absurd r
num_pos (inf t) r = absurd r
num_pos (fin true n d) r = absurd r
num_pos (fin false n d) r = mul-pos (ltb→lt 0 n r) (up_pos d)

pub div_up : (f : Format) (x y s : Float) → T (finite x) → T (finite y) → T (positive s) → T (le x y) → T (le (div f x s) (div f y s))
div_up f x y s p q r h =
    is_le f _ _ _ _ _ _ _ _ (mul-pos (num_pos s r) (den_pos x)) (mul-pos (num_pos s r) (den_pos y))
    (cross (upper x) (lower x) (den x) (upper y) (lower y) (den y) (num s) (den s) (le→parts x y p q h))
    (is_div f x s p r) (is_div f y s q r)
  where
    cross : (ux lx dx uy ly dy ns ds : ℕ) → ux * dy + ly * dx ≤ uy * dx + lx * dy
        → ux * ds * (ns * dy) + ly * ds * (ns * dx) ≤ uy * ds * (ns * dx) + lx * ds * (ns * dy)
    cross ux lx dx uy ly dy ns ds h =
        let k = mul-le-mul_right (ds * ns) h in
        simp (add-mul, mul-add, mul_assoc, mul_comm, mul_left_comm) (omega (arith, simp (add-mul, mul-add, mul_assoc, mul_comm, mul_left_comm) at k))

min_up : (a b c : ℕ) → a ≤ b → min a c ≤ min b c
min_up a b c h = omega arith

pub cut_up : (w : ℕ) (x y : Float) → T (finite x) → T (finite y) → T (le x y) → to_unsigned w x ≤ to_unsigned w y
unfolding to_unsigned
cut_up w nan y p q h = absurd p
cut_up w (inf s) y p q h = absurd p
cut_up w (fin s m e) nan p q h = absurd q
cut_up w (fin s m e) (inf t) p q h = absurd q
cut_up w (fin true m e) (fin t n d) p q h = omega arith
cut_up w (fin false m e) (fin false n d) p q h =
    min_up _ _ (2 ^ w - 1)
    (div_mono (m * up e) (down e) (n * up d) (down d) (down_pos e) (down_pos d)
    (omega (arith, le→parts (fin false m e) (fin false n d) tt tt h, zero-mul (down e), zero-mul (down d))))
cut_up w (fin false m e) (fin true n d) p q h =
    let k : m * up e * down d ≤ 0 * down d = omega (arith, le→parts (fin false m e) (fin true n d) tt tt h, zero-mul (down e), zero-mul (down d)) in
    let z : m * up e ≡ 0 = omega (arith, le_of_mul-le-mul_right {m = m * up e} {n = 0} {k = down d} k (down_pos d)) in
    rw (z, zero-div (down e)) (omega arith)

pub finite_between : (lo v hi : Float) → T (finite lo) → T (finite hi) → T (le lo v) → T (le v hi) → T (finite v)
unfolding le
finite_between nan v hi p q a b = absurd p
finite_between (inf s) v hi p q a b = absurd p
finite_between (fin s m e) nan hi p q a b = absurd a
finite_between (fin s m e) (inf true) hi p q a b = absurd a
finite_between (fin s m e) (inf false) nan p q a b = absurd q
finite_between (fin s m e) (inf false) (inf t) p q a b = absurd q
finite_between (fin s m e) (inf false) (fin t n d) p q a b = absurd b
finite_between (fin s m e) (fin t n d) hi p q a b = tt

pub zero_is : Is binary64 (fin false 0 (pos 0)) 0 0 1
zero_is = inl (unfold rounded round in refl)

pub le_trans_finite : (x y z : Float) → T (finite x) → T (finite y) → T (finite z) → T (le x y) → T (le y z) → T (le x z)
le_trans_finite x y z p q r h k =
    parts→le x z p r
    (cross (upper x) (lower x) (den x) (upper y) (lower y) (den y) (upper z) (lower z) (den z) (den_pos y) (le→parts x y p q h) (le→parts y z q r k))
  where
    cross : (ux lx dx uy ly dy uz lz dz : ℕ) → 0 < dy → ux * dy + ly * dx ≤ uy * dx + lx * dy → uy * dz + lz * dy ≤ uz * dy + ly * dz
        → ux * dz + lz * dx ≤ uz * dx + lx * dz
    cross ux lx dx uy ly dy uz lz dz pos₀ a b =
        le_of_mul-le-mul_right {m = ux * dz + lz * dx} {n = uz * dx + lx * dz} {k = dy}
        (simp (add-mul, mul_assoc, mul_comm, mul_left_comm)
        (omega (
          arith,
          simp (add-mul, mul_assoc, mul_comm, mul_left_comm) at (mul-le-mul_right dz a),
          simp (add-mul, mul_assoc, mul_comm, mul_left_comm) at (mul-le-mul_right dx b),
        )))
        pos₀

-- more over less is more
pub div_both : (f : Format) (x X s S : Float) → T (finite x) → T (finite X) → T (positive s) → T (positive S) → lower X ≡ 0 → T (le x X)
    → num S * den s ≤ num s * den S → T (le (div f x s) (div f X S))
div_both f x X s S p P q Q z h k =
    is_le f _ _ _ _ _ _ _ _ (mul-pos (num_pos s q) (den_pos x)) (mul-pos (num_pos S Q) (den_pos X))
    (cross (upper x) (lower x) (den x) (upper X) (lower X) (den X) (num s) (den s) (num S) (den S) z (le→parts x X p P h) k)
    (is_div f x s p q) (is_div f X S P Q)
  where
    cross : (ux lx dx uX lX dX ns ds nS dS : ℕ) → lX ≡ 0 → ux * dX + lX * dx ≤ uX * dx + lx * dX → nS * ds ≤ ns * dS
        → ux * ds * (nS * dX) + lX * dS * (ns * dx) ≤ uX * dS * (ns * dx) + lx * ds * (nS * dX)
    cross ux lx dx uX lX dX ns ds nS dS e a b =
        rw e
        (simp (add-mul, mul_assoc, mul_comm, mul_left_comm, zero-mul, mul-zero)
        (omega (
          arith,
          simp (add-mul, mul_assoc, mul_comm, mul_left_comm, zero-mul, mul-zero) at (mul-le-mul_right (ds * nS) (rw e at a)),
          simp (add-mul, mul_assoc, mul_comm, mul_left_comm) at (mul-le-mul_right (uX * dx) b),
        )))
