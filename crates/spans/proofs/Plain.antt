-- Where no number is a NaN a comparison gives the maximum, the minimum and the magnitude.
use Rattle.std.proofs.Common.{◌≡◌, ℕ, zero, suc, ◌+◌, ◌*◌, ◌≤◌, Bool, true, false, List, length, ℤ, pos, sym, refl, ap, arith}
use lib.Ieee.{Float, nan, inf, fin, of_bits, neg, lt, le, is_nan}
use Rattle.numbers.specs.Reals.{f0, max_of, abs_of, million_is}
use Rattle.rules.proofs.Branches.{no}
use Rattle.plane.specs.Mesh.{triangle_of}
use Rattle.plane.specs.Ranges.{is_coordinate}
use Rattle.spans.specs.Mesh.{widened, extent_of, farther}
use Rattle.spans.specs.Inside.{Good, AllGood, Corners, Ends, not_negative}
use Rattle.order.proofs.Extremes.{either_of, max_not_nan, min_not_nan}
use Rattle.spans.proofs.Extremes.{box_x, box_y}

-- ---- no NaN
pub good_not_nan : (x : Float) → Good x → is_nan x ≡ false
unfolding is_coordinate abs_of is_nan le
good_not_nan nan e = sym e
good_not_nan (inf s) e = refl
good_not_nan (fin s m k) e = refl

-- ---- magnitudes
not_negative_not_nan : (m : Float) → not_negative m ≡ true → is_nan m ≡ false
unfolding not_negative is_nan
not_negative_not_nan nan e = sym e
not_negative_not_nan (inf s) e = refl
not_negative_not_nan (fin s n k) e = refl

not_under : (m : Float) (n : ℕ) (k : ℤ) → not_negative m ≡ true → lt m (fin true n k) ≡ false
unfolding not_negative lt
not_under nan n k e = refl
not_under (inf false) n k e = refl
not_under (inf true) n k e = sym e
not_under (fin false a b) n k e = refl
not_under (fin true a b) n k e = absurd (no e)

max_stays : (v w : Float) → is_nan v ≡ false → lt v w ≡ false → max_of v w ≡ v
unfolding max_of
max_stays v w p q = rw (p, q)

bad_nan : Good nan → ⊥
unfolding is_coordinate abs_of le
bad_nan g = no g

over : le (inf false) (fin false 15625 (pos 6)) ≡ true → ⊥
unfolding le
over e = no e

bad_inf : (s : Bool) → Good (inf s) → ⊥
unfolding is_coordinate abs_of
bad_inf s g = over (rw million_is at g)

size_not_negative : (x : Float) → Good x → not_negative (abs_of x) ≡ true
unfolding not_negative abs_of
size_not_negative nan g = absurd (bad_nan g)
size_not_negative (inf s) g = refl
size_not_negative (fin s n k) g = refl

pub not_negative_more : (m x : Float) → not_negative m ≡ true → Good x → not_negative (max_of m (abs_of x)) ≡ true
not_negative_more m x u g = either_of (λ v. not_negative v ≡ true) m (abs_of x) u (size_not_negative x g)

pub not_negative_zero : not_negative f0 ≡ true
unfolding not_negative of_bits
not_negative_zero = refl

pub not_negative_farther : (m x y z : Float) → not_negative m ≡ true → Good x → Good y → Good z → not_negative (farther m x y z) ≡ true
unfolding farther
not_negative_farther m x y z u p q r = not_negative_more _ z (not_negative_more _ y (not_negative_more m x u p) q) r

pub larger_not_nan : (m x : Float) → not_negative m ≡ true → Good x → (is_nan m ≡ false) × (is_nan (max_of m x) ≡ false)
larger_not_nan m x u g = let p = not_negative_not_nan m u in (p, max_not_nan m x p (good_not_nan x g))

pub beyond_is : (m x : Float) → not_negative m ≡ true → Good x → max_of (max_of m x) (neg x) ≡ max_of m (abs_of x)
unfolding neg abs_of
beyond_is m nan u g = absurd (bad_nan g)
beyond_is m (inf s) u g = absurd (bad_inf s g)
beyond_is m (fin false n k) u g =
    let v = either_of (λ v. not_negative v ≡ true) m (fin false n k) u (unfold not_negative in refl) in
    max_stays _ _ (not_negative_not_nan _ v) (not_under _ n k v)
beyond_is m (fin true n k) u g = ap (λ (v : Float). max_of v (fin false n k)) (max_stays m (fin true n k) (not_negative_not_nan m u) (not_under m n k u))

-- ---- of a mesh
module _ (mesh : List Float) (good : AllGood mesh) where
  pub corners : (i : ℕ) → 9 * i + 9 ≤ length mesh → Corners (triangle_of mesh i)
  unfolding triangle_of
  corners i h =
      record {
        ax = good _ (omega arith);
        ay = good _ (omega arith);
        az = good _ (omega arith);
        bx = good _ (omega arith);
        by = good _ (omega arith);
        bz = good _ (omega arith);
        cx = good _ (omega arith);
        cy = good _ (omega arith);
        cz = good _ (omega arith);
      }

  pub ends : (n : ℕ) → n * 9 ≤ length mesh → Ends (extent_of mesh n)
  unfolding extent_of widened
  ends zero h = unfold is_nan in record { left = refl; bottom = refl; right = refl; top = refl }
  ends (suc n) h =
      let e = ends n (omega arith) in
      let x = box_x mesh good n (omega arith) in
      let y = box_y mesh good n (omega arith) in
      record {
        left = min_not_nan _ _ e.left (good_not_nan _ x.0);
        bottom = min_not_nan _ _ e.bottom (good_not_nan _ y.0);
        right = max_not_nan _ _ e.right (good_not_nan _ x.1);
        top = max_not_nan _ _ e.top (good_not_nan _ y.1);
      }
