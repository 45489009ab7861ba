-- The flat end that encloses a curved one: it stands first in the list, and is nowhere above the curved end.
use Rattle.std.specs.Prelude.{Option, None, Some}
use mathlib.Core.Bool.{Bool, true, false, ◌||◌}
use mathlib.Core.List.{List}
use mathlib.Core.Path.{◌≡◌, refl, ap, sym, ◌∙◌}
use lib.Dec.{T}
use lib.Ieee.{Float, binary64, mul, round, fits, lt, le}
use lib.Ieee.Fits.{mul-fits, div-fits}
use lib.Ieee.Scale.{finite}
use lib.ListN.{length}
use Rattle.numbers.specs.Reals.{◌⊗◌, f0, f2, million, million_is, f0_is}
use Rattle.roots.specs.Root.{root_of}
use Rattle.rules.proofs.Branches.{no, both_true, by_test, holds}
use Rattle.section.specs.declared.Section.{Section}
use Rattle.section.specs.Section.{within, positive_reach, valid_section, profile_of, height_over}
use Rattle.flatten.specs.Flat.{flat_of}
use Rattle.order.proofs.Order.{O, le_trans, square_up}
use Rattle.order.proofs.Roots.{root_le}
use Rattle.bound.proofs.Small.{M, small_up, small_finite, square_nonneg, square_finite}
use Rattle.tool.specs.Tool.{section_of}
use Rattle.sheet.specs.declared.Shape.{Shape}
use Rattle.sheet.specs.declared.Shape.TheVariants.{Flat, Ball, Bull, Drill, Chamfer, Beam}
use Rattle.sheet.specs.declared.Sheet.{Sheet}
use Rattle.sheet.specs.declared.Body.{Body}
use Rattle.sheet.specs.Sheet.{cylinder_of, radius_of, enclosed_of, end_of, body_of, listed, sections_of, all_valid, is_absent, refusal_of, placed}
use Rattle.sheet.specs.Enclosing.{least_corner, least_corner_is, is_corner, is_curved, Encloses}
use Rattle.sheet.proofs.Sheets.{accepted}
use Rattle.sheet.proofs.Curved.{not_below_tip}
use Rattle.sheet.proofs.Corners.{root_square}

-- ---- the corner radii

zero_square : O ⊗ O ≡ O
unfolding mul round
zero_square = refl

zero_root : root_of O ≡ O
unfolding root_of
zero_root = refl

either_true : (x y : Bool) → (x || y) ≡ true → (x ≡ false → y ≡ true)
either_true true y e n = absurd (no (sym n))
either_true false y e n = e

module _ (rc : Float) (fit : T (fits binary64 rc)) (c₀ : T (le O rc)) (c₁ : T (le rc M)) where
  square_fine : T (finite (rc ⊗ rc))
  square_fine = square_finite rc (small_up rc c₀ c₁)

  none : T (le rc O) → T (le (root_of (rc ⊗ rc)) rc)
  none z =
      let f = small_finite rc (small_up rc c₀ c₁) in
      let s : T (le (rc ⊗ rc) O) = rw zero_square at (square_up rc O f tt c₀ z) in
      le_trans (root_of (rc ⊗ rc)) O rc
      (rw zero_root at (root_le (rc ⊗ rc) O (mul-fits binary64 rc rc) (unfold fits in tt) square_fine tt (square_nonneg rc f) s)) c₀

  root_back : (le rc f0 || le least_corner rc) ≡ true → T (le (root_of (rc ⊗ rc)) rc)
  root_back e =
      by_test (le rc f0)
      (λ z. none (rw f0_is at (holds (le rc f0) z)))
      (λ z. root_square rc fit (rw least_corner_is at (holds (le least_corner rc) (either_true (le rc f0) (le least_corner rc) e z))) c₁ square_fine)

-- ---- the flat end

flat_height : (r d : Float) → le d r ≡ true → height_over (profile_of (cylinder_of f0 r) d) ≡ f0
unfolding height_over profile_of
flat_height r d e = rw e

record Radius (r : Float) : Type 0 where
  low : T (le O r)
  high : T (le r M)

radius_of_lem : (r : Float) → valid_section (cylinder_of f0 r) ≡ true → Radius r
unfolding valid_section positive_reach
radius_of_lem r e =
    let a = both_true _ _ (both_true (within f0 million) _ e).1 in
    let b = both_true (lt f0 r) _ a.1 in
    record {
      low = rw f0_is at (holds (le f0 r) (both_true (le f0 r) (le r r) a.0).0);
      high =
          rw million_is at (holds (le r million) (both_true (le r million) _ b.1).0);
    }

enclosing : (r : Float) (table : List Float) → T (fits binary64 r) → valid_section (cylinder_of f0 r) ≡ true
    → section_of table 0 ≡ cylinder_of f0 r → Encloses r table
unfolding is_corner
enclosing r table fit v e = record {
  below = λ d rc g c l.
      let q = radius_of_lem r v in
      let a = both_true _ (le rc r) c in
      let b = both_true (le f0 rc) _ a.0 in
      let c₀ : T (le O rc) = rw f0_is at (holds (le f0 rc) b.0) in
      let c₁ : T (le rc r) = holds (le rc r) a.1 in
      let h : height_over (profile_of (section_of table 0) d) ≡ O = ap (λ (s : Section). height_over (profile_of s d)) e ∙ flat_height r d l ∙ f0_is in
      rw h (not_below_tip r rc q.low q.high c₀ c₁ fit (root_back rc g c₀ (le_trans rc r M c₁ q.high) b.1) d (holds (le d r) l));
}

-- ---- where it stands

curved_end : (shape : Shape) (enclose : Bool) (p : Sheet) → is_curved shape ≡ true → is_absent (end_of shape enclose p) ≡ false
    → end_of shape enclose p ≡ Some (cylinder_of f0 (radius_of p))
unfolding is_curved is_absent end_of enclosed_of
curved_end Flat enclose p c a = absurd (no c)
curved_end Ball true p c a = refl
curved_end Ball false p c a = absurd (no (sym a))
curved_end Bull true p c a = refl
curved_end Bull false p c a = absurd (no (sym a))
curved_end Drill enclose p c a = absurd (no c)
curved_end Chamfer enclose p c a = absurd (no c)
curved_end Beam enclose p c a = absurd (no c)

module _ (b : Body) (hs : List Float) (c : Section) (e : b.end ≡ Some c) where
  first_is : (table : List Float) → section_of (placed (sections_of b hs) 0 table) 0 ≡ c
  unfolding sections_of listed placed flat_of section_of
  first_is table = rw e

  first_valid : all_valid (sections_of b hs) ≡ true → valid_section c ≡ true
  unfolding sections_of listed all_valid
  first_valid v = (both_true (valid_section c) _ (rw e at v)).0

pub accepted_encloses : (shape : Shape) (enclose neck : Bool) (p : Sheet) (hs table : List Float) (b : Body) → b ≡ body_of shape enclose neck p
    → refusal_of p b hs (length table) ≡ 0 → (t : List Float) → t ≡ placed (sections_of b hs) 0 table → is_curved shape ≡ true → Encloses (radius_of p) t
unfolding body_of
accepted_encloses shape enclose neck p hs table b body z t f curved =
    let a = accepted p b hs (length table) z in
    let at : b.end ≡ end_of shape enclose p = ap (λ (q : Body). q.end) body in
    let e : b.end ≡ Some (cylinder_of f0 (radius_of p)) = at ∙ curved_end shape enclose p curved (ap is_absent (sym at) ∙ a.covered) in
    enclosing (radius_of p) t (div-fits binary64 p.diameter f2) (first_valid b hs _ e a.valid) (ap (λ (l : List Float). section_of l 0) f
    ∙ first_is b hs _ e table)
