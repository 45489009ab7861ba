-- A question's numbers and its cells: their ranges, and the cells on an axis arm by arm.
use mathlib.Core.Bool.{true, ◌&&◌}
use mathlib.Core.Path.{◌≡◌, refl, ap, ◌∙◌}
use Prim.Native.Nat.{ℕ, ◌+◌, ◌-◌, ◌/◌, ◌≤◌, ◌<◌, min, max}
use native.Mathlib.Nat.{min-le_right}
use native.Mathlib.Omega.{arith}
use borrow.Author.Tests.{leb-true, le-leb, lt-leb, le-ltb}
use lib.Dec.{leb, ltb}
use Rattle.rules.proofs.Branches.{both_true, either, taken, left}
use Rattle.rules.specs.Every.{is_from}
use Rattle.micro.specs.Micro.{is_coordinate, is_radius}
use Rattle.um.specs.declared.Header.{Header}
use Rattle.um.proofs.Extents.{coordinate_is}
use Rattle.query.specs.declared.Span.{Span}
use Rattle.query.specs.Patch.{nowhere}
use Rattle.setup.specs.declared.Question.{Question}
use Rattle.setup.specs.declared.Reach.{Reach}
use Rattle.setup.specs.Question.{are_points, is_question, reach_of, span_of, patch_of}
use Rattle.setup.specs.Inside.{Small}

pub radius_is : (k : ℕ) → is_radius k ≡ true → (2147483648 ≤ k) × (k ≤ 3147483648)
unfolding is_radius is_from
radius_is k e = let p = both_true (leb 2147483648 k) (leb k 3147483648) e in (leb-true _ _ p.0, leb-true _ _ p.1)

pub record Asked (q : Question) : Type 0 where
  pub px : q.px ≤ 3147483648
  pub py : q.py ≤ 3147483648
  pub qx : q.qx ≤ 3147483648
  pub qy : q.qy ≤ 3147483648
  pub r : (2147483648 ≤ q.r) × (q.r ≤ 3147483648)

pub asked : (q : Question) → is_question q ≡ true → Asked q
unfolding is_question are_points
asked q e =
    let a = both_true (are_points q.px q.py q.qx q.qy) (is_radius q.r) e in
    let b = both_true (is_coordinate q.px) (is_coordinate q.py && (is_coordinate q.qx && is_coordinate q.qy)) a.0 in
    let c = both_true (is_coordinate q.py) (is_coordinate q.qx && is_coordinate q.qy) b.1 in
    let d = both_true (is_coordinate q.qx) (is_coordinate q.qy) c.1 in
    record {
      px = (coordinate_is _ b.0).1;
      py = (coordinate_is _ c.0).1;
      qx = (coordinate_is _ d.0).1;
      qy = (coordinate_is _ d.1).1;
      r = radius_is _ a.1;
    }

pub small_reach : (q : Question) → is_question q ≡ true → Small (reach_of q)
unfolding reach_of
small_reach q e =
    let a = asked q e in
    record {
      left = omega (arith, a.px, a.qx);
      right = omega (arith, a.px, a.qx);
      bottom = omega (arith, a.py, a.qy);
      top = omega (arith, a.py, a.qy);
      by = omega (arith, a.r);
    }

pub reach_is : (q : Question) (a b c d : ℕ) → a ≡ min q.px q.qx → b ≡ max q.px q.qx → c ≡ min q.py q.qy → d ≡ max q.py q.qy
    → record { left = a; right = b; bottom = c; top = d; by = q.r - 2147483648 } ≡ reach_of q
unfolding reach_of
reach_is q a b c d e f g h = rw (e, f, g, h) refl

-- ---- the cells on an axis
module _ (a b r origin cell count first : ℕ) (f : first ≡ (a - (r + origin)) / cell) (right : origin ≤ b + r) where
  pub span_none : count ≤ first → nowhere ≡ span_of a b r origin cell count
  unfolding span_of
  span_none h = left _ _ _ _ (le-ltb (b + r) origin right) (taken _ _ _ _ (rw f at (le-leb count first h)) refl)

  pub span_some : (past : ℕ) → past ≡ min ((b + r - origin) / cell + 1) count → first < count
      → record { first = first; past = past } ≡ span_of a b r origin cell count
  unfolding span_of
  span_some past p h =
      left _ _ _ _ (le-ltb (b + r) origin right)
      (left _ _ _ _ (rw f at (lt-leb count first h)) (ap (λ (n : ℕ). record { first = n; past = past }) f
      ∙ ap (λ (n : ℕ). record { first = (a - (r + origin)) / cell; past = n }) p))

span_inside : (a b r origin cell count : ℕ) → (span_of a b r origin cell count).past ≤ count
unfolding span_of
span_inside a b r origin cell count =
    either (λ (s : Span). s.past ≤ count) (ltb (b + r) origin) _ _ (λ _. omega arith)
    (λ _. either (λ (s : Span). s.past ≤ count) (leb count ((a - (r + origin)) / cell)) _ _ (λ _. omega arith)
    (λ _. min-le_right ((b + r - origin) / cell + 1) count))

pub patch_inside : (h : Header) (w : Reach) → ((patch_of h w).x1 ≤ h.columns) × ((patch_of h w).y1 ≤ h.rows)
unfolding patch_of
patch_inside h w = (span_inside _ _ _ _ _ _, span_inside _ _ _ _ _ _)
