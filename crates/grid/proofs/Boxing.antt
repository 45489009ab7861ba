-- Laws of the box table: it is filled from the front, five numbers a triangle, and what stands at a triangle's place is its box.
use mathlib.Core.List.{List, ◌++◌, append-nil}
use mathlib.Core.Logic.{⊎_elim}
use mathlib.Core.Path.{◌≡◌, refl, sym, ap, ◌∙◌}
use Prim.Native.Nat.{ℕ, zero, suc, ◌+◌, ◌*◌, ◌≤◌, ◌<◌}
use native.Mathlib.Nat.{eq-or-lt_of_le}
use native.Mathlib.Numerals.{add-one}
use native.Mathlib.Omega.{arith}
use borrow.Author.Tests.{le-leb}
use lib.Ieee.{Float, nan}
use lib.ListN.{length, get_or-append, take, drop, length-append, length-drop, drop_of_length-le}
use lib.Seq.{get_or-append-add, take-append-add, drop-append-add, drop-drop}
use Rattle.numbers.specs.Reals.{num}
use Rattle.rules.proofs.Branches.{taken}
use Rattle.plane.specs.declared.Bounds.{Bounds}
use Rattle.spans.specs.Mesh.{box_of}
use Rattle.fives.specs.Tables.{put_at}
use Rattle.grid.specs.Boxes.{box_at, five_of, boxes_of}

pub boxes_length : (mesh : List Float) (n : ℕ) → length (boxes_of mesh n) ≡ n * 5
unfolding boxes_of
boxes_length mesh zero = refl
boxes_length mesh (suc n) = omega (arith, length-append (boxes_of mesh n) (five_of (box_of mesh n)), boxes_length mesh n)

-- entry k of triangle i
entry : (mesh : List Float) (n i k : ℕ) → i < n → k < 5 → num (boxes_of mesh n) (5 * i + k) ≡ num (five_of (box_of mesh i)) k
unfolding boxes_of
entry mesh zero i k h l = absurd (omega arith)
entry mesh (suc n) i k h l =
    let e = boxes_length mesh n in
    ⊎_elim
    (λ (q : suc i ≡ suc n).
    let z : i ≡ n = omega arith in
    let y : 5 * i + k ≡ length (boxes_of mesh n) + k = omega arith in
    rw y (get_or-append-add (boxes_of mesh n) (five_of (box_of mesh n)) k nan ∙ ap (λ (j : ℕ). num (five_of (box_of mesh j)) k) (sym z)))
    (λ (q : suc i < suc n). get_or-append (boxes_of mesh n) (five_of (box_of mesh n)) nan (5 * i + k) (omega arith) ∙ entry mesh n i k (omega arith) l)
    (eq-or-lt_of_le h)

pub boxes_at : (mesh : List Float) (n i : ℕ) → i < n → box_at (boxes_of mesh n) i ≡ box_of mesh i
unfolding box_at
boxes_at mesh n i h =
    let z : 5 * i ≡ 5 * i + 0 = omega arith in
    let e₀ : num (boxes_of mesh n) (5 * i) ≡ (box_of mesh i).low_x = ap (num (boxes_of mesh n)) z ∙ entry mesh n i 0 h (omega arith) in
    let e₁ : num (boxes_of mesh n) (5 * i + 1) ≡ (box_of mesh i).low_y = entry mesh n i 1 h (omega arith) in
    let e₂ : num (boxes_of mesh n) (5 * i + 2) ≡ (box_of mesh i).high_x = entry mesh n i 2 h (omega arith) in
    let e₃ : num (boxes_of mesh n) (5 * i + 3) ≡ (box_of mesh i).high_y = entry mesh n i 3 h (omega arith) in
    let e₄ : num (boxes_of mesh n) (5 * i + 4) ≡ (box_of mesh i).top = entry mesh n i 4 h (omega arith) in
    rw (e₀, e₁, e₂, e₃, e₄) refl

-- a table filled up to triangle i
pub record Boxed (mesh : List Float) (i : ℕ) (old new : List Float) : Type 0 where
  pub is : new ≡ boxes_of mesh i ++ drop (i * 5) old
  pub size : length new ≡ length old

pub boxed_none : (mesh old : List Float) → Boxed mesh 0 old old
unfolding boxes_of
boxed_none mesh old = record { is = refl; size = refl }

module _ (mesh : List Float) (i : ℕ) (old new : List Float) (b : Bounds) (h : Boxed mesh i old new) (l : i * 5 + 5 ≤ length old) (e : b ≡ box_of mesh i) where
  front : take (i * 5) new ≡ boxes_of mesh i
  front =
      let z : i * 5 ≡ length (boxes_of mesh i) + 0 = omega (arith, boxes_length mesh i) in
      ap (take (i * 5)) h.is ∙ ap (λ (k : ℕ). take k (boxes_of mesh i ++ drop (i * 5) old)) z ∙ take-append-add (boxes_of mesh i) _ 0
      ∙ append-nil (boxes_of mesh i)

  back : drop (i * 5 + 5) new ≡ drop (i * 5 + 5) old
  back =
      let y : i * 5 + 5 ≡ length (boxes_of mesh i) + 5 = omega (arith, boxes_length mesh i) in
      ap (drop (i * 5 + 5)) h.is ∙ ap (λ (k : ℕ). drop k (boxes_of mesh i ++ drop (i * 5) old)) y ∙ drop-append-add (boxes_of mesh i) _ 5
      ∙ drop-drop 5 (i * 5) old

  put_is : put_at new i (five_of b) ≡ boxes_of mesh i ++ five_of (box_of mesh i) ++ drop (i * 5 + 5) old
  unfolding put_at
  put_is = sym (taken _ _ _ _ (le-leb (i * 5 + 5) (length new) (omega (arith, h.size))) (sym (rw (front, back, e))))

  pub boxed_more : Boxed mesh (i + 1) old (put_at new i (five_of b))
  unfolding boxes_of
  boxed_more =
      let w : (i + 1) * 5 ≡ i * 5 + 5 = omega arith in
      record {
        is = rw (w, add-one i) put_is;
        size = ap length put_is ∙ lengths;
      }
    where
      lengths : length (boxes_of mesh i ++ five_of (box_of mesh i) ++ drop (i * 5 + 5) old) ≡ length old
      lengths = omega (
        arith,
        length-append (boxes_of mesh i ++ five_of (box_of mesh i)) (drop (i * 5 + 5) old),
        length-append (boxes_of mesh i) (five_of (box_of mesh i)),
        boxes_length mesh i,
        length-drop (i * 5 + 5) old,
      )

pub boxed_all : (mesh : List Float) (n : ℕ) (old new : List Float) → length old ≡ n * 5 → Boxed mesh n old new → new ≡ boxes_of mesh n
boxed_all mesh n old new l h =
    h.is ∙ ap (λ (t : List Float). boxes_of mesh n ++ t) (drop_of_length-le old {i = n * 5} (omega arith)) ∙ append-nil (boxes_of mesh n)
