-- Laws of the box table with new tops: it is filled from the front, and what is not yet written stands as it was handed.
use mathlib.Core.List.{List, ◌++◌, append-nil}
use mathlib.Core.Path.{◌≡◌, refl, sym, ap, ◌∙◌}
use Prim.Native.Nat.{ℕ, zero, suc, ◌+◌, ◌*◌, ◌≤◌}
use native.Mathlib.Numerals.{add-one}
use native.Mathlib.Omega.{arith}
use borrow.Author.Tests.{le-leb}
use lib.Ieee.{Float, nan}
use lib.ListN.{length, take, drop, length-append, length-drop, drop_of_length-le}
use lib.Seq.{get_or-append-add, get_or-drop, take-append-add, drop-append-add, drop-drop}
use Rattle.numbers.specs.Reals.{num}
use Rattle.rules.proofs.Branches.{taken}
use Rattle.plane.specs.Mesh.{triangle_of, top_of}
use Rattle.fives.specs.Tables.{put_at}
use Rattle.grid.specs.Boxes.{box_at, five_of}
use Rattle.raise.specs.Raise.{topped, topped_of}

topped_length : (mesh boxes : List Float) (n : ℕ) → length (topped_of mesh boxes n) ≡ n * 5
unfolding topped_of
topped_length mesh boxes zero = refl
topped_length mesh boxes (suc n) =
    omega (arith, length-append (topped_of mesh boxes n) (five_of (topped (box_at boxes n) (top_of (triangle_of mesh n)))), topped_length mesh boxes n)

-- a table filled up to triangle i
pub record Topping (mesh : List Float) (i : ℕ) (old new : List Float) : Type 0 where
  pub is : new ≡ topped_of mesh old i ++ drop (i * 5) old
  pub size : length new ≡ length old

pub topping_none : (mesh old : List Float) → Topping mesh 0 old old
unfolding topped_of
topping_none mesh old = record { is = refl; size = refl }

module _ (mesh : List Float) (i : ℕ) (old new : List Float) (h : Topping mesh i old new) where
  entry : (k : ℕ) → num new (5 * i + k) ≡ num old (5 * i + k)
  entry k =
      let y : 5 * i + k ≡ length (topped_of mesh old i) + k = omega (arith, topped_length mesh old i) in
      let z : i * 5 + k ≡ 5 * i + k = omega arith in
      ap (λ (t : List Float). num t (5 * i + k)) h.is ∙ ap (num (topped_of mesh old i ++ drop (i * 5) old)) y
      ∙ get_or-append-add (topped_of mesh old i) (drop (i * 5) old) k nan ∙ get_or-drop (i * 5) old k nan ∙ ap (num old) z

  -- the box that is read next is the one handed
  pub topping_reads : box_at new i ≡ box_at old i
  unfolding box_at
  topping_reads =
      let z : 5 * i ≡ 5 * i + 0 = omega arith in
      let e₀ : num new (5 * i) ≡ num old (5 * i) = ap (num new) z ∙ entry 0 ∙ ap (num old) (sym z) in
      rw (e₀, entry 1, entry 2, entry 3, entry 4) refl

  module _ (l : i * 5 + 5 ≤ length old) where
    abbrev five : List Float
    five = five_of (topped (box_at old i) (top_of (triangle_of mesh i)))

    front : take (i * 5) new ≡ topped_of mesh old i
    front =
        let z : i * 5 ≡ length (topped_of mesh old i) + 0 = omega (arith, topped_length mesh old i) in
        ap (take (i * 5)) h.is ∙ ap (λ (k : ℕ). take k (topped_of mesh old i ++ drop (i * 5) old)) z ∙ take-append-add (topped_of mesh old i) _ 0
        ∙ append-nil (topped_of mesh old i)

    back : drop (i * 5 + 5) new ≡ drop (i * 5 + 5) old
    back =
        let y : i * 5 + 5 ≡ length (topped_of mesh old i) + 5 = omega (arith, topped_length mesh old i) in
        ap (drop (i * 5 + 5)) h.is ∙ ap (λ (k : ℕ). drop k (topped_of mesh old i ++ drop (i * 5) old)) y ∙ drop-append-add (topped_of mesh old i) _ 5
        ∙ drop-drop 5 (i * 5) old

    put_is : put_at new i five ≡ topped_of mesh old i ++ five ++ drop (i * 5 + 5) old
    unfolding put_at
    put_is = sym (taken _ _ _ _ (le-leb (i * 5 + 5) (length new) (omega (arith, h.size))) (sym (rw (front, back))))

    pub topping_goes : Topping mesh (i + 1) old (put_at new i five)
    unfolding topped_of
    topping_goes =
        let w : (i + 1) * 5 ≡ i * 5 + 5 = omega arith in
        record { is = rw (w, add-one i) put_is; size = ap length put_is ∙ lengths }
      where
        lengths : length (topped_of mesh old i ++ five ++ drop (i * 5 + 5) old) ≡ length old
        lengths =
            omega (
              arith,
              length-append (topped_of mesh old i ++ five) (drop (i * 5 + 5) old),
              length-append (topped_of mesh old i) five,
              topped_length mesh old i,
              length-drop (i * 5 + 5) old,
            )

pub topping_ends : (mesh : List Float) (n : ℕ) (old new : List Float) → length old ≡ n * 5 → Topping mesh n old new → new ≡ topped_of mesh old n
topping_ends mesh n old new l h =
    h.is ∙ ap (λ (t : List Float). topped_of mesh old n ++ t) (drop_of_length-le old {i = n * 5} (omega arith)) ∙ append-nil (topped_of mesh old n)
