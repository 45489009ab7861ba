-- The flat triangles put in front of a list, one triangle after the other.
use mathlib.Core.Bool.{Bool, true, false, cond}
use mathlib.Core.List.{List, [], ◌∷◌, ◌++◌, append_assoc, append-nil}
use mathlib.Core.Path.{◌≡◌, refl, sym, ap, ◌∙◌}
use Prim.Native.Nat.{ℕ, zero, suc, ◌+◌, ◌≤◌, ◌<◌}
use native.Mathlib.Numerals.{add-one}
use native.Mathlib.Omega.{arith}
use borrow.Author.Tests.{lt-ltb, ltb-true, ltb-false}
use lib.Dec.{ltb}
use lib.Ieee.{Float}
use lib.ListN.{length, get_or, set, take, drop, length-append, length-drop, get_or-append}
use lib.Seq.{take_at, drop_at, drop-cons, set_at, get_or-append-add}
use Rattle.plane.specs.Mesh.{triangle_of}
use Rattle.numbers.specs.Reals.{◌⊕◌}
use Rattle.sort.specs.Inside.{Within}
use Rattle.sort.specs.Ranks.{before, sorted_by}
use Rattle.sort.proofs.Orders.{sorted_length}
use Rattle.levels.specs.Levels.{sorted_flats, list_left}
use Rattle.levels.specs.Flats.{is_flat, flats_of}
use Rattle.levels.specs.Inside.{Listed, listed, gathered_one}

module _ (mesh : List Float) (tolerance least : Float) where
  pub flats_few : (i : ℕ) → length (flats_of mesh tolerance least i) ≤ i
  unfolding flats_of
  flats_few zero = omega arith
  flats_few (suc i) =
      rw (length-append (flats_of mesh tolerance least i) (cond (is_flat (triangle_of mesh i) tolerance least) (i ∷ []) []))
      (let r = flats_few i in by_test (is_flat (triangle_of mesh i) tolerance least) r)
    where
      by_test : (b : Bool) → length (flats_of mesh tolerance least i) ≤ i → length (flats_of mesh tolerance least i) + length (cond b (i ∷ []) []) ≤ suc i
      by_test true r = omega arith
      by_test false r = omega arith

  pub flats_below : (i p : ℕ) → p < length (flats_of mesh tolerance least i) → get_or (flats_of mesh tolerance least i) p 0 < i
  unfolding flats_of
  flats_below zero p h = absurd (omega arith)
  flats_below (suc i) p h =
      by_test (is_flat (triangle_of mesh i) tolerance least) h (ltb p (length (flats_of mesh tolerance least i))) refl (flats_below i p)
    where
      fs : List ℕ
      fs = flats_of mesh tolerance least i

      by_test : (b : Bool) → p < length (fs ++ cond b (i ∷ []) []) → (d : Bool) → ltb p (length fs) ≡ d → (p < length fs → get_or fs p 0 < i)
          → get_or (fs ++ cond b (i ∷ []) []) p 0 < suc i
      by_test b l true e r = let q = ltb-true p (length fs) e in rw (get_or-append fs (cond b (i ∷ []) []) 0 p q) (let w = r q in omega arith)
      by_test true l false e r =
          let q : length fs ≤ p = ltb-false p (length fs) e in
          let w : p ≡ length fs + 0 = omega (arith, rw (length-append fs (i ∷ [])) at l) in
          rw (w, get_or-append-add fs (i ∷ []) 0 0) (omega arith)
      by_test false l false e r =
          let q : length fs ≤ p = ltb-false p (length fs) e in
          absurd (omega (arith, rw (append-nil fs) at l))

  -- with the first i triangles gone through, their flat ones stand in front of the list
  pub record Gathering (l₀ l : List ℕ) (i k : ℕ) : Type 0 where
    pub number : k ≡ length (flats_of mesh tolerance least i)
    pub table : l ≡ flats_of mesh tolerance least i ++ drop k l₀

  module _ (l₀ : List ℕ) where
    pub gathering_starts : Gathering l₀ l₀ 0 0
    unfolding flats_of
    gathering_starts = record { number = refl; table = refl }

    pub gathering_fits : (l : List ℕ) (i k : ℕ) → i < length l₀ → Gathering l₀ l i k → (k ≤ i) × (length l ≡ length l₀)
    gathering_fits l i k h g =
        let f = flats_few i in
        let e = ap length g.table ∙ length-append (flats_of mesh tolerance least i) (drop k l₀) in
        (omega (arith, g.number), omega (arith, g.number, length-drop k l₀))

    pub gathering_goes : (l l' : List ℕ) (i k k' : ℕ) → i < length l₀ → Gathering l₀ l i k → listed l' k' ≡ gathered_one mesh tolerance least l k i
        → Gathering l₀ l' (i + 1) k'
    unfolding flats_of gathered_one
    gathering_goes l l' i k k' h g e =
        rw (add-one i)
        (by_test (is_flat (triangle_of mesh i) tolerance least) refl (ap (λ (x : Listed). x.list) e) (ap (λ (x : Listed). x.k) e))
      where
        fs : List ℕ
        fs = flats_of mesh tolerance least i

        by_test : (b : Bool) → is_flat (triangle_of mesh i) tolerance least ≡ b → l' ≡ (cond b (listed (set l k i) (k + 1)) (listed l k)).list
            → k' ≡ (cond b (listed (set l k i) (k + 1)) (listed l k)).k → Gathering l₀ l' (suc i) k'
        by_test true t p q =
            let f = flats_few i in
            let hk : k < length l₀ = omega (arith, g.number) in
            record {
              number = rw t (q ∙ sym (length-append fs (i ∷ []) ∙ ap (λ (n : ℕ). n + 1) (sym g.number)));
              table = rw (t, q, add-one k)
                  (p
                  ∙ ap (λ (m : List ℕ). set m k i) (g.table ∙ ap (λ (m : List ℕ). fs ++ m) (drop-cons l₀ k 0 hk))
                  ∙ set_at fs (get_or l₀ k 0) (drop (suc k) l₀) i k (sym g.number)
                  ∙ sym (append_assoc fs (i ∷ []) (drop (suc k) l₀)));
            }
        by_test false t p q = record { number = rw (t, append-nil fs) (q ∙ g.number); table = rw (t, append-nil fs, q) (p ∙ g.table) }

    pub gathered_within : (n k : ℕ) (l : List ℕ) → n ≤ length l₀ → k ≡ length (flats_of mesh tolerance least n)
        → l ≡ flats_of mesh tolerance least n ++ drop k l₀ → Within n k l
    gathered_within n k l h e t =
        let f = flats_few n in
        record {
          table = rw t (rw (length-append (flats_of mesh tolerance least n) (drop k l₀)) (omega arith));
          numbers = λ p q. rw t (rw (get_or-append (flats_of mesh tolerance least n) (drop k l₀) 0 p (omega arith))
              (lt-ltb _ n (flats_below n p (omega arith))));
        }

pub number_below : (n e p : ℕ) (l : List ℕ) → Within n e l → p < e → get_or l p 0 < n
number_below n e p l w h = ltb-true (get_or l p 0) n (w.numbers p h)

-- what stands in front of the list once it is sorted
pub sorted_front : (mesh : List Float) (n : ℕ) (tolerance levelTolerance floor : Float) (l₀ l₁ l₂ : List ℕ) (k : ℕ) →
    let fs = flats_of mesh tolerance (floor ⊕ levelTolerance) n in
    k ≡ length fs → l₁ ≡ fs ++ drop k l₀ → l₂ ≡ sorted_by (before mesh) (take k l₁) ++ drop k l₁ → take k l₂ ≡ sorted_flats mesh n tolerance levelTolerance floor
unfolding sorted_flats
sorted_front mesh n tolerance levelTolerance floor l₀ l₁ l₂ k e p q =
    let fs = flats_of mesh tolerance (floor ⊕ levelTolerance) n in
    let t : take k l₁ ≡ fs = ap (take k) p ∙ take_at fs (drop k l₀) k (sym e) in
    let r : l₂ ≡ sorted_by (before mesh) fs ++ drop k l₁ = q ∙ ap (λ (x : List ℕ). sorted_by (before mesh) x ++ drop k l₁) t in
    ap (take k) r ∙ take_at (sorted_by (before mesh) fs) (drop k l₁) k (sorted_length (before mesh) fs ∙ sym e)

-- and the whole list then
pub sorted_whole : (mesh : List Float) (n : ℕ) (tolerance levelTolerance floor : Float) (l₀ l₁ l₂ : List ℕ) (k : ℕ) →
    let fs = flats_of mesh tolerance (floor ⊕ levelTolerance) n in
    k ≡ length fs → l₁ ≡ fs ++ drop k l₀ → l₂ ≡ sorted_by (before mesh) (take k l₁) ++ drop k l₁ → l₂ ≡ list_left mesh n tolerance levelTolerance floor l₀
unfolding sorted_flats list_left
sorted_whole mesh n tolerance levelTolerance floor l₀ l₁ l₂ k e p q =
    let fs = flats_of mesh tolerance (floor ⊕ levelTolerance) n in
    let t : take k l₁ ≡ fs = ap (take k) p ∙ take_at fs (drop k l₀) k (sym e) in
    let d : drop k l₁ ≡ drop (length fs) l₀ = ap (drop k) p ∙ drop_at fs (drop k l₀) k (sym e) ∙ ap (λ (j : ℕ). drop j l₀) e in
    q ∙ ap (λ (x : List ℕ). sorted_by (before mesh) x ++ drop k l₁) t ∙ ap (λ (x : List ℕ). sorted_by (before mesh) fs ++ x) d
