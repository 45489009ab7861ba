-- Laws of a raised mesh: as long as before, and no x and no y has changed.
use mathlib.Core.Bool.{true, false}
use mathlib.Core.List.{List, [], ◌∷◌, ◌++◌, append_assoc}
use mathlib.Core.Path.{◌≡◌, refl, sym, ap, ◌∙◌}
use Prim.Native.Nat.{ℕ, zero, suc, ◌+◌, ◌%◌, ◌<◌}
use native.Mathlib.Numerals.{add-one}
use native.Mathlib.Omega.{arith}
use borrow.Author.Tests.{ne_eqb}
use lib.Dec.{eqb}
use lib.Ieee.{Float, nan}
use lib.ListN.{length, set, drop, length-append, drop_of_length-le}
use lib.Seq.{get_or-append-add, set_at, drop-cons, drop-length}
use Rattle.numbers.specs.Reals.{num}
use Rattle.plane.specs.Ranges.{is_coordinate}
use Rattle.std.specs.Prelude.{Option, None, Some, is_none}
use Rattle.std.proofs.Common.{◌≤◌, Fits, w32}
use Rattle.spans.specs.Mesh.{first_bad}
use Rattle.spans.proofs.Searching.{bad_from, bad_is}
use Rattle.grid.specs.Build.{is_nowhere}
use Rattle.grid.proofs.Accepting.{place_below}
use Rattle.raise.specs.Raise.{lifted_at, lifted_from, lifted}

from_length : (a : Float) (j : ℕ) (xs : List Float) → length (lifted_from a j xs) ≡ length xs
unfolding lifted_from
from_length a j [] = refl
from_length a j (x ∷ xs) = let e = from_length a (j + 1) xs in omega arith

pub lifted_length : (a : Float) (mesh : List Float) → length (lifted a mesh) ≡ length mesh
unfolding lifted
lifted_length a mesh = from_length a 0 mesh

from_flat : (a : Float) (j : ℕ) (xs : List Float) (k : ℕ) → ((j + k) % 3 ≡ 2 → ⊥) → num (lifted_from a j xs) k ≡ num xs k
unfolding lifted_from lifted_at
from_flat a j [] k h = refl
from_flat a j (x ∷ xs) zero h =
    let e : eqb (j % 3) 2 ≡ false = ne_eqb (j % 3) 2 (λ q. h (omega arith)) in
    rw e
from_flat a j (x ∷ xs) (suc k) h = from_flat a (j + 1) xs k (λ q. h (omega arith))

pub lifted_flat : (a : Float) (mesh : List Float) (k : ℕ) → (k % 3 ≡ 2 → ⊥) → num (lifted a mesh) k ≡ num mesh k
unfolding lifted
lifted_flat a mesh k h = from_flat a 0 mesh k (λ q. h (omega arith))

-- ---- the search for a new z out of range
module _ (a : Float) (mesh : List Float) where
  pub high_begins : bad_from 0 (lifted_from a 0 (drop 0 mesh)) ≡ first_bad (lifted a mesh)
  unfolding lifted
  high_begins = sym (bad_is (lifted a mesh))

  module _ (k : ℕ) (h : bad_from k (lifted_from a k (drop k mesh)) ≡ first_bad (lifted a mesh)) where
    pub high_finds : k < length mesh → is_coordinate (lifted_at a k (num mesh k)) ≡ false → Some k ≡ first_bad (lifted a mesh)
    unfolding bad_from lifted_from
    high_finds l e = (rw (drop-cons mesh k nan l, e) refl) ∙ h

    pub high_goes : k < length mesh → is_coordinate (lifted_at a k (num mesh k)) ≡ true
        → bad_from (k + 1) (lifted_from a (k + 1) (drop (k + 1) mesh)) ≡ first_bad (lifted a mesh)
    unfolding bad_from lifted_from
    high_goes l e = (rw (drop-cons mesh k nan l, e, add-one k) refl) ∙ h

    pub high_ends : k ≡ length mesh → None ≡ first_bad (lifted a mesh)
    unfolding bad_from lifted_from
    high_ends e = (rw (e, drop-length mesh) refl) ∙ h

-- a place that the search finds stands in the mesh
pub high_fits : (a : Float) (mesh : List Float) (p : ℕ) (o : Option ℕ) → o ≡ first_bad (lifted a mesh) → o ≡ Some p → length mesh ≤ 589824 → Fits w32 p
high_fits a mesh p o e f h = record { fits = omega (arith, place_below (lifted a mesh) p (sym e ∙ f), lifted_length a mesh) }

pub none_is : (o : Option ℕ) → is_none o ≡ is_nowhere o
unfolding is_nowhere
none_is None = refl
none_is (Some k) = refl

-- ---- the loop that raises: a front that is done, then the rest as it was
pub record Lifting (a : Float) (old : List Float) (k : ℕ) (new : List Float) : Type 0 where
  pub front : List Float
  pub size : length front ≡ k
  pub table : new ≡ front ++ drop k old
  pub whole : front ++ lifted_from a k (drop k old) ≡ lifted a old

pub lifting_starts : (a : Float) (old : List Float) → Lifting a old 0 old
unfolding lifted
lifting_starts a old = record { front = []; size = refl; table = refl; whole = refl }

pub lifting_reads : (a : Float) (old : List Float) (k : ℕ) (new : List Float) → Lifting a old k new → k < length old → num new k ≡ num old k
lifting_reads a old k new l h =
    let z : k ≡ length l.front + 0 = omega (arith, l.size) in
    ap (λ (t : List Float). num t k) (l.table ∙ ap (λ (t : List Float). l.front ++ t) (drop-cons old k nan h))
    ∙ ap (num (l.front ++ (num old k ∷ drop (suc k) old))) z ∙ get_or-append-add l.front (num old k ∷ drop (suc k) old) 0 nan

pub lifting_goes : (a : Float) (old : List Float) (k : ℕ) (new : List Float) (v : Float) → Lifting a old k new → k < length old → v ≡ lifted_at a k (num old k)
    → Lifting a old (k + 1) (set new k v)
unfolding lifted_from
lifting_goes a old k new v l h e =
    let c = drop-cons old k nan h in
    record {
      front = l.front ++ v ∷ [];
      size = omega (arith, length-append l.front (v ∷ []), l.size);
      table = ap (λ (t : List Float). set t k v) (l.table ∙ ap (λ (t : List Float). l.front ++ t) c) ∙ set_at l.front _ _ v k l.size
          ∙ sym (append_assoc l.front (v ∷ []) (drop (suc k) old)) ∙ (rw (add-one k));
      whole = append_assoc l.front (v ∷ []) _ ∙ (rw (add-one k, e)) ∙ ap (λ (t : List Float). l.front ++ lifted_from a k t) (sym c) ∙ l.whole;
    }

pub lifting_ends : (a : Float) (old : List Float) (k : ℕ) (new : List Float) → Lifting a old k new → k ≡ length old → new ≡ lifted a old
unfolding lifted_from
lifting_ends a old k new l e =
    let d : drop k old ≡ [] = drop_of_length-le old {i = k} (omega arith) in
    l.table ∙ ap (λ (t : List Float). l.front ++ t) d ∙ ap (λ (t : List Float). l.front ++ lifted_from a k t) (sym d) ∙ l.whole
