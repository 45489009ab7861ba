-- Entry i of a list: an answer r is it. Past the end the default is r itself, so nothing has to be shown of an i there.
use mathlib.Core.List.{List, [], ◌∷◌, ◌++◌}
use mathlib.Core.Path.{◌≡◌, refl, sym, ap, ◌∙◌}
use Prim.Native.Nat.{ℕ, zero, suc, ◌-◌, ◌<◌, ◌≤◌}
use native.Mathlib.Nat.{sub-zero, suc-sub-suc, le_of_suc-le-suc, not-suc-le-zero}
use lib.ListN.{length, get_or, get_or-append}

-- the last of two, of three, of four
pub last₂ : {A : Type 0} (a b r : A) (i : ℕ) → r ≡ b → (i ≡ 0 → ⊥) → r ≡ get_or (a ∷ b ∷ []) i r
last₂ a b r zero p h = absurd (h refl)
last₂ a b r (suc zero) p h = p
last₂ a b r (suc (suc i)) p h = refl

pub last₃ : {A : Type 0} (a b c r : A) (i : ℕ) → r ≡ c → (i ≡ 0 → ⊥) → (i ≡ 1 → ⊥) → r ≡ get_or (a ∷ b ∷ c ∷ []) i r
last₃ a b c r zero p h₀ h₁ = absurd (h₀ refl)
last₃ a b c r (suc i) p h₀ h₁ = last₂ b c r i p (λ e. h₁ (ap suc e))

pub last₄ : {A : Type 0} (a b c d r : A) (i : ℕ) → r ≡ d → (i ≡ 0 → ⊥) → (i ≡ 1 → ⊥) → (i ≡ 2 → ⊥) → r ≡ get_or (a ∷ b ∷ c ∷ d ∷ []) i r
last₄ a b c d r zero p h₀ h₁ h₂ = absurd (h₀ refl)
last₄ a b c d r (suc i) p h₀ h₁ h₂ = last₃ b c d r i p (λ e. h₁ (ap suc e)) (λ e. h₂ (ap suc e))

-- in the first of two lists, and in the second
pub front : {A : Type 0} (xs ys : List A) (i : ℕ) (r : A) → i < length xs → r ≡ get_or xs i r → r ≡ get_or (xs ++ ys) i r
front xs ys i r h p = p ∙ sym (get_or-append xs ys r i h)

pub back : {A : Type 0} (xs ys : List A) (i : ℕ) (r : A) → length xs ≤ i → r ≡ get_or ys (i - length xs) r → r ≡ get_or (xs ++ ys) i r
back [] ys i r h p = rw sub-zero at p
back (x ∷ xs) ys zero r h p = absurd (not-suc-le-zero h)
back (x ∷ xs) ys (suc i) r h p = back xs ys i r (le_of_suc-le-suc h) (rw suc-sub-suc at p)
