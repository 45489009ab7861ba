-- How often a number stands in a list, after a store and a swap; what a swap leaves at each entry.
use mathlib.Core.Bool.{Bool, true, false, cond}
use mathlib.Core.List.{List, [], ◌∷◌}
use mathlib.Core.Logic.{◌⊎◌, inl, inr, ⊎_elim}
use mathlib.Core.Path.{◌≡◌, refl, ◌∙◌, ap}
use Prim.Native.Nat.{ℕ, zero, suc, ◌+◌, ◌<◌}
use native.Mathlib.Omega.{arith}
use borrow.Author.Tests.{eqb-true, eqb-false}
use lib.Dec.{eqb}
use lib.ListN.{length, get_or, set, length-set}
use lib.Seq.{get_or-set_same, get_or-set_other}
use Rattle.rules.specs.Every.{times}
use Rattle.sort.specs.Inside.{Rearranged, swapped}

pub on_or_off : (b : Bool) → (b ≡ true) ⊎ (b ≡ false)
on_or_off true = inl refl
on_or_off false = inr refl

pub same_or_not : (a b : ℕ) → (a ≡ b) ⊎ (a ≡ b → ⊥)
same_or_not a b = ⊎_elim (λ e. inl (eqb-true a b e)) (λ e. inr (eqb-false a b e)) (on_or_off (eqb a b))

count_set : (x v : ℕ) (l : List ℕ) (i : ℕ) → i < length l → times x (set l i v) + cond (eqb x (get_or l i 0)) 1 0 ≡ times x l + cond (eqb x v) 1 0
unfolding times
count_set x v [] i h = absurd (omega arith)
count_set x v (y ∷ ys) zero h = omega arith
count_set x v (y ∷ ys) (suc i) h = let r = count_set x v ys i (omega arith) in omega arith

-- what two stores leave: entry b holds what a did, and a what b did
module _ (l : List ℕ) (a b : ℕ) (ha : a < length l) (hb : b < length l) where
  kept_b : get_or (set l a (get_or l b 0)) b 0 ≡ get_or l b 0
  kept_b =
      ⊎_elim (λ (e : b ≡ a). rw e (get_or-set_same l a (get_or l a 0) 0 ha)) (λ (e : b ≡ a → ⊥). get_or-set_other l a b (get_or l b 0) 0 e) (same_or_not b a)

  pub swapped_at_b : get_or (swapped l a b) b 0 ≡ get_or l a 0
  swapped_at_b = get_or-set_same (set l a (get_or l b 0)) b (get_or l a 0) 0 (rw (length-set l a (get_or l b 0)) hb)

  pub swapped_at_a : get_or (swapped l a b) a 0 ≡ get_or l b 0
  swapped_at_a =
      ⊎_elim
      (λ (e : a ≡ b). ap (λ (k : ℕ). get_or (swapped l a b) k 0) e ∙ swapped_at_b ∙ ap (λ (k : ℕ). get_or l k 0) e)
      (λ (e : a ≡ b → ⊥). get_or-set_other (set l a (get_or l b 0)) b a (get_or l a 0) 0 e ∙ get_or-set_same l a (get_or l b 0) 0 ha)
      (same_or_not a b)

  pub swapped_else : (p : ℕ) → (p ≡ a → ⊥) → (p ≡ b → ⊥) → get_or (swapped l a b) p 0 ≡ get_or l p 0
  swapped_else p na nb = get_or-set_other (set l a (get_or l b 0)) b p (get_or l a 0) 0 nb ∙ get_or-set_other l a p (get_or l b 0) 0 na

  swapped_counts : (x : ℕ) → times x (swapped l a b) ≡ times x l
  swapped_counts x =
      let p = count_set x (get_or l a 0) (set l a (get_or l b 0)) b (rw (length-set l a (get_or l b 0)) hb) in
      let q = count_set x (get_or l b 0) l a ha in
      let p' = rw kept_b at p in
      omega arith

  pub swap_rearranges : (e : ℕ) → a < e → b < e → Rearranged e l (swapped l a b)
  swap_rearranges e la lb =
      record {
        size = length-set (set l a (get_or l b 0)) b (get_or l a 0) ∙ length-set l a (get_or l b 0);
        same = swapped_counts;
        inside = λ P all p h.
            ⊎_elim
            (λ (s : p ≡ a). ap P (ap (λ (k : ℕ). get_or (swapped l a b) k 0) s ∙ swapped_at_a) ∙ all b lb)
            (λ (na : p ≡ a → ⊥).
            ⊎_elim
            (λ (s : p ≡ b). ap P (ap (λ (k : ℕ). get_or (swapped l a b) k 0) s ∙ swapped_at_b) ∙ all a la)
            (λ (nb : p ≡ b → ⊥). ap P (swapped_else p na nb) ∙ all p h)
            (same_or_not p b))
            (same_or_not p a);
        rest = λ p h. swapped_else p (λ s. omega arith) (λ s. omega arith);
      }

pub rearranged_none : (e : ℕ) (l : List ℕ) → Rearranged e l l
rearranged_none e l = record { size = refl; same = λ x. refl; inside = λ P all p h. all p h; rest = λ p h. refl }

pub rearranged_twice : (e : ℕ) (l l' l'' : List ℕ) → Rearranged e l l' → Rearranged e l' l'' → Rearranged e l l''
rearranged_twice e l l' l'' r s =
    record {
      size = s.size ∙ r.size;
      same = λ x. s.same x ∙ r.same x;
      inside = λ P all p h. s.inside P (r.inside P all) p h;
      rest = λ p h. s.rest p h ∙ r.rest p h;
    }
