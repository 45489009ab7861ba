-- Laws of a text that grows at its end.
use mathlib.Core.Bool.{Bool, true, false, ◌&&◌}
use mathlib.Core.List.{List, [], ◌∷◌, ◌++◌, append_assoc, append-nil}
use mathlib.Core.Path.{◌≡◌, refl, sym, ap, subst, ◌∙◌}
use Prim.Native.Nat.{ℕ, zero, suc, ◌+◌, ◌-◌, ◌/◌, ◌%◌, ◌≤◌, ◌<◌}
use native.Mathlib.Nat.{add-zero, le_antisymm}
use native.Mathlib.Numerals.{add-one}
use native.Mathlib.Omega.{arith}
use lib.Dec.{eqb}
use lib.ListN.{length, get_or, take, drop, set, length-append}
use lib.Seq.{take-suc-set, take-suc, take_all, drop-drop, drop-set-lt}
use Rattle.rules.proofs.Branches.{either}
use Rattle.lines.specs.Lines.{glyph_of, spelled}
use Rattle.lines.specs.Inside.{Wrote}

pub nothing : (out : List ℕ) (at : ℕ) → Wrote out out at at []
nothing out at = record { text = sym (append-nil (take at out)); ends = sym (add-zero at); rest = refl }

pub one : (out : List ℕ) (at b : ℕ) → at < length out → Wrote out (set out at b) at (at + 1) (b ∷ [])
one out at b h = record { text = rw add-one (take-suc-set out at b h); ends = refl; rest = drop-set-lt (at + 1) out at b (omega arith) }

pub as_well : {o p : List ℕ} {a b : ℕ} {s t : List ℕ} → s ≡ t → Wrote o p a b s → Wrote o p a b t
as_well e w = rw e at w

-- what stays behind b stays behind what is farther
behind : (p o : List ℕ) (b c n : ℕ) → c ≡ b + n → drop b p ≡ drop b o → drop c p ≡ drop c o
behind p o b c n e h = rw (e, ← drop-drop n b p, ← drop-drop n b o) (ap (drop n) h)

-- one text after the other
infixr 20 ◌then◌
pub ◌then◌ : {o p q : List ℕ} {a b c : ℕ} {s t : List ℕ} → Wrote o p a b s → Wrote p q b c t → Wrote o q a c (s ++ t)
◌then◌ {o} {p} {q} {a} {b} {c} {s} {t} w v =
    record {
      text = v.text ∙ rw w.text (append_assoc (take a o) s t);
      ends = simp length-append (omega (arith, v.ends, w.ends));
      rest = v.rest ∙ behind p o b c (length t) v.ends w.rest;
    }

spelled_length : (b least k n : ℕ) → length (spelled b least k n) ≤ k
unfolding spelled
spelled_length b least zero n = omega arith
spelled_length b least (suc k) n =
    either (λ (l : List ℕ). length l ≤ suc k) (eqb n 0 && eqb least 0) [] _
    (λ e. omega arith)
    (λ e. simp length-append (omega (arith, spelled_length b (least - 1) k (n / b))))

-- ---- one step of spelling
module _ (b least n : ℕ) where
  done_is : (k : ℕ) → (eqb n 0 && eqb least 0) ≡ true → spelled b least k n ≡ []
  unfolding spelled
  done_is zero e = refl
  done_is (suc k) e = rw e

  more_is : (k : ℕ) → (k ≡ 0 → ⊥) → (eqb n 0 && eqb least 0) ≡ false → spelled b least k n ≡ spelled b (least - 1) (k - 1) (n / b) ++ (glyph_of (n % b) ∷ [])
  unfolding spelled
  more_is zero h e = absurd (h refl)
  more_is (suc k) h e =
      let s : suc k - 1 ≡ k = omega arith in
      rw (e, s)

module _ (b least k n : ℕ) where
  pub spells_none : (out : List ℕ) (at : ℕ) → k ≡ 0 → Wrote out out at at (spelled b least k n)
  unfolding spelled
  spells_none out at z = rw z (nothing out at)

  pub spells_done : (out : List ℕ) (at : ℕ) (d : Bool) → d ≡ (eqb n 0 && eqb least 0) → d ≡ true → Wrote out out at at (spelled b least k n)
  spells_done out at d p e = rw (done_is b least n k (sym p ∙ e)) (nothing out at)

  pub spells_more : (o p q : List ℕ) (at r r' g l : ℕ) (d : Bool) → (k ≡ 0 → ⊥) → d ≡ (eqb n 0 && eqb least 0) → d ≡ false → l ≡ least - 1
      → Wrote o p at r (spelled b l (k - 1) (n / b)) → g ≡ glyph_of (n % b) → Wrote p q r r' (g ∷ []) → Wrote o q at r' (spelled b least k n)
  spells_more o p q at r r' g l d h i e j w u v = rw (more_is b least n k h (sym i ∙ e), ← j, ← u) (w then v)

-- how far a text may reach
pub reach : {o p : List ℕ} {at r : ℕ} (b least k n : ℕ) → Wrote o p at r (spelled b least k n) → r ≤ at + k
reach b least k n w = omega (arith, w.ends, spelled_length b least k n)

-- ---- one step of copying a word
module _ (o p : List ℕ) (at i : ℕ) (word : List ℕ) where
  pub word_more : i < length word → at + i < length p → Wrote o p at (at + i) (take i word)
      → Wrote o (set p (at + i) (get_or word i 0)) at (at + (i + 1)) (take (i + 1) word)
  word_more h l w =
      let s : at + (i + 1) ≡ at + i + 1 = omega arith in
      rw (s, add-one i, take-suc word i 0 h) (w then one p (at + i) (get_or word i 0) l)

  pub word_ends : length word ≤ i → i ≤ length word → Wrote o p at (at + i) (take i word) → Wrote o p at (at + length word) word
  word_ends h l w = rw (take_all i word h) at (subst (λ (k : ℕ). Wrote o p at (at + k) (take i word)) (le_antisymm l h) w)
