-- A row of numbers stored entry by entry, number k at entry k: what is left to store from here gives what the whole gave from the start.
use mathlib.Core.List.{List, ◌++◌}
use mathlib.Core.Path.{◌≡◌, sym, ap, subst, ◌∙◌}
use Prim.Native.Nat.{ℕ, zero, suc, ◌+◌, ◌-◌, ◌≤◌, ◌<◌}
use native.Mathlib.Nat.{add-zero, zero-add}
use native.Mathlib.Numerals.{add-one}
use native.Mathlib.Omega.{arith}
use lib.Ieee.{Float}
use lib.ListN.{length, drop, set}
use lib.Seq.{sets, sets-eq, length-sets}
use Rattle.fields.specs.Rows.{row}
use Rattle.fields.proofs.Rows.{row_length}

module _ (f : ℕ → Float) where
  -- one entry
  pub stored : (k m n : ℕ) (x : Float) (out whole : List Float) → k < n → m ≡ k + 1 → x ≡ f k → sets out k (row f k (n - k)) ≡ whole
      → sets (set out k x) m (row f m (n - m)) ≡ whole
  unfolding row
  stored k m n x out whole h p q e =
      let s : n - k ≡ suc (n - (k + 1)) = omega arith in
      rw (p, q) (subst (λ (i : ℕ). sets (set out k (f k)) i (row f (k + 1) (n - (k + 1))) ≡ whole) (sym (add-one k)) (rw s at e))

  -- c entries
  pub stores : (c d k : ℕ) (out : List Float) → sets out k (row f k (c + d)) ≡ sets (sets out k (row f k c)) (k + c) (row f (k + c) d)
  unfolding row
  stores zero d k out = rw (add-zero k, zero-add d)
  stores (suc c) d k out =
      let s : suc c + d ≡ suc (c + d) = omega arith in
      let t : k + suc c ≡ k + 1 + c = omega arith in
      let o : List Float = set out k (f k) in
      rw (s, t) (subst (λ (i : ℕ). sets o i (row f (k + 1) (c + d)) ≡ sets (sets o i (row f (k + 1) c)) (k + 1 + c) (row f (k + 1 + c) d))
      (add-one k) (stores c d (k + 1) o))

  -- a whole stretch, as one step does
  pub stretch : (k c m n : ℕ) (out after whole : List Float) → m ≡ k + c → m ≤ n → after ≡ sets out k (row f k c) → sets out k (row f k (n - k)) ≡ whole
      → sets after m (row f m (n - m)) ≡ whole
  stretch k c m n out after whole p h q e =
      let s : n - k ≡ c + (n - (k + c)) = omega arith in
      rw (p, q, ← stores c (n - (k + c)) k out, ← s) e

  pub as_long : (k c : ℕ) (out after : List Float) → after ≡ sets out k (row f k c) → length after ≡ length out
  as_long k c out after e = ap length e ∙ length-sets out k (row f k c)

  -- none
  pub all_stored : (k n : ℕ) (out whole : List Float) → n ≤ k → sets out k (row f k (n - k)) ≡ whole → out ≡ whole
  unfolding row
  all_stored k n out whole h e =
      let s : n - k ≡ 0 = omega arith in
      rw s at e

  -- the whole: the rest stays
  pub table_is : (c : ℕ) (out : List Float) → c ≤ length out → sets out 0 (row f 0 c) ≡ row f 0 c ++ drop c out
  table_is c out h =
      let l = row_length f 0 c in
      sets-eq (row f 0 c) out 0 (omega (arith, l)) ∙ ap (λ (k : ℕ). row f 0 c ++ drop k out) (zero-add _ ∙ l)
