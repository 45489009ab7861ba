-- The first number that passes a test: a search that stops, goes on and ends, and what it found.
use mathlib.Core.Bool.{Bool, true, false}
use mathlib.Core.Path.{◌≡◌, sym}
use Prim.Native.Nat.{ℕ, zero, suc, ◌+◌, ◌-◌, ◌≤◌, ◌<◌}
use native.Mathlib.Nat.{add-zero}
use native.Mathlib.Omega.{arith}
use Rattle.rules.proofs.Branches.{by_test, no}
use Rattle.fields.specs.Rows.{somewhere}
use Rattle.std.specs.Prelude.{Option, None, Some}
use Rattle.micro.specs.Micro.{first_where}

module _ (test : ℕ → Bool) (n k : ℕ) (p : Option ℕ) where
  pub found_stops : k < n → test k ≡ true → first_where test k (n - k) ≡ p → Some k ≡ p
  unfolding first_where
  found_stops h e i = let s : n - k ≡ suc (n - (k + 1)) = omega arith in rw (s, e) at i

  pub found_goes : k < n → test k ≡ false → first_where test k (n - k) ≡ p → first_where test (k + 1) (n - (k + 1)) ≡ p
  unfolding first_where
  found_goes h e i = let s : n - k ≡ suc (n - (k + 1)) = omega arith in rw (s, e) at i

  pub found_ends : n ≤ k → first_where test k (n - k) ≡ p → None ≡ p
  unfolding first_where
  found_ends h i = let s : n - k ≡ 0 = omega arith in rw s at i

module _ (test : ℕ → Bool) where
  -- what was found passes the test
  pub record Found (k c p : ℕ) : Type 0 where
    pub from : k ≤ p
    pub past : p < k + c
    pub passes : test p ≡ true

  pub found : (k c p : ℕ) → first_where test k c ≡ Some p → Found k c p
  unfolding first_where
  found k zero p e = let z : ◌≡◌ {A = ℕ} 0 1 = cc in absurd (omega arith)
  found k (suc c) p e =
      by_test (test k)
      (λ t.
      let f : Some k ≡ Some p = rw t at e in
      let q : k ≡ p = cc in
      record { from = omega arith; past = omega arith; passes = rw (← q) t })
      (λ t.
      let r = found (k + 1) c p (rw t at e) in
      record { from = omega (arith, r.from); past = omega (arith, r.past); passes = r.passes })

  -- nothing was found where nothing passes
  pub none : (k c : ℕ) → somewhere (first_where test k c) ≡ false → (i : ℕ) → i < c → test (k + i) ≡ false
  unfolding first_where somewhere
  none k zero e i h = elim h [ ]
  none k (suc c) e zero h = by_test (test k) (λ t. absurd (no (sym (rw t at e)))) (λ t. rw add-zero t)
  none k (suc c) e (suc i) h =
      let s : k + suc i ≡ k + 1 + i = omega arith in
      by_test (test k) (λ t. absurd (no (sym (rw t at e)))) (λ t. rw s (none (k + 1) c (rw t at e) i (omega arith)))

  -- something is found where something passes
  pub some : (k c i : ℕ) → i < c → test (k + i) ≡ true → somewhere (first_where test k c) ≡ true
  unfolding first_where somewhere
  some k zero i h e = elim h [ ]
  some k (suc c) zero h e = let t : test k ≡ true = rw add-zero at e in rw t
  some k (suc c) (suc i) h e =
      let s : k + suc i ≡ k + 1 + i = omega arith in
      by_test (test k) (λ t. rw t) (λ t. rw t (some (k + 1) c i (omega arith) (rw s at e)))
