-- Vertex numbers: where one stands, and what a search over them comes to.
use mathlib.Core.Bool.{true, false}
use mathlib.Core.List.{List}
use mathlib.Core.Path.{◌≡◌, sym, subst, ◌∙◌}
use Prim.Native.Nat.{ℕ, ◌+◌, ◌-◌, ◌*◌, ◌/◌, ◌%◌, ◌≤◌, ◌<◌}
use native.Mathlib.Omega.{arith}
use borrow.Author.Tests.{ltb-true, ltb-false}
use lib.Dec.{ltb}
use Rattle.rules.proofs.Branches.{by_test, no}
use Rattle.fields.specs.Little.{value}
use Rattle.fields.specs.Rows.{finite, first_bad, somewhere}
use Rattle.fields.proofs.Rows.{passed, passes}
use Rattle.single.specs.Single.{value_of}
use Rattle.stl.specs.Layout.{vertex_number}
use Rattle.stl.specs.Reader.{number_of, bad_among}

module _ (bytes : List ℕ) where
  pub number_at : (t j b : ℕ) → j < 9 → b ≡ value (vertex_number t j) bytes → value_of b ≡ number_of bytes (9 * t + j)
  unfolding number_of
  number_at t j b h e =
      let q : (9 * t + j) / 9 ≡ t = omega arith in
      let r : (9 * t + j) % 9 ≡ j = omega arith in
      rw (q, r, e)

  -- ---- the search: c numbers from number k on are finite
  abbrev pub Finite : ℕ → ℕ → Type 0
  Finite k c = (i : ℕ) → i < c → finite (number_of bytes (k + i)) ≡ true

  pub bad : (k c i : ℕ) → i < c → finite (number_of bytes (k + i)) ≡ false → true ≡ bad_among bytes k c
  unfolding bad_among
  bad k c i h e =
      by_test (somewhere (first_bad (number_of bytes) k c))
      (λ t. sym t)
      (λ t. absurd (no (sym e ∙ passed (number_of bytes) k c t i h)))

  pub good : (k c : ℕ) → Finite k c → false ≡ bad_among bytes k c
  unfolding bad_among
  good k c f = sym (passes (number_of bytes) k c f)

  pub clean : (k c : ℕ) → bad_among bytes k c ≡ false → Finite k c
  unfolding bad_among
  clean k c e = passed (number_of bytes) k c e

  -- a stretch among the first n
  pub bad_part : (k c n : ℕ) → k + c ≤ n → bad_among bytes k c ≡ true → true ≡ bad_among bytes 0 n
  bad_part k c n h e =
      by_test (bad_among bytes 0 n)
      (λ t. sym t)
      (λ t. absurd (no (good k c (λ i l. let p : 0 + (k + i) ≡ k + i = omega arith in
      subst (λ (m : ℕ). finite (number_of bytes m) ≡ true) p (clean 0 n t (k + i) (omega arith))) ∙ e)))

  -- two stretches, one behind the other
  pub both : (k c d e : ℕ) → Finite k c → Finite (k + c) d → e ≡ c + d → Finite k e
  both k c d e f g s i h =
      by_test (ltb i c)
      (λ t. f i (ltb-true i c t))
      (λ t. let l = ltb-false i c t in
      let p : k + c + (i - c) ≡ k + i = omega arith in
      subst (λ (n : ℕ). finite (number_of bytes n) ≡ true) p (g (i - c) (omega arith)))

  pub one : (k : ℕ) → finite (number_of bytes k) ≡ true → Finite k 1
  one k e i h = let p : k ≡ k + i = omega arith in subst (λ (n : ℕ). finite (number_of bytes n) ≡ true) p e
