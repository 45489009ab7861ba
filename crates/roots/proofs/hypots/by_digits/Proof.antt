-- `by_digits` meets its contract: place and digits are the definition's (`Sized.antt`).
use Rattle.std.proofs.Common.{◌≡◌, ℕ, ◌+◌, ◌-◌, ◌*◌, ◌%◌, ◌^◌, ◌<◌, ◌≤◌, not, T, ◌⊎◌, sym, refl, ap, ◌∙◌, subst, add-zero, arith, lit<, rules}
use lib.Ieee.{binary64, of_bits, nan_bits}
use Rattle.roots.proofs.Infinities.{infinity_is}
use Rattle.roots.specs.Hypot.{hypot_of_count}
use Rattle.roots.specs.Inside.{place_of, digits_of, infinite_bits, of_sizes}
use Rattle.roots.proofs.Packing.{packed}
use Rattle.roots.proofs.Scales.{hit}
use Rattle.roots.proofs.Distances.{exactly}
use Rattle.roots.proofs.Sized.{sized, sizes_infinite, sizes_finite, alone}
use Rattle.roots.proofs.hypots.by_digits.Statement.{statement}
use Rattle.roots.proofs.hypots.by_digits.Tie as tie

below : (a b : ℕ) → b ≤ a → a < infinite_bits → b < infinite_bits
below a b l h = omega arith

-- the machine's a - (p << 52), with p the place of a
digits : (a p : ℕ) → a < infinite_bits → p ≡ place_of a → a - p * 2 ^ 52 % 2 ^ 64 ≡ digits_of a
digits a p h e = omega arith

far : (a b p q : ℕ) → p ≡ place_of a → q ≡ place_of b → 27 ≤ p - q → place_of b + 27 ≤ place_of a
far a b p q e f h = omega arith

-- beside a zero
beside : (a b : ℕ) → b ≡ 0 → a < infinite_bits → (of_bits binary64 a ≡ of_sizes a b) × T (not (nan_bits binary64 a))
beside a b e h =
    let A = sized a h in
    let w = A.whole in
    let d = digits_of a * 2 ^ place_of a in
    let k = packed (digits_of a) (place_of a) (weak _ A.few) A.enough (subst (λ (z : ℕ). z < infinite_bits) (sym w) h) in (
      ap (of_bits binary64) (sym w) ∙ k.0 ∙ sym (hit (exactly (digits_of a) (place_of a) A.few A.enough)) ∙ ap hypot_of_count (sym (add-zero (d * d)))
          ∙ sizes_finite a 0 h ∙ ap (of_sizes a) (sym e),
      subst (λ (z : ℕ). T (not (nan_bits binary64 z))) w k.1,
    )
  where
    weak : (q : ℕ) → q < 2 ^ 53 → q ≤ 2 ^ 53
    weak q h = omega arith

float_from_bits-result : tie.Need-float_from_bits-result
float_from_bits-result c = let s = c.before.before in (beside s.args.a s.args.b c.if-b-eq0.true c.before.if-a-ge-INFINITE.false).1

returns-2 : tie.Need-returns-then-b-eq0
returns-2 c = let s = c.before.before in (beside s.args.a s.args.b c.if-b-eq0.true c.before.if-a-ge-INFINITE.false).0

float_from_bits-result-2 : tie.Need-float_from_bits-result-then-p-q-ge27
float_from_bits-result-2 c =
    let s = c.before.before.before.before.before in
    (alone s.args.a s.args.b s.requires.0 c.before.before.before.before.if-a-ge-INFINITE.false
    (far s.args.a s.args.b _ _ c.before.before.place-p.ensures c.before.place-q.ensures c.if-p-q-ge27.true)).1

returns-3 : tie.Need-returns-then-p-q-ge27
returns-3 c =
    let s = c.before.before.before.before.before in
    (alone s.args.a s.args.b s.requires.0 c.before.before.before.before.if-a-ge-INFINITE.false
    (far s.args.a s.args.b _ _ c.before.before.place-p.ensures c.before.place-q.ensures c.if-p-q-ge27.true)).0

digits-requires : tie.Need-by_digits-requires
digits-requires c κs =
    let s = c.before.before.before.before.before in
    let a = s.args.a in
    let b = s.args.b in
    let p = c.before.before.place-p.ensures in
    let q = c.before.place-q.ensures in
    let h = c.before.before.before.before.if-a-ge-INFINITE.false in
    let k = below a b s.requires.0 h in
    let A = sized a h in
    let B = sized b k in (
      lit< tt,
      subst (λ (z : ℕ). z < 2 ^ 53) (sym (digits a _ h p)) A.few,
      subst (λ (z : ℕ). z < 2 ^ 53) (sym (digits b _ k q)) B.few,
      subst (λ (z : ℕ). z ≤ 2045) (sym p) A.place,
      less _ c.if-p-q-ge27.false,
      under _ _,
      subst (λ (z : ℕ). (c.before.before.place-p.result ≡ 0) ⊎ (2 ^ 52 ≤ z)) (sym (digits a _ h p))
          (subst (λ (z : ℕ). (z ≡ 0) ⊎ (2 ^ 52 ≤ digits_of a)) (sym p) A.enough),
    )
  where
    less : (n : ℕ) → n < 27 → n ≤ 26
    less n h = omega arith

    under : (p q : ℕ) → p - q ≤ p
    under p q = omega arith

returns-4 : tie.Need-returns
returns-4 c =
    let s = c.before.before.before.before.before.before in
    let a = s.args.a in
    let b = s.args.b in
    let p = c.before.before.before.place-p.ensures in
    let q = c.before.before.place-q.ensures in
    let h = c.before.before.before.before.before.if-a-ge-INFINITE.false in
    let k = below a b s.requires.0 h in
    c.by_digits.ensures.0 refl
    ∙ same _ _ _ _ _ _ _ _ (digits a _ h p) (digits b _ k q) p (place a b _ _ s.requires.0 p q)
    ∙ sizes_finite a b h
  where
    place : (a b p q : ℕ) → b ≤ a → p ≡ place_of a → q ≡ place_of b → p - (p - q) ≡ place_of b
    place a b p q h e f = omega arith

    same : (m m' n n' p p' q q' : ℕ) → m ≡ m' → n ≡ n' → p ≡ p' → q ≡ q'
        → hypot_of_count (m * 2 ^ p * (m * 2 ^ p) + n * 2 ^ q * (n * 2 ^ q)) ≡ hypot_of_count (m' * 2 ^ p' * (m' * 2 ^ p') + n' * 2 ^ q' * (n' * 2 ^ q'))
    same m m' n n' p p' q q' a b c d = rw (a, b, c, d)

pub by_digits_spec : {M : Type 1} → statement M
by_digits_spec =
    tie.close
    (tie.spec
    (λ c. infinity_is ∙ sizes_infinite c.before.args.a c.before.args.b c.if-a-ge-INFINITE.true)
    float_from_bits-result
    returns-2
    (λ c κs. tt)
    (λ c κs. tt)
    (λ c. search rules)
    float_from_bits-result-2
    returns-3
    (λ c. search rules)
    (λ c. search rules)
    (λ c. search rules)
    digits-requires
    returns-4)
