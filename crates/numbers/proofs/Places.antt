-- The total order is the order of places: where a value stands on the line from minus infinity to NaN. W is a count that no finite one exceeds.
use Rattle.std.proofs.Common.{◌≡◌, ℕ, ◌+◌, ◌-◌, ◌*◌, ◌^◌, ◌<◌, ◌≤◌, Bool, true, false, cond, T, ltb, ◌⊎◌, sym, refl, ◌∙◌, subst, inl, inr, arith, ltb-false, ltb-true, le-ltb, lt-ltb}
use lib.Ieee.{Float, nan, inf, fin, binary64, up, down, fits, lt, is_nan}
use Rattle.numbers.specs.Order.{sign_of, total_less, TotalOrder}
use Rattle.numbers.proofs.Counts.{Count, counted, sizes_ltb, same}

abbrev place : ℕ → Float → ℕ → ℕ
place W (inf true) a = 0
place W (fin true m e) a = W + 1 - a
place W (fin false m e) a = W + 2 + a
place W (inf false) a = 2 * W + 3
place W nan a = 2 * W + 4

-- a is the count of x, where x is finite
abbrev Counts : Float → ℕ → Type 0
Counts nan a = 0 ≡ a
Counts (inf s) a = 0 ≡ a
Counts (fin s m e) a = Count m e a

count_of : (x : Float) → T (fits binary64 x) → (a : ℕ) × Counts x a
count_of nan t = (0, refl)
count_of (inf s) t = (0, refl)
count_of (fin s m e) t = let c = counted s m e t in (m * 2 ^ c.0, c.1)

either_way : (b : Bool) (x y r : Bool) → x ≡ r → y ≡ r → cond b x y ≡ r
either_way true x y r p q = p
either_way false x y r p q = q

-- of two of one sign
three : (a b : ℕ) → cond (ltb a b) true (cond (ltb b a) false false) ≡ ltb a b
three a b = go (ltb a b) (ltb b a)
  where
    go : (s t : Bool) → cond s true (cond t false false) ≡ s
    go true t = refl
    go false true = refl
    go false false = refl

ltb_same : (a b c d : ℕ) → (a < b → c < d) → (b ≤ a → d ≤ c) → ltb a b ≡ ltb c d
ltb_same a b c d p q = go (ltb a b) refl
  where
    go : (t : Bool) → ltb a b ≡ t → t ≡ ltb c d
    go true h = sym (lt-ltb c d (p (ltb-true a b h)))
    go false h = sym (le-ltb c d (q (ltb-false a b h)))

ahead : (i j : ℕ) → i < j → true ≡ ltb i j
ahead i j h = sym (lt-ltb i j h)

behind : (i j : ℕ) → j ≤ i → false ≡ ltb i j
behind i j h = sym (le-ltb i j h)

module _ (W : ℕ) where
  less_is : (x y : Float) (a b : ℕ) → Counts x a → Counts y b → a ≤ W → b ≤ W → total_less x y ≡ ltb (place W x a) (place W y b)
  unfolding total_less lt is_nan sign_of
  less_is nan nan a b p q A B = behind (2 * W + 4) (2 * W + 4) (omega arith)
  less_is nan (inf true) a b p q A B = behind (2 * W + 4) 0 (omega arith)
  less_is nan (inf false) a b p q A B = behind (2 * W + 4) (2 * W + 3) (omega arith)
  less_is nan (fin true m e) a b p q A B = behind (2 * W + 4) (W + 1 - b) (omega arith)
  less_is nan (fin false m e) a b p q A B = behind (2 * W + 4) (W + 2 + b) (omega arith)
  less_is (inf true) nan a b p q A B = ahead 0 (2 * W + 4) (omega arith)
  less_is (inf false) nan a b p q A B = ahead (2 * W + 3) (2 * W + 4) (omega arith)
  less_is (inf true) (inf true) a b p q A B = behind 0 0 (omega arith)
  less_is (inf true) (inf false) a b p q A B = ahead 0 (2 * W + 3) (omega arith)
  less_is (inf false) (inf true) a b p q A B = behind (2 * W + 3) 0 (omega arith)
  less_is (inf false) (inf false) a b p q A B = behind (2 * W + 3) (2 * W + 3) (omega arith)
  less_is (inf true) (fin true m e) a b p q A B = ahead 0 (W + 1 - b) (omega arith)
  less_is (inf true) (fin false m e) a b p q A B = ahead 0 (W + 2 + b) (omega arith)
  less_is (inf false) (fin true m e) a b p q A B = behind (2 * W + 3) (W + 1 - b) (omega arith)
  less_is (inf false) (fin false m e) a b p q A B = behind (2 * W + 3) (W + 2 + b) (omega arith)
  less_is (fin true m e) nan a b p q A B = ahead (W + 1 - a) (2 * W + 4) (omega arith)
  less_is (fin false m e) nan a b p q A B = ahead (W + 2 + a) (2 * W + 4) (omega arith)
  less_is (fin true m e) (inf true) a b p q A B = behind (W + 1 - a) 0 (omega arith)
  less_is (fin false m e) (inf true) a b p q A B = behind (W + 2 + a) 0 (omega arith)
  less_is (fin true m e) (inf false) a b p q A B = ahead (W + 1 - a) (2 * W + 3) (omega arith)
  less_is (fin false m e) (inf false) a b p q A B = ahead (W + 2 + a) (2 * W + 3) (omega arith)
  less_is (fin false m e) (fin false n d) a b p q A B = three (m * up e * down d) (n * up d * down e) ∙ sizes_ltb m e n d a b p q
      ∙ ltb_same a b (W + 2 + a) (W + 2 + b) (λ h. omega arith) (λ h. omega arith)
  less_is (fin false m e) (fin true n d) a b p q A B = either_way (ltb 0 (n * up d * down e + m * up e * down d)) false false false refl refl
      ∙ behind (W + 2 + a) (W + 1 - b) (omega arith)
  less_is (fin true m e) (fin false n d) a b p q A B = either_way (ltb 0 (m * up e * down d + n * up d * down e)) true true true refl refl
      ∙ ahead (W + 1 - a) (W + 2 + b) (omega arith)
  less_is (fin true m e) (fin true n d) a b p q A B = three (n * up d * down e) (m * up e * down d) ∙ sizes_ltb n d m e b a q p
      ∙ ltb_same b a (W + 1 - a) (W + 1 - b) (λ h. omega arith) (λ h. omega arith)

  -- what stands at one place is one value
  one_place : (x y : Float) (a b : ℕ) → Counts x a → Counts y b → a ≤ W → b ≤ W → T (fits binary64 x) → T (fits binary64 y) → place W x a ≡ place W y b → x ≡ y
  one_place nan nan a b p q A B s t h = refl
  one_place nan (inf true) a b p q A B s t h = absurd (omega arith)
  one_place nan (inf false) a b p q A B s t h = absurd (omega arith)
  one_place nan (fin true m e) a b p q A B s t h = absurd (omega arith)
  one_place nan (fin false m e) a b p q A B s t h = absurd (omega arith)
  one_place (inf true) nan a b p q A B s t h = absurd (omega arith)
  one_place (inf false) nan a b p q A B s t h = absurd (omega arith)
  one_place (inf true) (inf true) a b p q A B s t h = refl
  one_place (inf true) (inf false) a b p q A B s t h = absurd (omega arith)
  one_place (inf false) (inf true) a b p q A B s t h = absurd (omega arith)
  one_place (inf false) (inf false) a b p q A B s t h = refl
  one_place (inf true) (fin true m e) a b p q A B s t h = absurd (omega arith)
  one_place (inf true) (fin false m e) a b p q A B s t h = absurd (omega arith)
  one_place (inf false) (fin true m e) a b p q A B s t h = absurd (omega arith)
  one_place (inf false) (fin false m e) a b p q A B s t h = absurd (omega arith)
  one_place (fin true m e) nan a b p q A B s t h = absurd (omega arith)
  one_place (fin false m e) nan a b p q A B s t h = absurd (omega arith)
  one_place (fin true m e) (inf true) a b p q A B s t h = absurd (omega arith)
  one_place (fin false m e) (inf true) a b p q A B s t h = absurd (omega arith)
  one_place (fin true m e) (inf false) a b p q A B s t h = absurd (omega arith)
  one_place (fin false m e) (inf false) a b p q A B s t h = absurd (omega arith)
  one_place (fin false m e) (fin false n d) a b p q A B s t h = same false m e n d a p (subst (Count n d) (omega arith) q) s t
  one_place (fin false m e) (fin true n d) a b p q A B s t h = absurd (omega arith)
  one_place (fin true m e) (fin false n d) a b p q A B s t h = absurd (omega arith)
  one_place (fin true m e) (fin true n d) a b p q A B s t h = same true m e n d a p (subst (Count n d) (omega arith) q) s t

pub total_order : (x y z : Float) → T (fits binary64 x) → T (fits binary64 y) → T (fits binary64 z) → TotalOrder x y z
total_order x y z s t u =
    let A = count_of x s in
    let B = count_of y t in
    let C = count_of z u in
    go A.0 B.0 C.0 A.1 B.1 C.1
  where
    go : (a b c : ℕ) → Counts x a → Counts y b → Counts z c → TotalOrder x y z
    go a b c p q r =
        let W = a + b + c in
        let A : a ≤ W = omega arith in
        let B : b ≤ W = omega arith in
        let C : c ≤ W = omega arith in
        let xy = less_is W x y a b p q A B in
        let yx = less_is W y x b a q p B A in
        let yz = less_is W y z b c q r B C in
        let xz = less_is W x z a c p r A C in
        record {
          total = apart (place W x a) (place W y b) xy yx (one_place W x y a b p q A B s t);
          antisymmetric = λ h. yx ∙ le-ltb _ _ (below (place W x a) (place W y b) (ltb-true _ _ (sym xy ∙ h)));
          transitive = λ h k. xz ∙ lt-ltb _ _ (through (place W x a) (place W y b) (place W z c) (ltb-true _ _ (sym xy ∙ h)) (ltb-true _ _ (sym yz ∙ k)));
        }
      where
        below : (i j : ℕ) → i < j → i ≤ j
        below i j h = omega arith

        through : (i j k : ℕ) → i < j → j < k → i < k
        through i j k h l = omega arith

        level : (i j : ℕ) → j ≤ i → i ≤ j → i ≡ j
        level i j h k = omega arith

        apart : (i j : ℕ) → total_less x y ≡ ltb i j → total_less y x ≡ ltb j i → (i ≡ j → x ≡ y) → (x ≡ y) ⊎ (total_less x y ≡ true) ⊎ (total_less y x ≡ true)
        apart i j l m e = pick (ltb i j) (ltb j i) refl refl
          where
            pick : (v w : Bool) → ltb i j ≡ v → ltb j i ≡ w → (x ≡ y) ⊎ (total_less x y ≡ true) ⊎ (total_less y x ≡ true)
            pick true w f g = inr (inl (l ∙ f))
            pick false true f g = inr (inr (m ∙ g))
            pick false false f g = inl (e (level i j (ltb-false i j f) (ltb-false j i g)))
