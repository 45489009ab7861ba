-- Laws of a row of numbers: that all are finite, and that they are laid down one after the other.
use mathlib.Core.Bool.{Bool, true, false, ◌&&◌}
use mathlib.Core.List.{List, [], ◌∷◌, ◌++◌, append_assoc}
use mathlib.Core.Path.{◌≡◌, refl, ap, sym, ◌∙◌}
use Prim.Native.Nat.{ℕ, zero, suc, ◌+◌, ◌*◌, ◌≤◌, ◌<◌}
use native.Mathlib.Numerals.{add-one}
use native.Mathlib.Omega.{arith}
use lib.Ieee.{Float, nan, binary64, to_bits}
use lib.ListN.{length, get_or, drop, drop_of_length-le, length-append}
use lib.Seq.{drop-cons, sets}
use Rattle.rules.proofs.Branches.{both_true}
use Rattle.fields.specs.Rows.{finite, all_finite}
use Rattle.writer.specs.Writer.{digits, numbers_in, laid_all, head_of, job_of}
use Rattle.writer.proofs.Digits.{digits_length}
use Rattle.writer.proofs.Stores.{sets_more}

-- ---- numbers that are all finite
pub all_append : (xs ys : List Float) → all_finite (xs ++ ys) ≡ (all_finite xs && all_finite ys)
unfolding all_finite
all_append [] ys = refl
all_append (x ∷ xs) ys = rw (all_append xs ys) (assoc (finite x) (all_finite xs) (all_finite ys))
  where
    assoc : (a b c : Bool) → (a && (b && c)) ≡ ((a && b) && c)
    assoc true b c = refl
    assoc false b c = refl

pub all_at : (xs : List Float) → all_finite xs ≡ true → (i : ℕ) → i < length xs → finite (get_or xs i nan) ≡ true
unfolding all_finite
all_at (x ∷ xs) e zero h = (both_true (finite x) (all_finite xs) e).0
all_at (x ∷ xs) e (suc i) h = all_at xs (both_true (finite x) (all_finite xs) e).1 i (omega arith)
all_at [] e i h = absurd (omega arith)

-- all numbers of a job
pub finite_parts : (mesh : List Float) (floor radius : Float) (qs : List Float) → all_finite (numbers_in mesh floor radius qs) ≡ true
    → (finite floor ≡ true) × (finite radius ≡ true) × (all_finite mesh ≡ true) × (all_finite qs ≡ true)
unfolding all_finite
finite_parts mesh floor radius qs e =
    let a = both_true (finite floor) (finite radius && all_finite (mesh ++ qs)) e in
    let b = both_true (finite radius) (all_finite (mesh ++ qs)) a.1 in
    let c = both_true (all_finite mesh) (all_finite qs) (sym (all_append mesh qs) ∙ b.1) in
    (a.0, b.0, c.0, c.1)

-- what the tests of a job's parts say of all its numbers
pub told : (mesh : List Float) (floor radius : Float) (qs : List Float) (b : Bool) → b ≡ (finite floor && (finite radius && (all_finite mesh && all_finite qs)))
    → b ≡ all_finite (numbers_in mesh floor radius qs)
unfolding all_finite
told mesh floor radius qs b p = p ∙ ap (λ (t : Bool). finite floor && (finite radius && t)) (sym (all_append mesh qs))

-- ---- numbers laid down
pub laid_length : (xs : List Float) → length (laid_all xs) ≡ 8 * length xs
unfolding laid_all
laid_length [] = refl
laid_length (x ∷ xs) = simp (length-append, digits_length) (omega (arith, laid_length xs))

pub laid_append : (xs ys : List Float) → laid_all (xs ++ ys) ≡ laid_all xs ++ laid_all ys
unfolding laid_all
laid_append [] ys = refl
laid_append (x ∷ xs) ys = rw (laid_append xs ys) (sym (append_assoc (digits 8 (to_bits binary64 x)) (laid_all xs) (laid_all ys)))

-- number i is laid down where those before it end: what is left, laid down from there, gives the whole
module _ (xs : List Float) (k i : ℕ) (bytes whole : List ℕ) where
  pub laid_more : i < length xs → sets bytes (14 + 8 * (k + i)) (laid_all (drop i xs)) ≡ whole
      → sets (sets bytes (14 + 8 * (k + i)) (digits 8 (to_bits binary64 (get_or xs i nan)))) (14 + 8 * (k + (i + 1))) (laid_all (drop (i + 1) xs)) ≡ whole
  unfolding laid_all
  laid_more h p =
      let x = to_bits binary64 (get_or xs i nan) in
      let d : drop i xs ≡ get_or xs i nan ∷ drop (i + 1) xs = rw add-one (drop-cons xs i nan h) in
      sets_more bytes (14 + 8 * (k + i)) (digits 8 x) (14 + 8 * (k + (i + 1))) (laid_all (drop (i + 1) xs)) (omega (arith, digits_length 8 x)) ∙ (rw d at p)

  pub laid_ends : length xs ≤ i → sets bytes (14 + 8 * (k + i)) (laid_all (drop i xs)) ≡ whole → bytes ≡ whole
  unfolding laid_all
  laid_ends h p = rw (drop_of_length-le xs h) at p

-- the head and the numbers, one behind the other, are the job
pub head_length : (n m : ℕ) → length (head_of n m) ≡ 14
unfolding head_of digits
head_length n m = refl

-- numbers behind a job that ends before them
job_more : (l : List ℕ) (n m : ℕ) (xs ys : List Float) (j : ℕ) → j ≡ 14 + 8 * length xs
    → sets (sets l 0 (job_of n m xs)) j (laid_all ys) ≡ sets l 0 (job_of n m (xs ++ ys))
unfolding job_of
job_more l n m xs ys j e =
    sets_more l 0 (head_of n m ++ laid_all xs) j (laid_all ys) (omega (arith, length-append (head_of n m) (laid_all xs), head_length n m, laid_length xs))
    ∙ ap (λ (x : List ℕ). sets l 0 x) (append_assoc (head_of n m) (laid_all xs) (laid_all ys) ∙ ap (λ (x : List ℕ). head_of n m ++ x) (sym (laid_append xs ys)))

-- the head, the floor and the radius
pub front_laid : (l : List ℕ) (n m : ℕ) (f r : Float)
    → sets (sets (sets l 0 (head_of n m)) 14 (digits 8 (to_bits binary64 f))) 22 (digits 8 (to_bits binary64 r)) ≡ sets l 0 (job_of n m (f ∷ r ∷ []))
unfolding job_of head_of laid_all digits
front_laid l n m f r = refl

-- then the mesh and the questions
pub job_all : (l : List ℕ) (n m : ℕ) (mesh : List Float) (f r : Float) (qs : List Float) → sets (sets (sets l 0 (job_of n m (f ∷ r ∷ []))) 30 (laid_all mesh))
    (14 + 8 * (2 + length mesh)) (laid_all qs) ≡ sets l 0 (job_of n m (numbers_in mesh f r qs))
job_all l n m mesh f r qs =
    ap (λ (x : List ℕ). sets x (14 + 8 * (2 + length mesh)) (laid_all qs)) (job_more l n m (f ∷ r ∷ []) mesh 30 refl)
    ∙ job_more l n m (f ∷ r ∷ mesh) qs (14 + 8 * (2 + length mesh)) (omega arith)
