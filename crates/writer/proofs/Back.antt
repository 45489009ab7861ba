-- What was written is read to the same numbers.
use mathlib.Core.List.{List, [], ◌∷◌, ◌++◌}
use mathlib.Core.Path.{◌≡◌, refl, ap, sym, ◌∙◌}
use Prim.Native.Nat.{ℕ, zero, suc, ◌+◌, ◌*◌, ◌/◌, ◌≤◌, ◌<◌}
use native.Mathlib.Numerals.{add-one}
use native.Mathlib.Omega.{arith}
use lib.Dec.{T}
use lib.Ieee.{Float, nan, binary64, to_bits, fits}
use lib.Ieee.Bits.{of_bits-to_bits, to_bits-lt}
use lib.ListN.{length, get_or, take, drop, length-append}
use lib.Seq.{take_at, drop_at, drop-cons, drop-drop, take_all}
use Rattle.fields.specs.Little.{little, value}
use Rattle.fields.specs.Rows.{row}
use Rattle.job.specs.Layout.{mark, version, zero_byte, triangles, questions, numbers, letters}
use Rattle.job.specs.Reader as reader
use Rattle.job.specs.Reader.{number_of, read_of, Sound}
use Rattle.job.proofs.Ladder as ladder
use Rattle.job.proofs.Reading as reading
use Rattle.writer.specs.Writer.{digits, numbers_in, laid_all, head_of, job_of, job_in, size_of, Outcome, accepted_of, write_of}
use Rattle.writer.specs.Back.{ReadsBack}
use Rattle.writer.proofs.Digits.{digits_length, little_digits}
use Rattle.writer.proofs.Rows.{all_at, head_length}
use Rattle.writer.proofs.Writing.{Accepted, job_length, written_is}

-- the bytes of number k
laid_at : (xs : List Float) (k : ℕ) → k < length xs → take 8 (drop (8 * k) (laid_all xs)) ≡ digits 8 (to_bits binary64 (get_or xs k nan))
unfolding laid_all
laid_at (x ∷ xs) zero h = take_at (digits 8 (to_bits binary64 x)) (laid_all xs) 8 (digits_length 8 (to_bits binary64 x))
laid_at (x ∷ xs) (suc k) h =
    let e : 8 * suc k ≡ 8 + 8 * k = omega arith in
    rw (e, ← drop-drop (8 * k) 8, drop_at (digits 8 (to_bits binary64 x)) (laid_all xs) 8 (digits_length 8 (to_bits binary64 x))) (laid_at xs k (omega arith))
laid_at [] k h = absurd (omega arith)

module _ (n m : ℕ) (xs : List Float) where
  -- ---- the fields of a job that was laid down
  mark_back : value mark (job_of n m xs) ≡ letters
  unfolding job_of head_of digits value little
  mark_back = refl

  version_back : value version (job_of n m xs) ≡ 1
  unfolding job_of head_of digits value little
  version_back = refl

  zero_back : value zero_byte (job_of n m xs) ≡ 0
  unfolding job_of head_of digits value little
  zero_back = refl

  triangles_back : n ≤ 65536 → value triangles (job_of n m xs) ≡ n
  unfolding job_of head_of digits value
  triangles_back h = little_digits 4 n (omega arith)

  questions_back : m ≤ 65536 → value questions (job_of n m xs) ≡ m
  unfolding job_of head_of digits value
  questions_back h = little_digits 4 m (omega arith)

  module _ (good : (i : ℕ) → i < length xs → T (fits binary64 (get_or xs i nan))) where
    number_back : (k : ℕ) → k < length xs → number_of (job_of n m xs) k ≡ get_or xs k nan
    unfolding job_of number_of value
    number_back k h =
        let x = get_or xs k nan in
        let g = good k h in
        let d : drop (14 + 8 * k) (head_of n m ++ laid_all xs) ≡ drop (8 * k) (laid_all xs) = sym (drop-drop (8 * k) 14 (head_of n m ++ laid_all xs))
        ∙ ap (drop (8 * k)) (drop_at (head_of n m) (laid_all xs) 14 (head_length n m)) in
        rw (d, laid_at xs k h, little_digits 8 (to_bits binary64 x) (to_bits-lt binary64 x g)) (of_bits-to_bits binary64 x g)

    numbers_back : (k c : ℕ) → k + c ≤ length xs → row (number_of (job_of n m xs)) k c ≡ take c (drop k xs)
    unfolding row
    numbers_back k zero h = refl
    numbers_back k (suc c) h =
        rw (drop-cons xs k nan (omega arith), number_back k (omega arith), ← add-one k)
        (ap (λ (l : List Float). get_or xs k nan ∷ l) (numbers_back (k + 1) c (omega arith)))

module _ (mesh : List Float) (floor radius : Float) (qs : List Float) (room : ℕ) (a : Accepted mesh floor radius qs room) where
  -- the job, its numbers and their number
  xs : List Float
  xs = numbers_in mesh floor radius qs

  job : List ℕ
  job = job_in mesh floor radius qs

  count : length xs ≡ numbers (length mesh / 9) (length qs / 5)
  unfolding xs
  count = omega (arith, length-append mesh qs, a.nine, a.five)

  module _ (good : (i : ℕ) → i < length xs → T (fits binary64 (get_or xs i nan))) (ms ns : List Float) (h : length mesh ≤ length ms)
      (l : length qs ≤ length ns) where
    sound : Sound job (length ms / 9) (length ns / 5)
    unfolding xs job
    sound =
        let n = length mesh / 9 in
        let m = length qs / 5 in
        let p = triangles_back n m xs a.few in
        let q = questions_back n m xs a.few_questions in
        record {
          marked = mark_back n m xs;
          first = version_back n m xs;
          clear = zero_back n m xs;
          some = rw p a.some;
          few = rw p (a.few, omega arith);
          few_questions = rw q (a.few_questions, omega arith);
          whole = rw (p, q) (job_length mesh floor radius qs room a);
          finite_all = λ k g.
              let g' : k < length xs = omega (arith, count, p, q) in
              rw (number_back n m xs good k g') (all_at xs a.finite_all k g');
        }

    mesh_back : row (number_of job) 2 (9 * (length mesh / 9)) ≡ mesh
    unfolding xs job
    mesh_back =
        numbers_back (length mesh / 9) (length qs / 5) xs good 2 (9 * (length mesh / 9)) (omega (arith, count))
        ∙ take_at mesh qs (9 * (length mesh / 9)) a.nine

    questions_same : row (number_of job) (2 + 9 * (length mesh / 9)) (5 * (length qs / 5)) ≡ qs
    unfolding xs job
    questions_same =
        numbers_back (length mesh / 9) (length qs / 5) xs good (2 + 9 * (length mesh / 9)) (5 * (length qs / 5)) (omega (arith, count))
        ∙ ap (take (5 * (length qs / 5))) (sym (drop-drop (9 * (length mesh / 9)) 2 xs) ∙ drop_at mesh qs (9 * (length mesh / 9)) a.nine)
        ∙ take_all (5 * (length qs / 5)) qs (omega (arith, a.five))

    job_back : read_of job ms ns ≡ reader.ended (record { refusal = 0; n = length mesh / 9; m = length qs / 5; floor = floor; radius = radius })
        (mesh ++ drop (length mesh) ms) (qs ++ drop (length qs) ns)
    unfolding xs job
    job_back =
        let n = length mesh / 9 in
        let m = length qs / 5 in
        sym
        (reading.accepted_is job ms ns 0 (ladder.accepted job (length ms / 9) (length ns / 5) sound) refl n m _ (sym (triangles_back n m xs a.few))
        (sym (questions_back n m xs a.few_questions))
        (reading.decoded_is job ms ns n m floor radius (mesh ++ drop (length mesh) ms) (qs ++ drop (length qs) ns)
        (sym (number_back n m xs good 0 (omega (arith, count))))
        (sym (number_back n m xs good 1 (omega (arith, count))))
        (ap (λ (y : List Float). y ++ drop (length mesh) ms) (sym mesh_back) ∙ ap (λ (k : ℕ). row (number_of job) 2 (9 * n) ++ drop k ms) a.nine)
        (ap (λ (y : List Float). y ++ drop (length qs) ns) (sym questions_same)
        ∙ ap (λ (k : ℕ). row (number_of job) (2 + 9 * n) (5 * m) ++ drop k ns) a.five)))

-- all numbers of the job are f64s where the parts' are
pub all_fit : (mesh : List Float) (floor radius : Float) (qs : List Float) → T (fits binary64 floor) → T (fits binary64 radius)
    → ((i : ℕ) → T (fits binary64 (get_or mesh i nan))) → ((i : ℕ) → T (fits binary64 (get_or qs i nan))) → (i : ℕ) → i < length (numbers_in mesh floor radius qs)
    → T (fits binary64 (get_or (numbers_in mesh floor radius qs) i nan))
all_fit mesh floor radius qs f r g q zero h = f
all_fit mesh floor radius qs f r g q (suc zero) h = r
all_fit mesh floor radius qs f r g q (suc (suc i)) h = both mesh g i
  where
    both : (xs : List Float) → ((i : ℕ) → T (fits binary64 (get_or xs i nan))) → (i : ℕ) → T (fits binary64 (get_or (xs ++ qs) i nan))
    both [] g i = q i
    both (x ∷ xs) g zero = g 0
    both (x ∷ xs) g (suc i) = both xs (λ k. g (suc k)) i

-- so a job that was written is read to its numbers
pub reads_back : (mesh : List Float) (floor radius : Float) (qs : List Float) (bytes : List ℕ)
    → ((i : ℕ) → i < length (numbers_in mesh floor radius qs) → T (fits binary64 (get_or (numbers_in mesh floor radius qs) i nan))) → (o : Outcome)
    → o ≡ write_of mesh floor radius qs bytes → ReadsBack mesh floor radius qs o
unfolding accepted_of xs job
reads_back mesh floor radius qs bytes good o p z ms ns h l =
    let w = written_is mesh floor radius qs bytes o p z in
    let a = w.0 in
    let t : take o.answer.length o.bytes ≡ job_in mesh floor radius qs = ap (λ (u : Outcome). take u.answer.length u.bytes) w.1
    ∙ take_at (job_in mesh floor radius qs) (drop (size_of mesh qs) bytes) (size_of mesh qs) (job_length mesh floor radius qs (length bytes) a) in
    ap (λ (b : List ℕ). read_of b ms ns) t ∙ job_back mesh floor radius qs (length bytes) a good ms ns h l
