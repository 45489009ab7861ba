-- What was read is written to the same bytes.
use mathlib.Core.Bool.{true}
use mathlib.Core.List.{List, ◌∷◌, ◌++◌}
use mathlib.Core.Path.{◌≡◌, refl, ap, sym, ◌∙◌}
use Prim.Native.Nat.{ℕ, zero, suc, ◌+◌, ◌*◌, ◌/◌, ◌^◌, ◌≤◌, ◌<◌}
use native.Mathlib.Nat.{zero-add, add-zero, suc-add}
use native.Mathlib.Omega.{arith}
use borrow.Author.Tests.{ltb-true, ltb-false}
use lib.Dec.{ltb}
use lib.Ieee.{Float, binary64, of_bits, to_bits}
use lib.Ieee.Bits.{to_bits-of_bits}
use lib.ListN.{length, get_or, take, drop, length-drop, length-take, get_or-eq_default}
use lib.Seq.{get_or-take, get_or-drop, length-take-le, take-add, take_at, take_all, drop-drop}
use Rattle.rules.proofs.Branches.{by_test}
use Rattle.fields.specs.Little.{little, Field, value}
use Rattle.fields.specs.Rows.{finite, all_finite, row}
use Rattle.fields.proofs.Finite.{finite_no_nan}
use Rattle.fields.proofs.Rows.{row_length}
use Rattle.job.specs.Layout.{mark, version, zero_byte, triangles, questions, number, numbers, letters, wide}
use Rattle.job.specs.Reader as reader
use Rattle.job.specs.Reader.{number_of, read_of, Sound}
use Rattle.job.proofs.Ladder as ladder
use Rattle.job.proofs.Reading as reading
use Rattle.writer.specs.Writer.{digits, numbers_in, laid_all, head_of, job_of, job_in, size_of, Outcome, accepted_of, write_of}
use Rattle.writer.specs.Back.{ReadFrom, WritesAgain}
use Rattle.writer.proofs.Digits.{digits_little, little_lt}
use Rattle.writer.proofs.Writing.{Accepted, job_length, accepted_write}

-- c and d numbers are c + d
row_append : (f : ℕ → Float) (k c d : ℕ) → row f k (c + d) ≡ row f k c ++ row f (k + c) d
unfolding row
row_append f k zero d = rw (zero-add, add-zero)
row_append f k (suc c) d =
    let e : k + suc c ≡ k + 1 + c = omega arith in
    rw (suc-add, e) (ap (λ (l : List Float). f k ∷ l) (row_append f (k + 1) c d))

module _ (file : List ℕ) (small : (i : ℕ) → get_or file i 0 < 256) where
  part_small : (a s i : ℕ) → get_or (take s (drop a file)) i 0 < 256
  part_small a s i =
      by_test (ltb i s)
      (λ t. rw (get_or-take s (drop a file) i 0 (ltb-true i s t), get_or-drop) (small (a + i)))
      (λ t. let h : length (take s (drop a file)) ≤ i = rw length-take (omega (arith, ltb-false i s t)) in
      rw (get_or-eq_default (take s (drop a file)) 0 h) (omega arith))

  -- a field, read and laid down again
  module _ (f : Field) (h : f.at + f.size ≤ length file) where
    part_length : length (take f.size (drop f.at file)) ≡ f.size
    part_length = length-take-le f.size (drop f.at file) (omega (arith, length-drop f.at file))

    field_again : digits f.size (value f file) ≡ take f.size (drop f.at file)
    unfolding value
    field_again = ap (λ (k : ℕ). digits k (little (take f.size (drop f.at file)))) (sym part_length)
        ∙ digits_little (take f.size (drop f.at file)) (part_small f.at f.size)

    value_lt : value f file < 256 ^ f.size
    unfolding value
    value_lt = rw part_length at (little_lt (take f.size (drop f.at file)) (part_small f.at f.size))

  -- two parts, one behind the other
  glue : (a b : ℕ) (x y : List ℕ) → x ≡ take a file → y ≡ take b (drop a file) → x ++ y ≡ take (a + b) file
  glue a b x y p q = rw (p, q) (sym (take-add a b file))

  head_again : 14 ≤ length file → value mark file ≡ letters → value version file ≡ 1 → value zero_byte file ≡ 0
      → head_of (value triangles file) (value questions file) ≡ take 14 file
  unfolding head_of
  head_again h p q r =
      let a : digits 3 letters ≡ take 3 file = ap (digits 3) (sym p) ∙ field_again mark (omega arith) in
      let b : digits 2 1 ≡ take 2 (drop 3 file) = ap (digits 2) (sym q) ∙ field_again version (omega arith) in
      let c : digits 1 0 ≡ take 1 (drop 5 file) = ap (digits 1) (sym r) ∙ field_again zero_byte (omega arith) in
      glue 10 4 _ _ (glue 6 4 _ _ (glue 5 1 _ _ (glue 3 2 _ _ a b) c) (field_again triangles (omega arith))) (field_again questions (omega arith))

  number_again : (k : ℕ) → 14 + 8 * k + 8 ≤ length file → finite (number_of file k) ≡ true
      → digits 8 (to_bits binary64 (number_of file k)) ≡ take 8 (drop (14 + 8 * k) file)
  unfolding number_of
  number_again k h e =
      let f = number wide k in
      ap (digits 8) (to_bits-of_bits binary64 (value f file) (value_lt f h) (finite_no_nan (of_bits binary64 (value f file)) e)) ∙ field_again f h

  numbers_again : (k c : ℕ) → 14 + 8 * (k + c) ≤ length file → ((i : ℕ) → i < k + c → finite (number_of file i) ≡ true)
      → laid_all (row (number_of file) k c) ≡ take (8 * c) (drop (14 + 8 * k) file)
  unfolding laid_all row
  numbers_again k zero h g = refl
  numbers_again k (suc c) h g =
      let e : 8 * suc c ≡ 8 + 8 * c = omega arith in
      let d : 14 + 8 * k + 8 ≡ 14 + 8 * (k + 1) = omega arith in
      rw (
        e,
        take-add 8 (8 * c) (drop (14 + 8 * k) file),
        drop-drop 8 (14 + 8 * k) file,
        d,
        number_again k (omega arith) (g k (omega arith)),
        numbers_again (k + 1) c (omega arith) (λ i l. g i (omega arith)),
      )

  rows_finite : (k c : ℕ) → ((i : ℕ) → i < k + c → finite (number_of file i) ≡ true) → all_finite (row (number_of file) k c) ≡ true
  unfolding all_finite row
  rows_finite k zero g = refl
  rows_finite k (suc c) g = rw (g k (omega arith)) (rows_finite (k + 1) c (λ i l. g i (omega arith)))

  -- ---- a file that the reader takes
  module _ (ms ns : List Float) (s : Sound file (length ms / 9) (length ns / 5)) where
    n : ℕ
    n = value triangles file

    m : ℕ
    m = value questions file

    all_again : job_of n m (row (number_of file) 0 (numbers n m)) ≡ file
    unfolding job_of n m
    all_again =
        glue 14 (8 * numbers n m) _ _
        (head_again (omega (arith, s.whole)) s.marked s.first s.clear)
        (numbers_again 0 (numbers n m) (omega (arith, s.whole)) (λ i l. s.finite_all i (omega arith)))
        ∙ take_all (14 + 8 * numbers n m) file (omega (arith, s.whole))

    read_is : reader.accepted_of file n m ms ns ≡ read_of file ms ns
    unfolding n m
    read_is = reading.accepted_is file ms ns 0 (ladder.accepted file (length ms / 9) (length ns / 5) s) refl n m _ refl refl refl

    module _ (mesh : List Float) (floor radius : Float) (qs : List Float) (r : ReadFrom mesh floor radius qs (read_of file ms ns)) where
      mesh_is : mesh ≡ row (number_of file) 2 (9 * n)
      unfolding reader.accepted_of
      mesh_is =
          r.mesh_is
          ∙ ap (λ (a : reader.Outcome). take (9 * a.answer.n) a.mesh) (sym read_is)
          ∙ take_at (row (number_of file) 2 (9 * n)) (drop (9 * n) ms) (9 * n) (row_length (number_of file) 2 (9 * n))

      questions_are : qs ≡ row (number_of file) (2 + 9 * n) (5 * m)
      unfolding reader.accepted_of
      questions_are =
          r.questions_is
          ∙ ap (λ (a : reader.Outcome). take (5 * a.answer.m) a.questions) (sym read_is)
          ∙ take_at (row (number_of file) (2 + 9 * n) (5 * m)) (drop (5 * m) ns) (5 * m) (row_length (number_of file) (2 + 9 * n) (5 * m))

      floor_is : floor ≡ number_of file 0
      unfolding reader.accepted_of
      floor_is = r.floor_is ∙ ap (λ (a : reader.Outcome). a.answer.floor) (sym read_is)

      radius_is : radius ≡ number_of file 1
      unfolding reader.accepted_of
      radius_is = r.radius_is ∙ ap (λ (a : reader.Outcome). a.answer.radius) (sym read_is)

      numbers_are : numbers_in mesh floor radius qs ≡ row (number_of file) 0 (numbers n m)
      unfolding row
      numbers_are =
          let f = number_of file in
          let e : 2 + (9 * n + 5 * m) ≡ numbers n m = omega arith in
          rw (mesh_is, questions_are, floor_is, radius_is)
          (ap (λ (l : List Float). f 0 ∷ f 1 ∷ l) (sym (row_append f 2 (9 * n) (5 * m))) ∙ sym (row_append f 0 2 (9 * n + 5 * m)) ∙ ap (row f 0) e)

      mesh_length : length mesh ≡ 9 * n
      mesh_length = ap length mesh_is ∙ row_length (number_of file) 2 (9 * n)

      questions_length : length qs ≡ 5 * m
      questions_length = ap length questions_are ∙ row_length (number_of file) (2 + 9 * n) (5 * m)

      same_n : length mesh / 9 ≡ n
      same_n = omega (arith, mesh_length)

      same_m : length qs / 5 ≡ m
      same_m = omega (arith, questions_length)

      job_is : job_in mesh floor radius qs ≡ file
      job_is = rw (same_n, same_m, numbers_are) all_again

      -- is not refused
      taken_again : (room : ℕ) → length file ≤ room → Accepted mesh floor radius qs room
      unfolding n m
      taken_again room h =
          record {
            nine = omega (arith, mesh_length);
            few = rw same_n s.few.0;
            five = omega (arith, questions_length);
            some = rw same_n s.some;
            few_questions = rw same_m s.few_questions.0;
            finite_all = rw numbers_are (rows_finite 0 (numbers n m) (λ i l. s.finite_all i (omega arith)));
            fits = rw (same_n, same_m) (omega (arith, s.whole));
          }

-- so a file that was read is written again
pub writes_again : (mesh : List Float) (floor radius : Float) (qs : List Float) (bytes : List ℕ) (o : Outcome) → o ≡ write_of mesh floor radius qs bytes
    → WritesAgain mesh floor radius qs (length bytes) o
unfolding accepted_of
writes_again mesh floor radius qs bytes o p file small ms ns r room =
    let s = (reading.exactly file ms ns (read_of file ms ns) refl).0 r.accepted in
    let a = taken_again file small ms ns s mesh floor radius qs r (length bytes) room in
    let e : o ≡ accepted_of mesh floor radius qs bytes = p ∙ sym (accepted_write mesh floor radius qs bytes a) in
    let j = job_is file small ms ns s mesh floor radius qs r in
    let l : size_of mesh qs ≡ length file = sym (job_length mesh floor radius qs (length bytes) a) ∙ ap length j in (
      ap (λ (u : Outcome). u.answer.refusal) e,
      ap (λ (u : Outcome). u.answer.length) e ∙ l,
      ap (λ (u : Outcome). take (length file) u.bytes) e
          ∙ take_at (job_in mesh floor radius qs) (drop (size_of mesh qs) bytes) (length file) (ap length j) ∙ j,
    )
