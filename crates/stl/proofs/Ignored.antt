-- Heading, normals and u16s do not matter: a reading looks at a file's length, its count and its vertices, and at nothing else.
use mathlib.Core.Bool.{true}
use mathlib.Core.List.{List}
use mathlib.Core.Path.{◌≡◌, ap, sym, fun_ext, ◌∙◌}
use Prim.Native.Nat.{ℕ, ◌+◌, ◌-◌, ◌*◌, ◌/◌, ◌%◌, ◌<◌}
use native.Mathlib.Nat.{mod-lt}
use native.Mathlib.Omega.{arith}
use borrow.Author.Tests.{lt-ltb, le-ltb, le-leb}
use lib.Ieee.{Float}
use lib.ListN.{length, take, drop, length-take, length-drop}
use lib.Seq.{get_or-take, get_or-drop, ext_get_or}
use Rattle.fields.specs.Little.{Field, little, value}
use Rattle.single.specs.Single.{value_of}
use Rattle.stl.specs.Layout.{count, vertex_number, matters}
use Rattle.stl.specs.Reader.{number_of, bad_among, refusal_of_numbers, refusal_of_length, refusal_of_count, refusal_of, told_with, accepted_of, Outcome, read_of}
use Rattle.stl.specs.Alike.{Alike, OnlyVertices}

count_matters : (i : ℕ) → i < 4 → matters (80 + i) ≡ true
unfolding matters
count_matters i h = rw (lt-ltb (80 + i) 84 (omega arith), le-leb 80 (80 + i) (omega arith))

vertex_matters : (t j i : ℕ) → j < 9 → i < 4 → matters (84 + 50 * t + 12 + 4 * j + i) ≡ true
unfolding matters
vertex_matters t j i h l =
    let p : (84 + 50 * t + 12 + 4 * j + i - 84) % 50 ≡ 12 + 4 * j + i = omega arith in
    rw (le-ltb (84 + 50 * t + 12 + 4 * j + i) 84 (omega arith), p, le-leb 12 (12 + 4 * j + i) (omega arith), lt-ltb (12 + 4 * j + i) 48 (omega arith))

module _ (a b : List ℕ) (e : Alike a b) where
  -- a field whose bytes all matter
  same_value : (f : Field) → ((i : ℕ) → i < f.size → matters (f.at + i) ≡ true) → value f a ≡ value f b
  unfolding value
  same_value f m =
      let l : length (take f.size (drop f.at a)) ≡ length (take f.size (drop f.at b)) =
      rw (length-take, length-take, length-drop, length-drop, e.as_long) in
      ap little (ext_get_or 0 _ _ l
      (λ i h. let s : i < f.size = omega (arith, length-take f.size (drop f.at a)) in
      get_or-take f.size _ i 0 s ∙ get_or-drop f.at a i 0 ∙ e.same (f.at + i) (m i s) ∙ sym (get_or-take f.size _ i 0 s ∙ get_or-drop f.at b i 0)))

  same_count : value count a ≡ value count b
  same_count = same_value count count_matters

  same_numbers : number_of a ≡ number_of b
  unfolding number_of
  same_numbers = fun_ext (λ k. ap value_of (same_value (vertex_number (k / 9) (k % 9)) (λ i h. vertex_matters (k / 9) (k % 9) i (mod-lt k (omega arith)) h)))

  pub same_reading : (mesh : List Float) → read_of a mesh ≡ read_of b mesh
  unfolding read_of accepted_of told_with refusal_of refusal_of_count refusal_of_length refusal_of_numbers bad_among
  same_reading mesh = rw (e.as_long, same_count, same_numbers)

pub only_vertices : (bytes : List ℕ) (mesh : List Float) (o : Outcome) → o ≡ read_of bytes mesh → OnlyVertices bytes mesh o
only_vertices bytes mesh o p other e = p ∙ same_reading bytes other e mesh
