-- Document 01, "The job file": numbers in a file, little endian. Every file that is read or written goes by these.
use Rattle.std.specs.Prelude.{List, [], ◌∷◌, ℕ, ◌+◌, ◌*◌, take, drop}

-- What bytes stand for, little endian: the first is worth least.
unfoldable pub little : List ℕ → ℕ
little [] = 0
little (b ∷ bs) = b + 256 * little bs

-- A field: the place of its first byte, and how many bytes it has.
pub record Field : Type 0 where
  pub at : ℕ
  pub size : ℕ

abbrev pub field : ℕ → ℕ → Field
field a n = record { at = a; size = n }

-- What a field of a file holds.
unfoldable pub value : Field → List ℕ → ℕ
value f bytes = little (take f.size (drop f.at bytes))
