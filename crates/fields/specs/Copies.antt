-- Document 02, request 1: a broken copy is never taken for a part, nor two files stuck together for one.
use Rattle.std.specs.Prelude.{List, ◌++◌, ◌≡◌, ℕ, ◌≤◌, ◌<◌, length, take}
use Rattle.fields.specs.declared.Shape.{Shape}
use Rattle.fields.specs.Length.{Whole}

-- What a reader's refusal and the count that it tells are for every part of a file of shape s that it accepts, and for the file with more behind it.
pub record ToldApart (refusal told : List ℕ → ℕ) (s : Shape) (bytes : List ℕ) : Type 0 where
  -- broken off within the head
  pub no_head : (k : ℕ) → k < s.head → refusal (take k bytes) ≡ 14
  -- broken off behind it: told is how many of the first entries stand whole in that part
  pub cut : (k : ℕ) → s.head ≤ k → k < length bytes → (refusal (take k bytes) ≡ 19) × Whole s k (told (take k bytes))
  -- with any bytes behind it
  pub fat : (more : List ℕ) → 1 ≤ length more → refusal (bytes ++ more) ≡ 21
