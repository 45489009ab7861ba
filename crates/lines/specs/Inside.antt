-- What a function that adds to a text promises: `out` holds the text up to `at`, and afterwards, as `out'`, the text and t, up to r; the bytes behind stay.
use Rattle.std.specs.Prelude.{List, ◌++◌, ◌≡◌, ℕ, ◌+◌, length, take, drop}

pub record Wrote (out out' : List ℕ) (at r : ℕ) (t : List ℕ) : Type 0 where
  pub text : take r out' ≡ take at out ++ t
  pub ends : r ≡ at + length t
  pub rest : drop r out' ≡ drop r out
