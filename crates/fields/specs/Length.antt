-- The length rule of a file: a head, n entries of one size and then m of another (none, where a file has one kind of entry).
use Rattle.std.specs.Prelude.{cond, ℕ, ◌+◌, ◌-◌, ◌*◌, ◌/◌, ◌≤◌, ◌<◌, min, ltb}
use Rattle.fields.specs.declared.Shape.{Shape}
use Rattle.fields.specs.declared.Length.{Length}
use Rattle.fields.specs.declared.Length.TheVariants.{Short, Exact, Surplus}

-- how many bytes a file of this shape has
abbrev pub bytes_of : Shape → ℕ
bytes_of s = s.head + s.n * s.size + s.m * s.other

-- how many entries of the first kind stand whole in so many bytes
unfoldable pub whole_in : Shape → ℕ → ℕ
whole_in s length = min s.n ((length - s.head) / s.size)

-- too few bytes, with the whole entries before the cut; too many; or as many as the shape asks for
unfoldable pub length_rule : Shape → ℕ → Length
length_rule s length =
    cond (ltb length (bytes_of s)) (Short (whole_in s length))
    (cond (ltb (bytes_of s) length) Surplus
    Exact)

-- ---- refusals: 19 too few bytes, 21 surplus bytes, else the next
unfoldable pub refuse_length : Length → ℕ → ℕ
refuse_length (Short c) next = 19
refuse_length Surplus next = 21
refuse_length Exact next = next

-- ---- what is told with 19

-- c is the number of whole entries: the first c stand in so many bytes, and the next, if there is one, does not
pub record Whole (s : Shape) (length c : ℕ) : Type 0 where
  pub few : c ≤ s.n
  pub stand : s.head + c * s.size ≤ length
  pub no_more : c < s.n → length < s.head + (c + 1) * s.size
