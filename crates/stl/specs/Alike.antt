-- Document 02, request 3: "Normals, heading and the u16 are ignored." Two files that differ in those bytes only have the same outcome.
use Rattle.std.specs.Prelude.{true, List, ◌≡◌, ℕ, Float, length, get_or}
use Rattle.stl.specs.Layout.{matters}
use Rattle.stl.specs.Reader.{Outcome, read_of}

-- as long as each other, with the same count and the same vertices
pub record Alike (a b : List ℕ) : Type 0 where
  pub as_long : length a ≡ length b
  pub same : (p : ℕ) → matters p ≡ true → get_or a p 0 ≡ get_or b p 0

-- this outcome is also that of every such other file
abbrev pub OnlyVertices : List ℕ → List Float → Outcome → Type 0
OnlyVertices bytes mesh o = (other : List ℕ) → Alike bytes other → o ≡ read_of other mesh
