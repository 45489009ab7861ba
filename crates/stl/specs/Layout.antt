-- Document 02, request 3: a binary STL file. "80 bytes of heading, u32 count, 50 bytes a triangle (normal, three vertices, all f32,
-- then a u16), little endian."
use Rattle.std.specs.Prelude.{Bool, cond, ◌&&◌, ℕ, ◌+◌, ◌-◌, ◌*◌, ◌%◌, leb, ltb}
use Rattle.fields.specs.declared.Shape.{Shape}
use Rattle.fields.specs.Little.{Field, field}

-- u32, behind the heading
abbrev pub count : Field
count = field 80 4

-- where triangle t begins
abbrev pub triangle_at : ℕ → ℕ
triangle_at t = 84 + 50 * t

-- number j of its nine, behind its normal: x, y and z of the first vertex, of the second, of the third; each an f32
abbrev pub vertex_number : ℕ → ℕ → Field
vertex_number t j = field (triangle_at t + 12 + 4 * j) 4

-- "Length must be 84 + 50n": 84 bytes, then n times 50
abbrev pub shape : ℕ → Shape
shape n = record { head = 84; n = n; size = 50; m = 0; other = 0 }

-- "Normals, heading and the u16 are ignored": the byte at this place is one of the count or of a vertex
unfoldable pub matters : ℕ → Bool
matters p =
    cond (ltb p 84) (leb 80 p)
    (leb 12 ((p - 84) % 50) && ltb ((p - 84) % 50) 48)
