-- Document 01, "The job file": the fields of a job, where each begins and how many bytes it has. What reads a job, what says how long it is and what
-- writes one all go by this table.
use Rattle.std.specs.Prelude.{◌≡◌, refl, ℕ, ◌+◌, ◌*◌}
use Rattle.fields.specs.Little.{Field, field}
use Rattle.fields.specs.Length as fields
use Rattle.fields.specs.declared.Shape.{Shape}

-- ---- the table: the first five fields are the same in every version, and after them stand numbers of w bytes each, to the end

-- "FTM"
abbrev pub mark : Field
mark = field 0 3

-- u16
abbrev pub version : Field
version = field 3 2

-- a zero byte
abbrev pub zero_byte : Field
zero_byte = field 5 1

-- u32, called n
abbrev pub triangles : Field
triangles = field 6 4

-- u32, called m
abbrev pub questions : Field
questions = field 10 4

-- number k: 0 is the floor, 1 the radius, then come nine of each triangle, then five of each question (px, py, qx, qy, r)
abbrev pub number : ℕ → ℕ → Field
number w k = field (14 + w * k) w

-- ---- what follows from the table

-- the numbers before the first triangle, and before the first question
abbrev pub mesh_from : ℕ
mesh_from = 2

abbrev pub questions_from : ℕ → ℕ
questions_from n = 2 + 9 * n

-- how many numbers a job of n triangles and m questions has
abbrev pub numbers : ℕ → ℕ → ℕ
numbers n m = 2 + 9 * n + 5 * m

-- the bytes of the head, of a triangle and of a question
abbrev pub head_bytes : ℕ → ℕ
head_bytes w = 14 + w * mesh_from

abbrev pub triangle_bytes : ℕ → ℕ
triangle_bytes w = 9 * w

abbrev pub question_bytes : ℕ → ℕ
question_bytes w = 5 * w

-- a job of n triangles and m questions as the length rule sees it, and how many bytes it has
abbrev pub shape : ℕ → ℕ → ℕ → Shape
shape w n m = record { head = head_bytes w; n = n; size = triangle_bytes w; m = m; other = question_bytes w }

abbrev pub bytes_of : ℕ → ℕ → ℕ → ℕ
bytes_of w n m = fields.bytes_of (shape w n m)

-- the letters F, T and M, which are 0x46, 0x54 and 0x4d
abbrev pub letters : ℕ
letters = 0x4d_54_46

-- version 1: a number is an f64
abbrev pub wide : ℕ
wide = 8

-- version 2: a number is an i32
abbrev pub narrow : ℕ
narrow = 4

-- version 2 as document 02 gives it
narrow_head_is : head_bytes narrow ≡ 22
narrow_head_is = refl

narrow_triangle_is : triangle_bytes narrow ≡ 36
narrow_triangle_is = refl

narrow_question_is : question_bytes narrow ≡ 20
narrow_question_is = refl

-- version 1 as document 01 gives it
head_is : head_bytes wide ≡ 30
head_is = refl

triangle_is : triangle_bytes wide ≡ 72
triangle_is = refl

question_is : question_bytes wide ≡ 40
question_is = refl

worked_example_is : bytes_of wide 1 4 ≡ 262
worked_example_is = refl
