-- Document 02, request 12: a list of moves as a file. "FTP", u16 version 1, a zero byte, u32 count, start point, then per move a kind byte and an end
-- point of three f64, little endian.
use Rattle.std.specs.Prelude.{◌≡◌, refl, ℕ, ◌+◌, ◌*◌, ◌/◌, ◌%◌}
use Rattle.fields.specs.declared.Shape.{Shape}
use Rattle.fields.specs.Length.{bytes_of}
use Rattle.fields.specs.Little.{Field, field}

-- ---- the table

-- "FTP"
abbrev pub mark : Field
mark = field 0 3

-- u16
abbrev pub version : Field
version = field 3 2

-- a zero byte
abbrev pub zero_byte : Field
zero_byte = field 5 1

-- u32: how many moves
abbrev pub count : Field
count = field 6 4

-- the kind byte of move t
abbrev pub kind_byte : ℕ → Field
kind_byte t = field (34 + 25 * t) 1

-- x, y or z (j is 0, 1 or 2) of point p: point 0 is the start, 24 bytes behind the count, and point t + 1 is the end of move t, behind its kind byte; so a
-- point begins 25 bytes after the one before it
abbrev pub coordinate : ℕ → ℕ → Field
coordinate p j = field (10 + 25 * p + 8 * j) 8

-- number k of the file, three a point
abbrev pub number : ℕ → Field
number k = coordinate (k / 3) (k % 3)

-- ---- what follows from the table

-- a list of n moves as the length rule sees it: 34 bytes, then n times 25
abbrev pub shape : ℕ → Shape
shape n = record { head = 34; n = n; size = 25; m = 0; other = 0 }

-- the points of a list of n moves are one more, of three numbers each
abbrev pub numbers : ℕ → ℕ
numbers n = 3 * n + 3

-- the letters F, T and P, which are 0x46, 0x54 and 0x50
abbrev pub letters : ℕ
letters = 0x50_54_46

-- the start ends where the first kind byte stands, and the end of a move where the next move's does
start_is : (coordinate 0 2).at + 8 ≡ (kind_byte 0).at
start_is = refl

two_moves_is : bytes_of (shape 2) ≡ 84
two_moves_is = refl
