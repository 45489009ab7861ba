-- Document 01, "Proved examples": one table, and one claim over it. An example is what the definitions give and what document 01 says, both as lists of whole
-- numbers; a number of the machine stands there by its bits.
use Rattle.std.specs.Prelude.{List, [], ◌∷◌, ◌++◌, map, ◌≡◌, ℕ, zero, suc, ◌/◌, ◌%◌, ◌*◌, Float, length, take, replicate}
use Rattle.std.specs.Float.{binary64}
use Rattle.std.specs.Float.Ieee.{of_bits, to_bits}
use Rattle.numbers.specs.Reals.{f0, f1, f2, f4, million, minus1}
use Rattle.roots.specs.Root.{root_of}
use Rattle.numbers.specs.Rounding.{round_down_of}
use Rattle.grid.specs.Grid.{triangles_in}
use Rattle.grid.specs.Build.{build_of}
use Rattle.walk.specs.Walk.{next_stamp, ready_marks}
use Rattle.job.specs.Reader.{read_of}

pub record Example : Type 0 where
  pub given : List ℕ
  pub said : List ℕ

infixl 20 ◌gives◌
abbrev pub ◌gives◌ : List ℕ → List ℕ → Example
g gives s = record { given = g; said = s }

abbrev bits : Float → List ℕ
bits x = to_bits binary64 x ∷ []

-- ---- the worked example, byte for byte

-- n as k bytes, the lowest first
unfoldable pub bytes_in : ℕ → ℕ → List ℕ
bytes_in zero n = []
bytes_in (suc k) n = n % 256 ∷ bytes_in k (n / 256)

unfoldable pub numbers_in : List Float → List ℕ
numbers_in [] = []
numbers_in (x ∷ xs) = bytes_in 8 (to_bits binary64 x) ++ numbers_in xs

-- 7 and 20
abbrev f7 : Float
f7 = of_bits binary64 0x401c_0000_0000_0000

abbrev f20 : Float
f20 = of_bits binary64 0x4034_0000_0000_0000

-- floor and radius, the triangle, the four questions
abbrev numbers : List Float
numbers =
    f0 ∷ f1 ∷
    f0 ∷ f0 ∷ f2 ∷ f4 ∷ f0 ∷ f2 ∷ f0 ∷ f4 ∷ f2 ∷
    f1 ∷ f1 ∷ f1 ∷ f1 ∷ f1 ∷
    f7 ∷ f1 ∷ f7 ∷ f1 ∷ f1 ∷
    f20 ∷ f1 ∷ f20 ∷ f1 ∷ f1 ∷
    f1 ∷ f1 ∷ f1 ∷ f1 ∷ minus1 ∷ []

unfoldable pub worked : List ℕ
worked = 70 ∷ 84 ∷ 77 ∷ (bytes_in 2 1 ++ (0 ∷ (bytes_in 4 1 ++ (bytes_in 4 4 ++ numbers_in numbers))))

-- how many bytes, and what the reader says to them, lent tables of one triangle and four questions
abbrev pub reading : List ℕ → List ℕ
reading bytes = length bytes ∷ (read_of bytes (replicate 9 f0) (replicate 20 f0)).answer.refusal ∷ []

-- ---- a mesh

-- the worked example's triangle with one coordinate another number
abbrev pub corner_at : Float → List Float
corner_at x = f0 ∷ f0 ∷ f2 ∷ f4 ∷ f0 ∷ f2 ∷ f0 ∷ x ∷ f2 ∷ []

-- what the builder says to a mesh, with floor 0 and radius 1
abbrev pub building : List Float → List ℕ
building mesh = (build_of mesh f0 f1 (replicate 9 0) (replicate 9 0) (replicate (triangles_in mesh * 5) f0)).built.refusal ∷ []

-- ---- the table

abbrev pub examples : List Example
examples =
    -- coordinate 1e6 passes, the next f64 up gets 4
    (building (corner_at million) gives (0 ∷ []))
    ∷ (building (corner_at (of_bits binary64 0x412e_8480_0000_0001)) gives (4 ∷ []))
    -- mesh empty gets 3
    ∷ (building [] gives (3 ∷ []))
    -- root of 9 is 3
    ∷ (bits (root_of (of_bits binary64 0x4022_0000_0000_0000)) gives (0x4008_0000_0000_0000 ∷ []))
    -- root of 2^-1074 is 2^-537
    ∷ (bits (root_of (of_bits binary64 1)) gives (0x1e60_0000_0000_0000 ∷ []))
    -- round down of -0.5 is -1
    ∷ (bits (round_down_of (of_bits binary64 0xbfe0_0000_0000_0000)) gives (0xbff0_0000_0000_0000 ∷ []))
    -- stamp 4294967295 becomes 1 over wiped marks
    ∷ ((next_stamp 4294967295 ∷ ready_marks (7 ∷ 4294967295 ∷ 0 ∷ []) 4294967295) gives (1 ∷ 0 ∷ 0 ∷ 0 ∷ []))
    -- 262 bytes pass, 261 get 19
    ∷ (reading worked gives (262 ∷ 0 ∷ []))
    ∷ (reading (take 261 worked) gives (261 ∷ 19 ∷ []))
    ∷ []

-- ---- the claim

-- every example gives what document 01 says
abbrev pub AllGive : Type 0
AllGive = map (λ (e : Example). e.given) examples ≡ map (λ (e : Example). e.said) examples
