-- Document 01, "The job file": the lines that the listing program prints, as the codes of their letters.
use Rattle.std.specs.Prelude.{cond, ◌&&◌, List, [], ◌∷◌, ◌++◌, ℕ, zero, suc, ◌+◌, ◌-◌, ◌/◌, ◌%◌, eqb, ltb, Float}
use Rattle.std.specs.Float.{binary64}
use Rattle.std.specs.Float.Ieee.{to_bits}

-- the letter of a digit below 16: `0` to `9`, then `a` to `f`
abbrev pub glyph_of : ℕ → ℕ
glyph_of d = cond (ltb d 10) (48 + d) (87 + d)

-- The digits of n in base b, the highest first: as many as n has, no fewer than `least` and no more than k.
unfoldable pub spelled : ℕ → ℕ → ℕ → ℕ → List ℕ
spelled b least zero n = []
spelled b least (suc k) n = cond (eqb n 0 && eqb least 0) [] (spelled b (least - 1) k (n / b) ++ (glyph_of (n % b) ∷ []))

-- a number in decimal
unfoldable pub decimal : ℕ → List ℕ
decimal n = spelled 10 1 20 n

-- a height's bits, as 16 lower-case hex digits
unfoldable pub hex_bits : Float → List ℕ
hex_bits x = spelled 16 16 16 (to_bits binary64 x)

-- what stands behind an entry of a line: a space, or the line's end
abbrev pub space : List ℕ
space = 32 ∷ []

abbrev pub newline : List ℕ
newline = 10 ∷ []

-- `FTM 1 `: the mark and the version
abbrev pub opening : List ℕ
opening = 70 ∷ 84 ∷ 77 ∷ 32 ∷ 49 ∷ 32 ∷ []

-- `refused `
abbrev pub refused : List ℕ
refused = 114 ∷ 101 ∷ 102 ∷ 117 ∷ 115 ∷ 101 ∷ 100 ∷ 32 ∷ []

-- the first line: mark, version, n, m, columns, rows
unfoldable pub head_line : ℕ → ℕ → ℕ → ℕ → List ℕ
head_line n m columns rows = opening ++ ((decimal n ++ space) ++ ((decimal m ++ space) ++ ((decimal columns ++ space) ++ (decimal rows ++ newline))))

-- one line a question: its number, 0 or the refusal, the height's bits, the count
unfoldable pub answer_line : ℕ → ℕ → Float → ℕ → List ℕ
answer_line i refusal height count = (decimal i ++ space) ++ ((decimal refusal ++ space) ++ ((hex_bits height ++ space) ++ (decimal count ++ newline)))

-- the only line of a job refused by reader or builder
unfoldable pub refused_line : ℕ → List ℕ
refused_line k = refused ++ (decimal k ++ newline)
