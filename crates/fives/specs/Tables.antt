-- Document 01, "Levels and runs": a level is five numbers and a run is five; a table's room is its length over five, rounded down.
use Rattle.std.specs.Prelude.{cond, List, [], ◌∷◌, ◌++◌, ℕ, ◌+◌, ◌*◌, ◌/◌, leb, Float, length, take, drop, replicate}
use Rattle.numbers.specs.Reals.{f0}

-- How many entries a table has room for.
abbrev pub room_of : List Float → ℕ
room_of t = length t / 5

-- Five numbers as entry m of a table, where there is room for it.
unfoldable pub put_at : List Float → ℕ → List Float → List Float
put_at t m v = cond (leb (m * 5 + 5) (length t)) (take (m * 5) t ++ v ++ drop (m * 5 + 5) t) t

-- Entries of five numbers each, one after the other as far as there is room; the rest of the table stays.
unfoldable pub written : List (List Float) → List Float → List Float
written [] t = t
written (v ∷ vs) t = cond (leb 5 (length t)) (v ++ written vs (drop 5 t)) t

-- A table of as many zeros.
abbrev pub zeroed : List Float → List Float
zeroed t = replicate (length t) f0
