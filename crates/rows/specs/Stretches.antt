-- Document 01, "Levels and runs": the stretches of a row. A sampled stretch of one sample is dropped.
use Rattle.std.specs.Prelude.{ℕ, zero, suc, ◌+◌, ◌-◌, Bool, true, false, cond, List, [], ◌∷◌, ◌++◌, map, reverse, nat_lt}

-- The samples a row is walked from and to.
pub record Ends : Type 0 where
  pub from : ℕ
  pub to : ℕ

abbrev pub ends : ℕ → ℕ → Ends
ends a b = record { from = a; to = b }

-- What holds of a, a + 1, .. n of them.
unfoldable pub sampled : (ℕ → Bool) → ℕ → ℕ → List Bool
sampled on a zero = []
sampled on a (suc n) = on a ∷ sampled on (a + 1) n

-- The stretch of k samples in front of sample s, if they are two or more.
unfoldable pub ended_at : ℕ → ℕ → List Ends
ended_at k s = cond (nat_lt 1 k) (ends (s - k) (s - 1) ∷ []) []

-- The stretches of samples on the level. Sample s is the next, and the k in front of it are on the level.
unfoldable pub stretches_from : ℕ → ℕ → List Bool → List Ends
stretches_from k s [] = ended_at k s
stretches_from k s (true ∷ fs) = stretches_from (k + 1) (s + 1) fs
stretches_from k s (false ∷ fs) = ended_at k s ++ stretches_from 0 (s + 1) fs

-- The stretches of a row of samples + 1 samples.
unfoldable pub stretches_of : (ℕ → Bool) → ℕ → List Ends
stretches_of on samples = stretches_from 0 0 (sampled on 0 (samples + 1))

-- A row walked the other way: the last stretch first, each from its end.
abbrev pub turned : Ends → Ends
turned e = ends e.to e.from

unfoldable pub backward : List Ends → List Ends
backward es = map turned (reverse es)
