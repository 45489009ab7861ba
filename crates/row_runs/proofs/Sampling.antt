-- What the search finds is what its sampled stretches are halved to, one after the other.
use mathlib.Core.Bool.{Bool, true, false, cond}
use mathlib.Core.List.{List, [], ◌∷◌, ◌++◌, append_assoc}
use mathlib.Core.Path.{◌≡◌, refl, sym, ap, ◌∙◌}
use Prim.Native.Nat.{ℕ, zero, suc, ◌+◌}
use lib.Ieee.{Float}
use Rattle.levels.specs.declared.Level.{Level}
use Rattle.runs.specs.declared.Run.{Run}
use Rattle.runs.specs.Pieces.{Piece, pieces_of}
use Rattle.rows.specs.declared.Axis.{Axis}
use Rattle.rows.specs.declared.Lane.{Lane}
use Rattle.rows.specs.Lanes.{between}
use Rattle.rows.specs.Stretches.{Ends, stretches_of}
use Rattle.probe.specs.Probe.{on_level, clear}
use Rattle.parameters.specs.declared.Parameters.{Parameters}
use Rattle.row_runs.specs.Search.{Found, pieces_along, empty, directed, row_found, rows_found, level_found, levels_found, aim_of, lane_of}
use Rattle.row_runs.specs.Sampled.{Sampled, stretches_along, row_sampled, rows_sampled, level_sampled, levels_sampled, clear_at, halves_of, halves_of_all}

module _ (under : Run → Float) (p : Parameters) (r : Float) where
  all_append : (xs ys : List Run) → halves_of_all under p r (xs ++ ys) ≡ halves_of_all under p r xs ++ halves_of_all under p r ys
  unfolding halves_of_all
  all_append [] ys = refl
  all_append (x ∷ xs) ys =
      ap (λ (l : List Piece). halves_of under p r x ++ l) (all_append xs ys)
      ∙ sym (append_assoc (halves_of under p r x) (halves_of_all under p r xs) (halves_of_all under p r ys))

  -- a level's test is the plan's
  one_stretch : (l : Level) (s : Run) → pieces_of (clear under (aim_of p r l)) (aim_of p r l).least 32 s ≡ halves_of under p r s
  unfolding halves_of clear_at clear aim_of
  one_stretch l s = refl

  along_halved : (l : Level) (lane : Lane) (es : List Ends) → pieces_along under (aim_of p r l) lane es ≡ halves_of_all under p r (stretches_along lane es)
  unfolding pieces_along halves_of_all stretches_along
  along_halved l lane [] = refl
  along_halved l lane (e ∷ es) = rw (one_stretch l (between lane e.from e.to), along_halved l lane es)

  -- what the search has found, from what it has sampled
  abbrev pub found_from : Sampled → Found
  found_from s = record { rows = s.rows; pieces = halves_of_all under p r s.stretches }

  row_halved : (l : Level) (s : Sampled) (lane : Lane) → row_found under (aim_of p r l) (found_from s) lane ≡ found_from (row_sampled under (aim_of p r l) s lane)
  unfolding row_found row_sampled
  row_halved l s lane = by (empty (stretches_of (on_level under (aim_of p r l) lane) lane.samples))
    where
      es : List Ends
      es = directed (s.rows + 1) (stretches_of (on_level under (aim_of p r l) lane) lane.samples)

      by : (b : Bool) → cond b (found_from s)
          (record { rows = s.rows + 1; pieces = halves_of_all under p r s.stretches ++ pieces_along under (aim_of p r l) lane es })
          ≡ found_from (cond b s (record { rows = s.rows + 1; stretches = s.stretches ++ stretches_along lane es }))
      by true = refl
      by false = rw (along_halved l lane es, all_append s.stretches (stretches_along lane es))

  rows_halved : (l : Level) (lane : ℕ → Lane) (n : ℕ) (s : Sampled) (row : ℕ)
      → rows_found under (aim_of p r l) lane (found_from s) row n ≡ found_from (rows_sampled under (aim_of p r l) lane s row n)
  unfolding rows_found rows_sampled
  rows_halved l lane zero s row = refl
  rows_halved l lane (suc n) s row =
      ap (λ (f : Found). rows_found under (aim_of p r l) lane f (row + 1) n) (row_halved l s (lane row))
      ∙ rows_halved l lane n (row_sampled under (aim_of p r l) s (lane row)) (row + 1)

  pub levels_halved : (axis : Axis) (ls : List Level) (s : Sampled)
      → levels_found under p axis r (found_from s) ls ≡ found_from (levels_sampled under p axis r s ls)
  unfolding levels_found level_found levels_sampled level_sampled
  levels_halved axis [] s = refl
  levels_halved axis (l ∷ ls) s =
      ap (λ (f : Found). levels_found under p axis r f ls) (rows_halved l (lane_of p axis r l) _ s 0) ∙ levels_halved axis ls (level_sampled under p axis r s l)
