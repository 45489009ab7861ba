-- Which way a row is walked, what it adds to the search, and the rows of a level one after the other.
use mathlib.Core.Bool.{Bool, true, false, cond, not}
use mathlib.Core.List.{List, [], ◌∷◌, ◌++◌, map, reverse, reverse-cons}
use mathlib.Core.Path.{◌≡◌, refl, sym, ap, subst, ◌∙◌}
use Prim.Native.Nat.{ℕ, suc, ◌+◌, ◌-◌, ◌%◌, ◌≤◌, ◌<◌}
use native.Mathlib.Omega.{arith}
use lib.Dec.{eqb}
use lib.Ieee.{Float}
use Rattle.rules.proofs.Branches.{no}
use Rattle.runs.specs.declared.Run.{Run}
use Rattle.runs.specs.Pieces.{Piece}
use Rattle.runs.specs.Inside.{work, taken_all}
use Rattle.levels.specs.declared.Level.{Level}
use Rattle.rows.specs.declared.Axis.{Axis}
use Rattle.rows.specs.declared.Lane.{Lane}
use Rattle.rows.specs.declared.Spread.{Spread}
use Rattle.rows.specs.Lanes.{spread_of, intervals_of}
use Rattle.rows.specs.Stretches.{Ends, turned, stretches_of, backward}
use Rattle.rows.proofs.Turning.{row_turned}
use Rattle.probe.specs.declared.Aim.{Aim}
use Rattle.probe.specs.Probe.{on_level}
use Rattle.parameters.specs.declared.Parameters.{Parameters}
use Rattle.row_runs.specs.declared.Walked.{Walked}
use Rattle.row_runs.specs.Search.{Found, pieces_along, empty, directed, row_found, rows_found, level_found, aim_of, lane_of}
use Rattle.row_runs.specs.Inside.{number_of, numbered, Trodden, Coarse}
use Rattle.row_runs.proofs.Walking.{empty_map}
use Rattle.search.specs.declared.Swept.{Swept}
use Rattle.search.specs.Inside.{from, Takes}
use Rattle.search.proofs.Finding.{row_behind, takes_none, takes_on}

-- ---- which way a row is walked

map_itself : (f : Ends → Ends) → ((e : Ends) → f e ≡ e) → (es : List Ends) → map f es ≡ es
map_itself f h [] = refl
map_itself f h (e ∷ es) = rw (h e, map_itself f h es)

directed_is : (on : ℕ → Bool) (samples n : ℕ) (forward : Bool) → forward ≡ not (eqb (n % 2) 0)
    → map (numbered forward samples) (stretches_of (λ j. on (number_of forward samples j)) samples) ≡ directed n (stretches_of on samples)
unfolding number_of directed
directed_is on samples n forward e = by forward (eqb (n % 2) 0) e
  where
    by : (b d : Bool) → b ≡ not d → map (numbered b samples) (stretches_of (λ j. on (number_of b samples j)) samples)
        ≡ cond d (backward (stretches_of on samples)) (stretches_of on samples)
    by true true p = cc
    by true false p = map_itself _ (λ e. refl) (stretches_of on samples)
    by false true p = row_turned on samples
    by false false p = cc

empty_append : (es : List Ends) (e : Ends) → empty (es ++ e ∷ []) ≡ false
unfolding empty
empty_append [] e = refl
empty_append (x ∷ es) e = refl

empty_reverse : (es : List Ends) → empty (reverse es) ≡ empty es
unfolding empty
empty_reverse [] = refl
empty_reverse (e ∷ es) = ap empty (reverse-cons e es) ∙ empty_append (reverse es) e

empty_directed : (n : ℕ) (es : List Ends) → empty (directed n es) ≡ empty es
unfolding directed backward
empty_directed n es = by (eqb (n % 2) 0)
  where
    by : (b : Bool) → empty (cond b (map turned (reverse es)) es) ≡ empty es
    by true = empty_map turned (reverse es) ∙ empty_reverse es
    by false = refl

-- ---- what a row adds

along_none : (under : Run → Float) (a : Aim) (l : Lane) (es : List Ends) → empty es ≡ true → pieces_along under a l es ≡ []
unfolding pieces_along empty
along_none under a l [] e = refl
along_none under a l (x ∷ es) e = absurd (no e)

module _ (under : Run → Float) (a : Aim) (l : Lane) (t : List Float) (s : Swept) (t' : List Float) (w : Walked)
    (n : ℕ) (forward : Bool) (e : n ≡ s.rows + 1) (f : forward ≡ not (eqb (n % 2) 0)) (x : Trodden under a l
    (map (numbered forward l.samples) (stretches_of (λ j. on_level under a l (number_of forward l.samples j)) l.samples)) t s.stand t' w) where
  abbrev es : List Ends
  es = stretches_of (on_level under a l) l.samples

  abbrev ds : List Ends
  ds = directed (s.rows + 1) es

  walked : map (numbered forward l.samples) (stretches_of (λ j. on_level under a l (number_of forward l.samples j)) l.samples) ≡ ds
  walked = directed_is (on_level under a l) l.samples n forward f ∙ ap (λ (m : ℕ). directed m es) e

  one : w.some ≡ not (empty es)
  one = x.some ∙ ap (λ (z : List Ends). not (empty z)) walked ∙ ap not (empty_directed (s.rows + 1) es)

  all : work t' w.stand.tally ≡ taken_all (work t s.stand.tally) (pieces_along under a l ds)
  all = x.taken ∙ ap (λ (z : List Ends). taken_all (work t s.stand.tally) (pieces_along under a l z)) walked

  pub row_some : w.some ≡ true → Takes t s (row_found under a (from s) l) t' (record { rows = n; stand = w.stand })
  unfolding row_found
  row_some h = by (empty es) (sym one ∙ h)
    where
      by : (b : Bool) → not b ≡ true
          → Takes t s (cond b (from s) (record { rows = s.rows + 1; pieces = pieces_along under a l ds })) t' (record { rows = n; stand = w.stand })
      by true p = absurd (no p)
      by false p = record { rows = e; taken = all }

  pub row_none : w.some ≡ false → Takes t s (row_found under a (from s) l) t' (record { rows = s.rows; stand = w.stand })
  unfolding row_found taken_all
  row_none h = by (empty es) refl (sym one ∙ h)
    where
      by : (b : Bool) → empty es ≡ b → not b ≡ false
          → Takes t s (cond b (from s) (record { rows = s.rows + 1; pieces = pieces_along under a l ds })) t' (record { rows = s.rows; stand = w.stand })
      by true q
          p = record { rows = refl; taken = all ∙ ap (taken_all (work t s.stand.tally)) (along_none under a l ds (empty_directed (s.rows + 1) es ∙ q)) }
      by false q p = absurd (no (sym p))

pub row_rows : (under : Run → Float) (a : Aim) (f : Found) (l : Lane) → (row_found under a f l).rows ≤ f.rows + 1
unfolding row_found
row_rows under a f l = by (empty (stretches_of (on_level under a l) l.samples))
  where
    ps : List Piece
    ps = f.pieces ++ pieces_along under a l (directed (f.rows + 1) (stretches_of (on_level under a l) l.samples))

    by : (b : Bool) → (cond b f (record { rows = f.rows + 1; pieces = ps })).rows ≤ f.rows + 1
    by true = omega arith
    by false = omega arith

-- ---- rows row, row + 1, .. of a level

module _ (under : Run → Float) (a : Aim) (lane : ℕ → Lane) (t₀ : List Float) (s₀ : Swept) where
  -- what is found so far is taken; what is left of n rows, found from there, gives what all give from the start; each row passed counts at most once
  pub record Laning (t : List Float) (s : Swept) (row n : ℕ) : Type 0 where
    pub found : Found
    pub taken : Takes t₀ s₀ found t s
    pub same : rows_found under a lane found row (n - row) ≡ rows_found under a lane (from s₀) 0 n
    pub few : s.rows ≤ s₀.rows + row

  pub laning_starts : (n : ℕ) → Laning t₀ s₀ 0 n
  laning_starts n = let e : n - 0 ≡ n = omega arith in record { found = from s₀; taken = takes_none t₀ s₀; same = rw e; few = omega arith }

  pub laning_goes : (t : List Float) (s : Swept) (t' : List Float) (s' : Swept) (row n : ℕ) (l : Lane) → row < n → Laning t s row n → l ≡ lane row
      → Takes t s (row_found under a (from s) l) t' s' → Laning t' s' (row + 1) n
  unfolding rows_found
  laning_goes t s t' s' row n l h g p x =
      let q : n - row ≡ suc (n - (row + 1)) = omega arith in
      let y = takes_on (λ (f : Found). row_found under a f l) (row_behind under a l) t₀ s₀ g.found t s t' s' g.taken x in
      record {
        found = row_found under a g.found l;
        taken = y;
        same = ap (λ (v : Lane). rows_found under a lane (row_found under a g.found v) (row + 1) (n - (row + 1))) p ∙ (rw q at g.same);
        few = omega (arith, g.few, y.rows, g.taken.rows, row_rows under a g.found l);
      }

  pub laning_ends : (t : List Float) (s : Swept) (row n : ℕ) → n ≤ row → Laning t s row n → Takes t₀ s₀ (rows_found under a lane (from s₀) 0 n) t s
  unfolding rows_found
  laning_ends t s row n h g =
      let q : n - row ≡ 0 = omega arith in
      let e : g.found ≡ rows_found under a lane (from s₀) 0 n = rw q at g.same in
      subst (λ (f : Found). Takes t₀ s₀ f t s) e g.taken

-- ---- a level, with what the code finds of it

module _ (p : Parameters) (axis : Axis) (r : Float) (l : Level) where
  pub coarse_rows : (s : Spread) (n : ℕ) → s ≡ spread_of axis r l → n ≡ intervals_of s p.stepover → Coarse p axis r l → n ≤ 65535
  unfolding Coarse
  coarse_rows s n e q h = rw (q, e) h.0

  pub coarse_samples : (row : ℕ) (lane : Lane) → lane ≡ lane_of p axis r l row → Coarse p axis r l → lane.samples ≤ 65535
  unfolding Coarse lane_of
  coarse_samples row lane e h = rw e h.1

  pub level_is : (under : Run → Float) (t₀ : List Float) (s₀ : Swept) (t : List Float) (s : Swept) (a : Aim) (b : Spread) (n : ℕ) → a ≡ aim_of p r l
      → b ≡ spread_of axis r l → n ≡ intervals_of b p.stepover
      → Takes t₀ s₀ (rows_found under a (lane_of p axis r l) (from s₀) 0 (n + 1)) t s → Takes t₀ s₀ (level_found under p axis r (from s₀) l) t s
  unfolding level_found
  level_is under t₀ s₀ t s a b n x y z e =
      let q : rows_found under a (lane_of p axis r l) (from s₀) 0 (n + 1) ≡ level_found under p axis r (from s₀) l = rw (x, z, y) in
      subst (λ (f : Found). Takes t₀ s₀ f t s) q e
