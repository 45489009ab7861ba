-- The levels of a table taken one after the other: none is too fine, and each has at most 65,536 rows.
use mathlib.Core.Bool.{Bool, true, false, ◌||◌}
use mathlib.Core.List.{List}
use mathlib.Core.Path.{◌≡◌, refl, sym, ap, subst, ◌∙◌}
use Prim.Native.Nat.{ℕ, zero, suc, ◌+◌, ◌-◌, ◌*◌, ◌≤◌, ◌<◌}
use native.Mathlib.Omega.{arith}
use borrow.Author.Tests.{ltb-false}
use lib.Ieee.{Float}
use Rattle.levels.specs.declared.Level.{Level}
use Rattle.levels.specs.Inside.{level_in}
use Rattle.runs.specs.declared.Run.{Run}
use Rattle.rows.specs.declared.Axis.{Axis}
use Rattle.rows.specs.declared.Lane.{Lane}
use Rattle.rows.specs.Lanes.{spread_of, intervals_of}
use Rattle.parameters.specs.declared.Parameters.{Parameters}
use Rattle.parameters.specs.Terms.{any_of, too_fine}
use Rattle.parameters.specs.Inside.{levels_in}
use Rattle.parameters.proofs.Testing.{any_next}
use Rattle.probe.specs.declared.Aim.{Aim}
use Rattle.row_runs.specs.Search.{Found, row_found, rows_found, level_found, levels_found, aim_of, lane_of}
use Rattle.row_runs.specs.Inside.{Coarse}
use Rattle.search.specs.declared.Swept.{Swept}
use Rattle.search.specs.Inside.{from, Takes}
use Rattle.search.proofs.Finding.{level_behind, takes_none, takes_on}
use Rattle.search.proofs.Directing.{row_rows}

neither : (a b : Bool) → (a || b) ≡ false → (a ≡ false) × (b ≡ false)
neither true b e = (cc, cc)
neither false b e = (refl, e)

coarse_is : (p : Parameters) (axis : Axis) (r : Float) (l : Level) → too_fine p axis r l ≡ false → Coarse p axis r l
unfolding too_fine Coarse
coarse_is p axis r l e = let n = neither _ _ e in (ltb-false _ _ n.0, ltb-false _ _ n.1)

-- ---- how many rows a level has at most

rows_rows : (under : Run → Float) (a : Aim) (lane : ℕ → Lane) (n row : ℕ) (f : Found) → (rows_found under a lane f row n).rows ≤ f.rows + n
unfolding rows_found
rows_rows under a lane zero row f = omega arith
rows_rows under a lane (suc n) row f =
    omega (arith, rows_rows under a lane n (row + 1) (row_found under a f (lane row)), row_rows under a f (lane row))

module _ (under : Run → Float) (p : Parameters) (axis : Axis) (r : Float) where
  level_rows : (f : Found) (l : Level) → Coarse p axis r l → (level_found under p axis r f l).rows ≤ f.rows + 65536
  unfolding level_found Coarse
  level_rows f l h = omega (arith, h.0, rows_rows under (aim_of p r l) (lane_of p axis r l) (intervals_of (spread_of axis r l) p.stepover + 1) 0 f)

  -- ---- levels m, m + 1, .. of a table

  module _ (levels t₀ : List Float) (s₀ : Swept) where
    -- what is found so far is taken; what is left of n levels, found from there, gives what all give from the start; none that is left is too fine
    pub record Sweeping (t : List Float) (s : Swept) (m n : ℕ) : Type 0 where
      pub found : Found
      pub taken : Takes t₀ s₀ found t s
      pub same : levels_found under p axis r found (levels_in levels m (n - m)) ≡ levels_found under p axis r (from s₀) (levels_in levels 0 n)
      pub coarse : any_of (too_fine p axis r) (levels_in levels m (n - m)) ≡ false
      pub few : s.rows ≤ s₀.rows + m * 65536

    pub sweeping_starts : (n : ℕ) → any_of (too_fine p axis r) (levels_in levels 0 n) ≡ false → Sweeping t₀ s₀ 0 n
    sweeping_starts n h =
        let e : n - 0 ≡ n = omega arith in
        record { found = from s₀; taken = takes_none t₀ s₀; same = rw e; coarse = rw e h; few = omega arith }

    module _ (t : List Float) (s : Swept) (m n : ℕ) (l : Level) (h : m < n) (g : Sweeping t s m n) (e : l ≡ level_in levels m) where
      abbrev parted : (too_fine p axis r (level_in levels m) ≡ false) × (any_of (too_fine p axis r) (levels_in levels (m + 1) (n - (m + 1))) ≡ false)
      parted = neither _ _ (sym (any_next (too_fine p axis r) levels m n h) ∙ g.coarse)

      pub sweeping_coarse : Coarse p axis r l
      sweeping_coarse = coarse_is p axis r l (ap (too_fine p axis r) e ∙ parted.0)

      pub sweeping_goes : (t' : List Float) (s' : Swept) → Takes t s (level_found under p axis r (from s) l) t' s' → Sweeping t' s' (m + 1) n
      unfolding levels_in levels_found
      sweeping_goes t' s' x =
          let q : n - m ≡ suc (n - (m + 1)) = omega arith in
          let y = takes_on (λ (f : Found). level_found under p axis r f l) (level_behind under p axis r l) t₀ s₀ g.found t s t' s' g.taken x in
          record {
            found = level_found under p axis r g.found l;
            taken = y;
            same = ap (λ (v : Level). levels_found under p axis r (level_found under p axis r g.found v) (levels_in levels (m + 1) (n - (m + 1)))) e
                ∙ (rw q at g.same);
            coarse = parted.1;
            few = omega (arith, g.few, y.rows, g.taken.rows, level_rows g.found l sweeping_coarse);
          }

    pub sweeping_ends : (t : List Float) (s : Swept) (m n : ℕ) → n ≤ m → Sweeping t s m n
        → Takes t₀ s₀ (levels_found under p axis r (from s₀) (levels_in levels 0 n)) t s
    unfolding levels_in levels_found
    sweeping_ends t s m n h g =
        let q : n - m ≡ 0 = omega arith in
        let e : g.found ≡ levels_found under p axis r (from s₀) (levels_in levels 0 n) = rw q at g.same in
        subst (λ (f : Found). Takes t₀ s₀ f t s) e g.taken
