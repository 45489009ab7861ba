-- The box of a level, where the boxes of the box table are coordinates: its sides are coordinates. One may lie beyond its opposite, as it may in the table.
use mathlib.Core.Bool.{Bool, true}
use mathlib.Core.List.{List, [], ◌∷◌}
use mathlib.Core.Path.{◌≡◌}
use Prim.Native.Nat.{ℕ, zero, suc, ◌<◌}
use native.Mathlib.Omega.{arith}
use lib.Ieee.{Float}
use Rattle.numbers.specs.Reals.{◌⊕◌, min_of, max_of}
use Rattle.rules.proofs.Branches.{either}
use Rattle.plane.specs.Mesh.{triangle_of}
use Rattle.plane.specs.declared.Bounds.{Bounds}
use Rattle.plane.specs.declared.Triangle.{Triangle}
use Rattle.plane.specs.Ranges.{is_coordinate}
use Rattle.order.proofs.Extremes.{either_of, min_either}
use Rattle.grid.specs.Boxes.{box_at}
use Rattle.fives.specs.Groups.{grouping, grouped, Each}
use Rattle.fives.proofs.Grouping.{each_append}
use Rattle.sort.specs.Ranks.{before, insert, sorted_by}
use Rattle.levels.specs.Flats.{is_flat, flats_of}
use Rattle.levels.specs.Levels.{opened_by, joins_level, widened_by, levels_from, sorted_flats, levels_of}
use Rattle.levels.specs.declared.Level.{Level}

-- ---- of the flat triangles, sorted
module _ (P : ℕ → Type 0) where
  insert_each : (less : ℕ → ℕ → Bool) (i : ℕ) (js : List ℕ) → P i → Each P js → Each P (insert less i js)
  unfolding insert Each
  insert_each less i [] p a = (p, tt)
  insert_each less i (j ∷ js) p a = either (Each P) (less i j) (i ∷ j ∷ js) (j ∷ insert less i js) (λ _. (p, a)) (λ _. (a.0, insert_each less i js p a.1))

  sorted_each : (less : ℕ → ℕ → Bool) (is : List ℕ) → Each P is → Each P (sorted_by less is)
  unfolding sorted_by Each
  sorted_each less [] a = tt
  sorted_each less (i ∷ is) a = insert_each less i (sorted_by less is) a.0 (sorted_each less is a.1)

  flats_each : (mesh : List Float) (tolerance least : Float) (n : ℕ) → ((i : ℕ) → i < n → P i) → Each P (flats_of mesh tolerance least n)
  unfolding flats_of Each
  flats_each mesh tolerance least zero p = tt
  flats_each mesh tolerance least (suc n) p =
      each_append P (flats_of mesh tolerance least n) _ (flats_each mesh tolerance least n (λ i h. p i (omega arith)))
      (either (Each P) (is_flat (triangle_of mesh n) tolerance least) (n ∷ []) [] (λ _. (p n (omega arith), tt)) (λ _. tt))

-- ---- the two sides of a box on one axis
abbrev pub Side : Float → Float → Type 0
Side low high = (is_coordinate low ≡ true) × (is_coordinate high ≡ true)

side_grows : (a b c d : Float) → Side a b → Side c d → Side (min_of a c) (max_of b d)
side_grows a b c d p q =
    (min_either (λ v. is_coordinate v ≡ true) a c p.0 q.0, either_of (λ v. is_coordinate v ≡ true) b d p.1 q.1)

pub record Sided (b : Bounds) : Type 0 where
  pub x : Side b.low_x b.high_x
  pub y : Side b.low_y b.high_y

pub record Boxed (l : Level) : Type 0 where
  pub x : Side l.low_x l.high_x
  pub y : Side l.low_y l.high_y

opened_boxed : (t : Triangle) (b : Bounds) → Sided b → Boxed (opened_by t b)
unfolding opened_by
opened_boxed t b s = record { x = s.x; y = s.y }

widened_boxed : (l : Level) (b : Bounds) → Boxed l → Sided b → Boxed (widened_by l b)
unfolding widened_by
widened_boxed l b h s = record { x = side_grows _ _ _ _ h.x s.x; y = side_grows _ _ _ _ h.y s.y }

-- ---- the levels of a mesh with a box table
module _ (mesh boxes : List Float) (levelTolerance : Float) where
  abbrev Good : ℕ → Type 0
  Good i = Sided (box_at boxes i)

  abbrev opens : ℕ → Level
  opens i = opened_by (triangle_of mesh i) (box_at boxes i)

  from_boxed : (l : Level) (is : List ℕ) → Boxed l → Each Good is
      → Each Boxed (grouping (λ l i. joins_level levelTolerance l (triangle_of mesh i)) (λ l i. widened_by l (box_at boxes i)) opens l is)
  unfolding grouping Each
  from_boxed l [] b a = (b, tt)
  from_boxed l (i ∷ is) b a =
      either (Each Boxed) (joins_level levelTolerance l (triangle_of mesh i)) _ _
      (λ _. from_boxed (widened_by l (box_at boxes i)) is (widened_boxed l _ b a.0) a.1)
      (λ _. (b, from_boxed (opens i) is (opened_boxed _ _ a.0) a.1))

  all_boxed : (is : List ℕ) → Each Good is → Each Boxed (levels_from mesh boxes levelTolerance is)
  unfolding levels_from grouped Each
  all_boxed [] a = tt
  all_boxed (i ∷ is) a = from_boxed (opens i) is (opened_boxed _ _ a.0) a.1

  pub levels_boxed : (n : ℕ) (tolerance floor : Float) → ((i : ℕ) → i < n → Sided (box_at boxes i))
      → Each Boxed (levels_of mesh boxes n tolerance levelTolerance floor)
  unfolding levels_of sorted_flats
  levels_boxed n tolerance floor good = all_boxed _ (sorted_each Good (before mesh) _ (flats_each Good mesh tolerance (floor ⊕ levelTolerance) n good))
