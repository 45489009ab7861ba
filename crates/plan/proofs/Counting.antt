-- There are at most as many levels as triangles.
use mathlib.Core.Bool.{Bool}
use mathlib.Core.List.{List, [], ◌∷◌}
use Prim.Native.Nat.{ℕ, ◌+◌, ◌≤◌}
use native.Mathlib.Omega.{arith}
use lib.Ieee.{Float}
use lib.ListN.{length}
use Rattle.numbers.specs.Reals.{◌⊕◌}
use Rattle.rules.proofs.Branches.{either}
use Rattle.fives.specs.Groups.{grouping, grouped}
use Rattle.sort.specs.Ranks.{before}
use Rattle.sort.proofs.Orders.{sorted_length}
use Rattle.plane.specs.Mesh.{triangle_of}
use Rattle.levels.specs.Flats.{flats_of}
use Rattle.grid.specs.Boxes.{box_at}
use Rattle.levels.specs.Levels.{opened_by, joins_level, widened_by, levels_from, sorted_flats, levels_of}
use Rattle.levels.proofs.Gathering.{flats_few}

module _ {A B : Type 0} (joins : A → B → Bool) (add : A → B → A) (first : B → A) where
  grouping_few : (g : A) (bs : List B) → length (grouping joins add first g bs) ≤ length bs + 1
  unfolding grouping
  grouping_few g [] = omega arith
  grouping_few g (b ∷ bs) =
      let r = grouping_few (add g b) bs in
      let s = grouping_few (first b) bs in
      either (λ (gs : List A). length gs ≤ length (b ∷ bs) + 1) (joins g b) _ _ (λ _. omega arith) (λ _. omega arith)

  grouped_few : (bs : List B) → length (grouped joins add first bs) ≤ length bs
  unfolding grouped
  grouped_few [] = omega arith
  grouped_few (b ∷ bs) = let r = grouping_few (first b) bs in omega arith

pub levels_few : (mesh boxes : List Float) (n : ℕ) (tolerance levelTolerance floor : Float) → length (levels_of mesh boxes n tolerance levelTolerance floor) ≤ n
unfolding levels_of levels_from sorted_flats
levels_few mesh boxes n tolerance levelTolerance floor =
    let fs = flats_of mesh tolerance (floor ⊕ levelTolerance) n in
    let a = grouped_few (λ l i. joins_level levelTolerance l (triangle_of mesh i)) (λ l i. widened_by l (box_at boxes i))
    (λ i. opened_by (triangle_of mesh i) (box_at boxes i)) (sorted_flats mesh n tolerance levelTolerance floor) in
    let s = sorted_length (before mesh) fs in
    let b = flats_few mesh tolerance (floor ⊕ levelTolerance) n in
    omega arith
