-- The extremes of a mesh: no triangle lies outside of them, and they are coordinates where all its numbers are.
use mathlib.Core.Bool.{true}
use mathlib.Core.List.{List}
use mathlib.Core.Logic.{⊎_elim}
use mathlib.Core.Path.{◌≡◌}
use Prim.Native.Nat.{ℕ, zero, suc, ◌+◌, ◌*◌, ◌≤◌, ◌<◌}
use native.Mathlib.Nat.{eq-or-lt_of_le}
use native.Mathlib.Omega.{arith}
use borrow.Author.Tests.{leb-true, le-leb}
use lib.Dec.{leb}
use lib.IntN.{ℤ}
use Rattle.rules.proofs.Branches.{both_true}
use Rattle.rules.specs.Every.{is_from}
use Rattle.micro.specs.Micro.{is_coordinate, number_at, low_at, high_at, box_of}
use Rattle.um.specs.declared.Extent.{Extent}
use Rattle.um.specs.Grid.{widened, extent_of}

pub coordinate_is : (k : ℕ) → is_coordinate k ≡ true → (1147483648 ≤ k) × (k ≤ 3147483648)
unfolding is_coordinate is_from
coordinate_is k e = let p = both_true (leb 1147483648 k) (leb k 3147483648) e in (leb-true _ _ p.0, leb-true _ _ p.1)

pub coordinate : (k : ℕ) → 1147483648 ≤ k → k ≤ 3147483648 → is_coordinate k ≡ true
unfolding is_coordinate is_from
coordinate k a b = rw (le-leb 1147483648 k a, le-leb k 3147483648 b)

module _ (mesh : List ℤ) where
  low_high : (k : ℕ) → low_at mesh k ≤ high_at mesh k
  unfolding low_at high_at
  low_high k = omega arith

  pub box_order : (i : ℕ) → ((box_of mesh i).low_x ≤ (box_of mesh i).high_x) × ((box_of mesh i).low_y ≤ (box_of mesh i).high_y)
  unfolding box_of
  box_order i = (low_high (9 * i), low_high (9 * i + 1))

  -- ---- each triangle lies within
  pub record Inside (e : Extent) (i : ℕ) : Type 0 where
    pub left : e.left ≤ (box_of mesh i).low_x
    pub right : (box_of mesh i).high_x ≤ e.right
    pub bottom : e.bottom ≤ (box_of mesh i).low_y
    pub top : (box_of mesh i).high_y ≤ e.top

  pub inside : (n i : ℕ) → i < n → Inside (extent_of mesh n) i
  unfolding extent_of widened
  inside zero i h = absurd (omega arith)
  inside (suc n) i h =
      ⊎_elim
      (λ e. here (e))
      (λ l. let r = inside n i (omega arith) in
      record { left = omega (arith, r.left); right = omega (arith, r.right); bottom = omega (arith, r.bottom); top = omega (arith, r.top) })
      (eq-or-lt_of_le h)
    where
      here : suc i ≡ suc n → Inside (widened (extent_of mesh n) (box_of mesh n)) i
      here e = let q : i ≡ n = omega arith in rw q (record { left = omega arith; right = omega arith; bottom = omega arith; top = omega arith })

  -- ---- and the extremes are coordinates
  abbrev Good : ℕ → Type 0
  Good n = (k : ℕ) → k < n → is_coordinate (number_at mesh k) ≡ true

  axis : (n k : ℕ) → Good n → k + 6 < n → (1147483648 ≤ low_at mesh k) × (high_at mesh k ≤ 3147483648)
  unfolding low_at high_at
  axis n k g h =
      let a = coordinate_is _ (g k (omega arith)) in
      let b = coordinate_is _ (g (k + 3) (omega arith)) in
      let c = coordinate_is _ (g (k + 6) (omega arith)) in
      (omega (arith, a, b, c), omega (arith, a, b, c))

  pub record Ranged (e : Extent) : Type 0 where
    pub left : 1147483648 ≤ e.left
    pub right : e.right ≤ 3147483648
    pub bottom : 1147483648 ≤ e.bottom
    pub top : e.top ≤ 3147483648

  pub ranged : (n : ℕ) → Good (n * 9) → Ranged (extent_of mesh n)
  unfolding extent_of widened box_of
  ranged zero g = record { left = omega arith; right = omega arith; bottom = omega arith; top = omega arith }
  ranged (suc n) g =
      let r = ranged n (λ k h. g k (omega arith)) in
      let x = axis (suc n * 9) (9 * n) g (omega arith) in
      let y = axis (suc n * 9) (9 * n + 1) g (omega arith) in
      record { left = omega (arith, r.left, x); right = omega (arith, r.right, x); bottom = omega (arith, r.bottom, y); top = omega (arith, r.top, y) }

-- what the code asks of extremes
pub record Whole (e : Extent) : Type 0 where
  pub across : e.left ≤ e.right
  pub upward : e.bottom ≤ e.top
  pub right : e.right < 4294967296
  pub top : e.top < 4294967296

pub whole : (mesh : List ℤ) (n : ℕ) → 0 < n → ((k : ℕ) → k < n * 9 → is_coordinate (number_at mesh k) ≡ true) → Whole (extent_of mesh n)
whole mesh n h g =
    let i = inside mesh n 0 h in
    let o = box_order mesh 0 in
    let r = ranged mesh n g in
    record {
      across = omega (arith, i.left, i.right, o);
      upward = omega (arith, i.bottom, i.top, o);
      right = omega (arith, r.right);
      top = omega (arith, r.top);
    }
