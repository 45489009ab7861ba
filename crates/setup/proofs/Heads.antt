-- A header in its ranges, and one whose n is the mesh's, with room in starts.
use mathlib.Core.Bool.{Bool, true, false, ◌&&◌}
use mathlib.Core.List.{List}
use mathlib.Core.Path.{◌≡◌, refl, ◌∙◌}
use Prim.Native.Nat.{ℕ, ◌+◌, ◌*◌, ◌^◌, ◌≤◌, ◌<◌}
use native.Mathlib.Nat.{mul-le-mul}
use native.Mathlib.Omega.{arith}
use borrow.Author.Tests.{eqb-true, leb-true}
use lib.Dec.{eqb, leb}
use lib.IntN.{ℤ}
use lib.ListN.{length}
use lib.Pow.{pow_pos}
use Rattle.rules.proofs.Branches.{both_true, no}
use Rattle.fields.specs.Rows.{somewhere}
use Rattle.std.specs.Prelude.{Option, None, Some}
use Rattle.rules.specs.Every.{is_from}
use Rattle.micro.specs.Micro.{is_coordinate, is_radius, first_where}
use Rattle.um.specs.declared.Header.{Header}
use Rattle.um.specs.Build.{is_power, in_ranges}
use Rattle.um.proofs.Places.{found}
use Rattle.um.proofs.Extents.{coordinate_is}
use Rattle.setup.specs.Answer.{head_usable}
use Rattle.setup.specs.Inside.{places_in, counts_in}

and_assoc : (a b c : Bool) → ((a && b) && c) ≡ (a && (b && c))
and_assoc true b c = refl
and_assoc false b c = refl

pub ranges_are : (h : Header) (a : Bool)
    → a ≡ (is_from 1 65536 h.n && (places_in h.x h.y h.floor h.r && (counts_in h.columns h.rows && is_power h.cell))) → a ≡ in_ranges h
unfolding in_ranges places_in counts_in
ranges_are h a e = e ∙ (simp and_assoc)

pub from_is : (a e k : ℕ) → is_from a e k ≡ true → (a ≤ k) × (k ≤ e)
unfolding is_from
from_is a e k t = let p = both_true (leb a k) (leb k e) t in (leb-true _ _ p.0, leb-true _ _ p.1)

pub few_cells : (columns rows : ℕ) → is_from 1 65536 columns ≡ true → is_from 1 65536 rows ≡ true → rows * columns ≤ 65536 * 65536
few_cells columns rows c r = mul-le-mul (from_is 1 65536 rows r).1 (from_is 1 65536 columns c).1

power_at : (cell : ℕ) (p : Option ℕ) → first_where (λ k. eqb (2 ^ k) cell) 0 32 ≡ p → somewhere p ≡ true → 0 < cell
unfolding somewhere
power_at cell None q e = absurd (no e)
power_at cell (Some k) q e = let z = eqb-true (2 ^ k) cell (found (λ k. eqb (2 ^ k) cell) 0 32 k q).passes in rw (← z) (pow_pos k)

power_positive : (cell : ℕ) → is_power cell ≡ true → 0 < cell
unfolding is_power
power_positive cell e = power_at cell _ refl e

pub record Ranged (h : Header) : Type 0 where
  pub few : h.n ≤ 65536
  pub x : h.x < 4294967296
  pub y : h.y < 4294967296
  pub floor : h.floor < 4294967296
  pub cells : h.rows * h.columns ≤ 1048576
  pub cell : 0 < h.cell

pub in-ranges-is : (h : Header) → in_ranges h ≡ true → Ranged h
unfolding in_ranges
in-ranges-is h e =
    let p : Bool = is_power h.cell in
    let l : Bool = is_from 1 1048576 (h.rows * h.columns) && p in
    let k : Bool = is_from 1 65536 h.rows && l in
    let j : Bool = is_from 1 65536 h.columns && k in
    let i : Bool = is_radius h.r && j in
    let a = both_true (is_from 1 65536 h.n) (is_coordinate h.x && (is_coordinate h.y && (is_coordinate h.floor && i))) e in
    let b = both_true (is_coordinate h.x) (is_coordinate h.y && (is_coordinate h.floor && i)) a.1 in
    let c = both_true (is_coordinate h.y) (is_coordinate h.floor && i) b.1 in
    let d = both_true (is_coordinate h.floor) i c.1 in
    let m = both_true (is_radius h.r) j d.1 in
    let n = both_true (is_from 1 65536 h.rows) l (both_true (is_from 1 65536 h.columns) k m.1).1 in
    let o = both_true (is_from 1 1048576 (h.rows * h.columns)) p n.1 in
    record {
      few = (from_is 1 65536 h.n a.0).1;
      x = omega (arith, (coordinate_is h.x b.0).1);
      y = omega (arith, (coordinate_is h.y c.0).1);
      floor = omega (arith, (coordinate_is h.floor d.0).1);
      cells = (from_is 1 1048576 (h.rows * h.columns) o.0).1;
      cell = power_positive h.cell o.1;
    }

pub record Headed (mesh : List ℤ) (h : Header) (starts : List ℕ) : Type 0 where
  pub ranged : Ranged h
  pub nine : length mesh ≡ h.n * 9
  pub room : h.rows * h.columns + 1 ≤ length starts

pub headed_is : (mesh : List ℤ) (h : Header) (starts : List ℕ) → head_usable mesh h starts ≡ true → Headed mesh h starts
unfolding head_usable
headed_is mesh h starts e =
    let room : Bool = leb (h.rows * h.columns + 1) (length starts) in
    let a = both_true (in_ranges h) (eqb (length mesh) (h.n * 9) && room) e in
    let b = both_true (eqb (length mesh) (h.n * 9)) room a.1 in
    record { ranged = in-ranges-is h a.0; nine = eqb-true _ _ b.0; room = leb-true _ _ b.1 }
