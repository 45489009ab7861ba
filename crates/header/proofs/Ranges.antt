-- The header's ranges, group by group, and what a header in its ranges is.
use mathlib.Core.Bool.{Bool, true, ◌&&◌}
use mathlib.Core.List.{List}
use mathlib.Core.Path.{◌≡◌, ap, ◌∙◌}
use Prim.Native.Nat.{ℕ, ◌+◌, ◌*◌, ◌≤◌}
use native.Mathlib.Nat.{mul-le-mul}
use borrow.Author.Tests.{eqb-true, leb-true}
use lib.Dec.{eqb, leb}
use lib.Ieee.{Float, lt, le}
use lib.ListN.{length}
use Rattle.numbers.specs.Reals.{f0, millionth, two_million, two_millionths}
use Rattle.rules.proofs.Branches.{both_true}
use Rattle.rules.specs.Every.{is_from}
use Rattle.plane.specs.Ranges.{is_coordinate, is_radius}
use Rattle.grid.specs.declared.Header.{Header}
use Rattle.grid.specs.Header.{in_ranges}
use Rattle.header.specs.Head.{head_usable, sizes_in_ranges}
use Rattle.header.proofs.Ands.{three, from_is}

pub sizes_are : (cell : Float) (columns rows : ℕ) (eps r : Float) (a : Bool) → a ≡ ((le millionth cell && le cell two_million)
    && ((is_from 1 65536 columns && (is_from 1 65536 rows && is_from 1 1048576 (rows * columns))) && ((lt f0 eps && le eps two_millionths) && is_radius r)))
    → a ≡ sizes_in_ranges cell columns rows eps r
unfolding sizes_in_ranges
sizes_are cell columns rows eps r a e =
    e ∙ ap (λ (b : Bool). (le millionth cell && le cell two_million) && b)
    (three (is_from 1 65536 columns) (is_from 1 65536 rows) (is_from 1 1048576 (rows * columns)) ((lt f0 eps && le eps two_millionths) && is_radius r))

pub ranges_are : (h : Header) (a : Bool) → a ≡ (is_from 1 65536 h.n && ((is_coordinate h.origin_x
    && (is_coordinate h.origin_y && is_coordinate h.floor)) && sizes_in_ranges h.cell h.columns h.rows h.eps h.r)) → a ≡ in_ranges h
unfolding in_ranges sizes_in_ranges
ranges_are h a e = e ∙ ap (λ (b : Bool). is_from 1 65536 h.n && b) (three (is_coordinate h.origin_x) (is_coordinate h.origin_y)
    (is_coordinate h.floor) (sizes_in_ranges h.cell h.columns h.rows h.eps h.r))

pub few_cells : (columns rows : ℕ) → is_from 1 65536 columns ≡ true → is_from 1 65536 rows ≡ true → rows * columns ≤ 65536 * 65536
few_cells columns rows c r = mul-le-mul (from_is 1 65536 rows r).1 (from_is 1 65536 columns c).1

-- a header in its ranges
pub record Ranged (h : Header) : Type 0 where
  pub few : h.n ≤ 65536
  pub floor : is_coordinate h.floor ≡ true
  pub cells : h.rows * h.columns ≤ 1048576

pub in-ranges-is : (h : Header) → in_ranges h ≡ true → Ranged h
unfolding in_ranges
in-ranges-is h e =
    let i : Bool = (lt f0 h.eps && le h.eps two_millionths) && is_radius h.r in
    let g : Bool = is_from 1 65536 h.rows && (is_from 1 1048576 (h.rows * h.columns) && i) in
    let f : Bool = (le millionth h.cell && le h.cell two_million) && (is_from 1 65536 h.columns && g) in
    let a = both_true (is_from 1 65536 h.n) (is_coordinate h.origin_x && (is_coordinate h.origin_y && (is_coordinate h.floor && f))) e in
    let b = both_true (is_coordinate h.origin_x) (is_coordinate h.origin_y && (is_coordinate h.floor && f)) a.1 in
    let c = both_true (is_coordinate h.floor) f (both_true (is_coordinate h.origin_y) (is_coordinate h.floor && f) b.1).1 in
    let d = both_true (is_from 1 65536 h.columns) g
    (both_true (le millionth h.cell && le h.cell two_million) (is_from 1 65536 h.columns && g) c.1).1 in
    let k = both_true (is_from 1 1048576 (h.rows * h.columns)) i
    (both_true (is_from 1 65536 h.rows) (is_from 1 1048576 (h.rows * h.columns) && i) d.1).1 in
    record { few = (from_is 1 65536 h.n a.0).1; floor = c.0; cells = (from_is 1 1048576 (h.rows * h.columns) k.0).1 }

-- and one whose n is the mesh's, with room in starts
pub record Headed (mesh : List Float) (h : Header) (starts : List ℕ) : Type 0 where
  pub ranged : Ranged h
  pub nine : length mesh ≡ h.n * 9
  pub room : h.rows * h.columns + 1 ≤ length starts

pub headed_is : (mesh : List Float) (h : Header) (starts : List ℕ) → head_usable mesh h starts ≡ true → Headed mesh h starts
unfolding head_usable
headed_is mesh h starts e =
    let room : Bool = leb (h.rows * h.columns + 1) (length starts) in
    let a = both_true (in_ranges h) (eqb (length mesh) (h.n * 9) && room) e in
    let b = both_true (eqb (length mesh) (h.n * 9)) room a.1 in
    record { ranged = in-ranges-is h a.0; nine = eqb-true _ _ b.0; room = leb-true _ _ b.1 }
