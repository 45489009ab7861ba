-- What the builder leaves, refused and accepted; and that a header in its ranges fits the arrays of C.
use mathlib.Core.Bool.{Bool, true, ◌&&◌}
use mathlib.Core.List.{List, [], ◌∷◌}
use mathlib.Core.Path.{◌≡◌, refl, sym, ap, ◌∙◌}
use Prim.Native.Nat.{ℕ, ◌*◌, ◌^◌, ◌<◌}
use native.Mathlib.Omega.{arith}
use borrow.Author.Tests.{eq-eqb, ne_eqb}
use lib.Dec.{eqb}
use lib.Ieee.{Float, lt, le}
use Rattle.numbers.specs.Reals.{f0, millionth, two_million, two_millionths}
use Rattle.rules.proofs.Branches.{taken, left, both_true}
use Rattle.rules.specs.Every.{is_from}
use Rattle.plane.specs.Ranges.{is_coordinate, is_radius}
use Rattle.grid.specs.declared.Header.{Header}
use Rattle.grid.specs.Header.{in_ranges}
use Rattle.std.specs.Prelude.{Result, Ok, Err, ◌/◌, ◌%◌}
use Rattle.refusals.specs.declared.Refusal.{Refusal}
use Rattle.refusals.specs.Numbers.{number_of, told_of}
use Rattle.refusals.proofs.Named.{not_zero}
use Rattle.grid.specs.Index.{Index, index_of, BuildPromise}
use Rattle.grid.specs.Build.{Outcome, outcome, told, refused_by, accepted_with}
use Rattle.header.proofs.Ands.{from_is}
use Rattle.handed.specs.Handed.{measures_of, sizes_of}
use Rattle.desk.specs.Doors.{BuiltLeft, built_left, built_left_by}

pub record Narrow (h : Header) : Type 0 where
  pub n : h.n < 2 ^ 32
  pub columns : h.columns < 2 ^ 32
  pub rows : h.rows < 2 ^ 32

fits : (k : ℕ) → is_from 1 65536 k ≡ true → k < 2 ^ 32
fits k e = let most = (from_is 1 65536 k e).1 in omega (arith, most)

pub narrow : (h : Header) → in_ranges h ≡ true → Narrow h
unfolding in_ranges
narrow h e =
    let i : Bool = is_from 1 1048576 (h.rows * h.columns) && ((lt f0 h.eps && le h.eps two_millionths) && is_radius h.r) in
    let g : Bool = is_from 1 65536 h.rows && i in
    let f : Bool = (le millionth h.cell && le h.cell two_million) && (is_from 1 65536 h.columns && g) in
    let a = both_true (is_from 1 65536 h.n) (is_coordinate h.origin_x && (is_coordinate h.origin_y && (is_coordinate h.floor && f))) e in
    let b = both_true (is_coordinate h.origin_x) (is_coordinate h.origin_y && (is_coordinate h.floor && f)) a.1 in
    let c = both_true (is_coordinate h.floor) f (both_true (is_coordinate h.origin_y) (is_coordinate h.floor && f) b.1).1 in
    let d = both_true (is_from 1 65536 h.columns) g
    (both_true (le millionth h.cell && le h.cell two_million) (is_from 1 65536 h.columns && g) c.1).1 in
    let k = both_true (is_from 1 65536 h.rows) i d.1 in
    record { n = fits h.n a.0; columns = fits h.columns d.0; rows = fits h.rows k.0 }

-- what stands in C's arrays with these measures and sizes
abbrev left_with : Outcome → List Float → List ℕ → BuiltLeft
left_with o fs ns = built_left o.built.refusal o.starts o.members o.boxes fs ns (o.built.triangle ∷ o.built.number ∷ [])

abbrev zeros : Outcome → BuiltLeft
zeros o = left_with o (f0 ∷ f0 ∷ f0 ∷ f0 ∷ f0 ∷ f0 ∷ []) (0 ∷ 0 ∷ 0 ∷ [])

abbrev header : Outcome → BuiltLeft
header o = left_with o (measures_of o.built.header) (sizes_of o.built.header)

pub refused_left : (o : Outcome) → (o.built.refusal ≡ 0 → ⊥) → zeros o ≡ built_left_by o
unfolding built_left_by
refused_left o some = left (eqb o.built.refusal 0) (zeros o) (header o) (zeros o) (ne_eqb _ 0 some) refl

pub accepted_left : (o : Outcome) → o.built.refusal ≡ 0 → header o ≡ built_left_by o
unfolding built_left_by
accepted_left o none = taken (eqb o.built.refusal 0) (header o) (header o) (zeros o) (eq-eqb _ 0 none) refl

-- the same, by the library's answer
module _ (s m : List ℕ) (x : List Float) (o : Outcome) where
  pub err_left : (e : Refusal) → outcome (told (Err e)) s m x ≡ o → (k t : ℕ) → k ≡ number_of e → t ≡ told_of e
      → built_left k s m x (f0 ∷ f0 ∷ f0 ∷ f0 ∷ f0 ∷ f0 ∷ []) (0 ∷ 0 ∷ 0 ∷ []) (t / 9 ∷ t % 9 ∷ []) ≡ built_left_by o
  unfolding told refused_by
  err_left e l k t u v = rw (u, v) (refused_left (outcome (told (Err e)) s m x) (not_zero e) ∙ ap built_left_by l)

  pub ok_left : (h : Header) → outcome (told (Ok h)) s m x ≡ o → built_left 0 s m x (measures_of h) (sizes_of h) (0 ∷ 0 ∷ []) ≡ built_left_by o
  unfolding told accepted_with
  ok_left h l = accepted_left (outcome (told (Ok h)) s m x) refl ∙ ap built_left_by l

pub err_promise : (ix : Index) (e : Refusal) (k : ℕ) → k ≡ number_of e → BuildPromise ix k
err_promise ix e k u = record { sound = λ z. absurd (not_zero e (sym u ∙ z)); built = λ z. absurd (not_zero e (sym u ∙ z)) }

-- a header without a refusal fits the arrays of C
pub fitting : (mesh : List Float) (h : Header) (s m : List ℕ) (x : List Float)
    → BuildPromise (index_of mesh (told (Ok h)).header s m x) (told (Ok h)).refusal → Narrow h
unfolding told accepted_with
fitting mesh h s m x p = narrow h (p.sound refl).ranges
