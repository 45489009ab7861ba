-- What a sheet is answered, and that an accepted list is a tool for the section questions.
use Rattle.std.specs.Prelude.{Option, None, Some}
use mathlib.Core.Bool.{Bool, true, false, ◌&&◌}
use mathlib.Core.List.{List, [], ◌∷◌}
use mathlib.Core.Path.{◌≡◌, refl, ap, sym, ◌∙◌}
use Prim.Native.Nat.{ℕ, zero, suc, ◌+◌, ◌*◌, ◌/◌, ◌%◌, ◌≤◌, ◌<◌}
use native.Mathlib.Nat.{not-suc-le-zero}
use native.Mathlib.Omega.{arith}
use borrow.Author.Tests.{eq-eqb, ne_eqb, leb-true, le-leb, lt-leb}
use lib.Dec.{lit<}
use lib.Ieee.{Float}
use lib.ListN.{length, take}
use lib.Seq.{take_at}
use Rattle.rules.proofs.Branches.{taken, left, both_true, no}
use Rattle.section.specs.declared.Section.{Section}
use Rattle.section.specs.Section.{valid_section}
use Rattle.flatten.specs.Flat.{flat_of}
use Rattle.rules.specs.Every.{is_from, every}
use Rattle.rules.proofs.Ladder.{demand_here, demand_next, refused_not, demanded}
use Rattle.tool.specs.Tool.{section_of, is_tool}
use Rattle.sheet.specs.declared.Shape.{Shape}
use Rattle.sheet.specs.declared.Sheet.{Sheet}
use Rattle.sheet.specs.declared.Body.{Body}
use Rattle.sheet.specs.Sheet.{body_of, holders_from, listed, sections_of, all_valid, is_absent, refusal_of_list, refusal_of_end, refusal_of, ended, placed, sheet_of}
use Rattle.sheet.proofs.Lists.{flat_length, sections_length, sections_valid}

-- a sheet that passes every rung
pub record Accepted (b : Body) (hs : List Float) (room : ℕ) : Type 0 where
  pub covered : is_absent b.end ≡ false
  pub few : length (sections_of b hs) ≤ 32
  pub valid : all_valid (sections_of b hs) ≡ true
  pub fits : 4 * length (sections_of b hs) ≤ room

pub accepted : (p : Sheet) (b : Body) (hs : List Float) (room : ℕ) → refusal_of p b hs room ≡ 0 → Accepted b hs room
unfolding refusal_of refusal_of_end refusal_of_list
accepted p b hs room e =
    let one = demanded _ 1 _ (lit< tt) e in
    let two = demanded _ 2 _ (lit< tt) one.1 in
    let three = demanded _ 2 _ (lit< tt) two.1 in
    let four = refused_not _ 24 _ (lit< tt) three.1 in
    let five = demanded _ 8 _ (lit< tt) four.1 in
    let six = demanded _ 8 _ (lit< tt) five.1 in
    let seven = demanded _ 25 _ (lit< tt) six.1 in
    record { covered = four.0; few = leb-true _ _ five.0; valid = six.0; fits = leb-true _ _ seven.0 }

-- ---- which rung of the list's answers

module _ (b : Body) (hs : List Float) where
  abbrev below : Bool
  below = all_valid (listed b.end) && (all_valid (listed b.cut) && all_valid (listed b.neck))

  abbrev above : Bool
  above = all_valid (holders_from hs 0 (length hs / 4))

  pub body_bad : below ≡ false → all_valid (sections_of b hs) ≡ false
  body_bad e = sections_valid b hs ∙ ap (λ (r : Bool). r && above) e

  pub holders_bad : below ≡ true → above ≡ false → all_valid (sections_of b hs) ≡ false
  holders_bad e f = sections_valid b hs ∙ ap (λ (r : Bool). r && above) e ∙ f

  pub all_good : below ≡ true → above ≡ true → all_valid (sections_of b hs) ≡ true
  all_good e f = sections_valid b hs ∙ ap (λ (r : Bool). r && above) e ∙ f

module _ (ss : List Section) (room n : ℕ) (long : n ≡ length ss) where
  pub too_many : 32 < n → 8 ≡ refusal_of_list ss room
  unfolding refusal_of_list
  too_many h = demand_here _ 8 _ _ (rw (← long) (lt-leb n 32 h)) refl

  pub invalid : n ≤ 32 → all_valid ss ≡ false → 8 ≡ refusal_of_list ss room
  unfolding refusal_of_list
  invalid h v = demand_next _ 8 _ _ (rw (← long) (le-leb n 32 h)) (demand_here _ 8 _ _ v refl)

  pub no_room : n ≤ 32 → all_valid ss ≡ true → room < 4 * n → 25 ≡ refusal_of_list ss room
  unfolding refusal_of_list
  no_room h v r = demand_next _ 8 _ _ (rw (← long) (le-leb n 32 h)) (demand_next _ 8 _ _ v (demand_here _ 25 _ _ (rw (← long) (lt-leb (4 * n) room r)) refl))

  pub good_list : n ≤ 32 → all_valid ss ≡ true → 4 * n ≤ room → 0 ≡ refusal_of_list ss room
  unfolding refusal_of_list
  good_list h v r = demand_next _ 8 _ _ (rw (← long) (le-leb n 32 h)) (demand_next _ 8 _ _ v (demand_next _ 25 _ _ (rw (← long) (le-leb (4 * n) room r)) refl))

-- ---- the answer

module _ (shape : Shape) (enclose neck : Bool) (p : Sheet) (hs table : List Float) (b : Body) (k : ℕ) (body : b ≡ body_of shape enclose neck p)
    (says : k ≡ refusal_of p b hs (length table)) where
  same : k ≡ refusal_of p (body_of shape enclose neck p) hs (length table)
  same = says ∙ ap (λ (c : Body). refusal_of p c hs (length table)) body

  pub refused_is : (k ≡ 0 → ⊥) → ended (record { refusal = k; count = 0 }) table ≡ sheet_of shape enclose neck p hs table
  unfolding sheet_of
  refused_is h = left _ _ _ _ (ne_eqb _ 0 (λ z. h (same ∙ z))) (ap (λ (j : ℕ). ended (record { refusal = j; count = 0 }) table) same)

  pub accepted_is : k ≡ 0 → (n : ℕ) (t : List Float) → n ≡ length (sections_of b hs) → t ≡ placed (sections_of b hs) 0 table
      → ended (record { refusal = 0; count = n }) t ≡ sheet_of shape enclose neck p hs table
  unfolding sheet_of
  accepted_is z n t e f =
      taken _ _ _ _ (eq-eqb _ 0 (sym same ∙ z))
      (rw (e, f) (ap (λ (c : Body). ended (record { refusal = 0; count = length (sections_of c hs) }) (placed (sections_of c hs) 0 table)) body))

-- ---- a tool

every_all : (test : ℕ → Bool) (a n : ℕ) → ((i : ℕ) → i < n → test (a + i) ≡ true) → every test a n ≡ true
unfolding every
every_all test a zero f = refl
every_all test a (suc n) f =
    let e : test a ≡ true = (let z : a + 0 ≡ a = omega arith in rw z at (f 0 (omega arith))) in
    rw e (every_all test (a + 1) n (λ i h. let z : a + suc i ≡ a + 1 + i = omega arith in rw z at (f (suc i) (omega arith))))

section_later : (u v w x : Float) (l : List Float) (i : ℕ) → section_of (u ∷ v ∷ w ∷ x ∷ l) (suc i) ≡ section_of l i
unfolding section_of
section_later u v w x l i =
    let a : 4 * suc i ≡ suc (suc (suc (suc (4 * i)))) = omega arith in
    let b : 4 * suc i + 1 ≡ suc (suc (suc (suc (4 * i + 1)))) = omega arith in
    let c : 4 * suc i + 2 ≡ suc (suc (suc (suc (4 * i + 2)))) = omega arith in
    let d : 4 * suc i + 3 ≡ suc (suc (suc (suc (4 * i + 3)))) = omega arith in
    rw (d, c, b, a)

section_first : (s : Section) (l : List Float) → section_of (s.z0 ∷ s.r0 ∷ s.r1 ∷ s.rise ∷ l) 0 ≡ s
unfolding section_of
section_first s l = refl

valid_at : (ss : List Section) (i : ℕ) → all_valid ss ≡ true → i < length ss → valid_section (section_of (flat_of ss) i) ≡ true
unfolding all_valid flat_of
valid_at [] i e h = absurd (not-suc-le-zero h)
valid_at (s ∷ ss) zero e h = ap valid_section (section_first s (flat_of ss)) ∙ (both_true (valid_section s) (all_valid ss) e).0
valid_at (s ∷ ss) (suc i) e h =
    ap valid_section (section_later _ _ _ _ (flat_of ss) i) ∙ valid_at ss i (both_true (valid_section s) (all_valid ss) e).1 (omega arith)

flat_tool : (ss : List Section) → 1 ≤ length ss → length ss ≤ 32 → all_valid ss ≡ true → is_tool (flat_of ss) ≡ true
unfolding is_tool is_from
flat_tool ss h l v =
    let n : length (flat_of ss) / 4 ≡ length ss = omega (arith, flat_length ss) in
    let m : length (flat_of ss) % 4 ≡ 0 = omega (arith, flat_length ss) in
    rw (n, m, le-leb 1 (length ss) h, le-leb (length ss) 32 l) (every_all _ 0 (length ss) (λ i k. valid_at ss (0 + i) v (omega arith)))

covered_one : (q : Option Section) → is_absent q ≡ false → 1 ≤ length (listed q)
unfolding is_absent listed
covered_one None e = absurd (no (sym e))
covered_one (Some s) e = omega arith

pub accepted_tool : (p : Sheet) (b : Body) (hs table : List Float) → refusal_of p b hs (length table) ≡ 0
    → (n : ℕ) (t : List Float) → n ≡ length (sections_of b hs) → t ≡ placed (sections_of b hs) 0 table → is_tool (take (4 * n) t) ≡ true
unfolding placed
accepted_tool p b hs table z n t e f =
    let a = accepted p b hs (length table) z in
    let ss : List Section = sections_of b hs in
    let one : 1 ≤ length ss = omega (arith, sections_length b hs, covered_one b.end a.covered) in
    rw (e, f) (ap is_tool (take_at (flat_of ss) _ (4 * length ss) (flat_length ss)) ∙ flat_tool ss one a.few a.valid)
