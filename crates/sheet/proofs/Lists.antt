-- Lists of sections: how long, all valid, and in a table one list behind the other.
use Rattle.std.specs.Prelude.{Option, None, Some}
use mathlib.Core.Bool.{Bool, true, false, ◌&&◌}
use mathlib.Core.List.{List, [], ◌∷◌, ◌++◌, append_assoc, append-nil}
use mathlib.Core.Path.{◌≡◌, refl, ap, sym, ◌∙◌}
use Prim.Native.Nat.{ℕ, zero, suc, ◌+◌, ◌*◌, ◌/◌, ◌≤◌}
use native.Mathlib.Nat.{add-zero, zero-add}
use native.Mathlib.Numerals.{add-one, add-two, add-three}
use native.Mathlib.Omega.{arith}
use lib.Ieee.{Float}
use lib.ListN.{length, set, take, drop, length-append, length-take, length-drop, take-append-drop}
use lib.Seq.{sets-eq, take_at, drop-append-add, drop-drop}
use Rattle.section.specs.declared.Section.{Section}
use Rattle.section.specs.Section.{valid_section}
use Rattle.flatten.specs.Flat.{four, flat_of}
use Rattle.sheet.specs.declared.Body.{Body}
use Rattle.sheet.specs.Sheet.{holder_at, holders_from, listed, sections_of, all_valid, placed}

pub flat_length : (ss : List Section) → length (flat_of ss) ≡ 4 * length ss
unfolding flat_of
flat_length [] = refl
flat_length (s ∷ ss) = omega (arith, flat_length ss)

flat_append : (fs bs : List Section) → flat_of (fs ++ bs) ≡ flat_of fs ++ flat_of bs
unfolding flat_of
flat_append [] bs = refl
flat_append (s ∷ fs) bs = ap (λ (l : List Float). four s ++ l) (flat_append fs bs)

and_assoc : (a b c : Bool) → (a && (b && c)) ≡ ((a && b) && c)
and_assoc true b c = refl
and_assoc false b c = refl

valid_append : (fs bs : List Section) → all_valid (fs ++ bs) ≡ (all_valid fs && all_valid bs)
unfolding all_valid
valid_append [] bs = refl
valid_append (s ∷ fs) bs = ap (λ (b : Bool). valid_section s && b) (valid_append fs bs) ∙ and_assoc (valid_section s) (all_valid fs) (all_valid bs)

and_true : (a : Bool) → (a && true) ≡ a
and_true true = refl
and_true false = refl

pub valid_one : (q : Option Section) (s : Section) → q ≡ Some s → valid_section s ≡ all_valid (listed q)
unfolding all_valid listed
valid_one q s e = rw e (sym (and_true (valid_section s)))

-- ---- holders

pub holders_length : (hs : List Float) (i n : ℕ) → length (holders_from hs i n) ≡ n
unfolding holders_from
holders_length hs i zero = refl
holders_length hs i (suc n) = ap suc (holders_length hs (i + 1) n)

holders_more : (hs : List Float) (i n : ℕ) → holders_from hs i (suc n) ≡ holders_from hs i n ++ (holder_at hs (i + n) ∷ [])
unfolding holders_from
holders_more hs i zero = rw add-zero
holders_more hs i (suc n) =
    let e : i + suc n ≡ i + 1 + n = omega arith in
    rw e (ap (λ (l : List Section). holder_at hs i ∷ l) (holders_more hs (i + 1) n))

-- ---- the whole list

pub sections_length : (b : Body) (hs : List Float)
    → length (sections_of b hs) ≡ length (listed b.end) + (length (listed b.cut) + (length (listed b.neck) + length hs / 4))
unfolding sections_of
sections_length b hs = simp (length-append, holders_length)

pub sections_valid : (b : Body) (hs : List Float) → all_valid (sections_of b hs)
    ≡ ((all_valid (listed b.end) && (all_valid (listed b.cut) && all_valid (listed b.neck))) && all_valid (holders_from hs 0 (length hs / 4)))
unfolding sections_of
sections_valid b hs =
    let h : List Section = holders_from hs 0 (length hs / 4) in
    let e : Bool = all_valid (listed b.end) in
    let c : Bool = all_valid (listed b.cut) in
    let n : Bool = all_valid (listed b.neck) in
    valid_append (listed b.end) _
    ∙ ap (λ (r : Bool). e && r) (valid_append (listed b.cut) _ ∙ ap (λ (r : Bool). c && r) (valid_append (listed b.neck) h) ∙ and_assoc c n (all_valid h))
    ∙ and_assoc e (c && n) (all_valid h)

-- ---- in a table

pub placed_none : (at : ℕ) (table : List Float) → table ≡ placed [] at table
unfolding placed flat_of
placed_none at table = rw add-zero
    (sym (ap (λ (l : List Float). l ++ drop (4 * at) table) (append-nil (take (4 * at) table)) ∙ take-append-drop (4 * at) table))

pub placed_one : (table : List Float) (at : ℕ) (s : Section) → 4 * (at + 1) ≤ length table
    → set (set (set (set table (4 * at) s.z0) (4 * at + 1) s.r0) (4 * at + 2) s.r1) (4 * at + 3) s.rise ≡ placed (s ∷ []) at table
unfolding placed flat_of
placed_one table at s h =
    let e : 4 * at + 4 ≡ 4 * (at + 1) = omega arith in
    rw (add-one (4 * at), add-two (4 * at), add-three (4 * at)) (sets-eq (four s) table (4 * at) (omega arith)
    ∙ ap (λ (k : ℕ). take (4 * at) table ++ four s ++ drop k table) e)

module _ (fs : List Section) (at : ℕ) (table : List Float) (h : 4 * (at + length fs) ≤ length table) where
  front : length (take (4 * at) table ++ flat_of fs) ≡ 4 * (at + length fs)
  front = simp (length-append, length-take, flat_length) (omega arith)

  pub placed_length : length (placed fs at table) ≡ length table
  unfolding placed
  placed_length = rw (
    length-append (take (4 * at) table ++ flat_of fs) (drop (4 * (at + length fs)) table),
    front,
    length-drop (4 * (at + length fs)) table,
  ) (omega arith)

  behind : (bs : List Section) → drop (4 * (at + length fs + length bs)) (placed fs at table) ≡ drop (4 * (at + length (fs ++ bs))) table
  unfolding placed
  behind bs =
      let p : List Float = take (4 * at) table ++ flat_of fs in
      let e : 4 * (at + length fs + length bs) ≡ length p + 4 * length bs = omega (arith, front) in
      let f : 4 * (at + length fs) + 4 * length bs ≡ 4 * (at + length (fs ++ bs)) = omega (arith, length-append fs bs) in
      ap (λ (k : ℕ). drop k (placed fs at table)) e ∙ drop-append-add p _ (4 * length bs)
      ∙ drop-drop (4 * length bs) (4 * (at + length fs)) table ∙ ap (λ (k : ℕ). drop k table) f

  -- one list behind the other is both in one
  placed_more : (bs : List Section) → placed bs (at + length fs) (placed fs at table) ≡ placed (fs ++ bs) at table
  unfolding placed
  placed_more bs =
      let p : List Float = take (4 * at) table ++ flat_of fs in
      ap (λ (l : List Float). l ++ flat_of bs ++ drop (4 * (at + length fs + length bs)) (placed fs at table)) (take_at p _ (4 * (at + length fs)) front)
      ∙ ap (λ (l : List Float). p ++ flat_of bs ++ l) (behind bs)
      ∙ ap (λ (l : List Float). l ++ drop (4 * (at + length (fs ++ bs))) table) (append_assoc (take (4 * at) table) (flat_of fs) (flat_of bs)
      ∙ ap (λ (l : List Float). take (4 * at) table ++ l) (sym (flat_append fs bs)))

  pub placed_then : (bs : List Section) (k : ℕ) (t u : List Float) → k ≡ at + length fs → t ≡ placed fs at table → u ≡ placed bs k t
      → u ≡ placed (fs ++ bs) at table
  placed_then bs k t u n p q = rw (n, p) at q ∙ placed_more bs

-- a part's section, or none
pub none_put : (q : Option Section) (at : ℕ) (table : List Float) → q ≡ None → (at ≡ at + length (listed q)) × (table ≡ placed (listed q) at table)
unfolding listed
none_put q at table e = rw e (sym (add-zero at), placed_none at table)

pub one_long : (q : Option Section) (s : Section) → q ≡ Some s → length (listed q) ≡ 1
unfolding listed
one_long q s e = rw e

pub one_put : (q : Option Section) (s : Section) (at : ℕ) (table t : List Float) → q ≡ Some s → t ≡ placed (s ∷ []) at table
    → (at + 1 ≡ at + length (listed q)) × (t ≡ placed (listed q) at table)
unfolding listed
one_put q s at table t e f = rw e (refl, f)

-- one holder more
pub holder_placed : (hs : List Float) (i at : ℕ) (t₀ t u : List Float) (s : Section) → 4 * (at + i) ≤ length t₀
    → t ≡ placed (holders_from hs 0 i) at t₀ → s ≡ holder_at hs i → u ≡ placed (s ∷ []) (at + i) t → u ≡ placed (holders_from hs 0 (i + 1)) at t₀
holder_placed hs i at t₀ t u s h p q r =
    let fs : List Section = holders_from hs 0 i in
    let n : length fs ≡ i = holders_length hs 0 i in
    let z : holders_from hs 0 (suc i) ≡ fs ++ (holder_at hs i ∷ []) = rw zero-add at (holders_more hs 0 i) in
    rw (add-one i, z) (placed_then fs at t₀ (omega arith) (holder_at hs i ∷ []) (at + i) t u (omega arith) p (rw q at r))
