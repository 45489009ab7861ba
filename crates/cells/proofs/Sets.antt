-- Sets of cells as numbers: 1 inside, 0 outside. Two sets without a common cell join by adding, so that one equation serves counting, placing and area.
use mathlib.Core.Bool.{Bool, true, false, ◌&&◌}
use mathlib.Core.Path.{◌≡◌, refl, sym, ◌∙◌}
use Prim.Native.Nat.{ℕ, ◌+◌, ◌*◌, ◌/◌, ◌%◌, ◌≤◌, ◌<◌, max}
use native.Mathlib.Nat.{div-add-mod', mod-lt, mul-le-mul_right, add-mul}
use native.Mathlib.Omega.{arith}
use borrow.Author.Tests.{lt-ltb, le-ltb, le-leb, lt-leb, eq-eqb, ne_eqb, ltb-true, ltb-false}
use lib.Dec.{leb, ltb, eqb}
use Rattle.rules.proofs.Branches.{by_test}
use Rattle.cells.specs.declared.Cells.{Cells}
use Rattle.rules.specs.Every.{is_from, weight}
use Rattle.cells.specs.Cover.{covers}
use Rattle.cells.specs.Inside.{Set, between}

-- ---- by cases
pub by_lt : {P : Type 0} (a b : ℕ) → (a < b → P) → (b ≤ a → P) → P
by_lt {P} a b f g = go (ltb a b) (λ e. f (ltb-true a b e)) (λ e. g (ltb-false a b e))
  where
    go : (t : Bool) → (t ≡ true → P) → (t ≡ false → P) → P
    go true x y = x refl
    go false x y = y refl

pub weight_on : (b : Bool) → b ≡ true → weight b ≡ 1
weight_on b e = rw e

pub weight_off : (b : Bool) → b ≡ false → weight b ≡ 0
weight_off b e = rw e

pub weight_le : (b : Bool) → weight b ≤ 1
weight_le true = omega arith
weight_le false = omega arith

pub on_of_weight : (b : Bool) → 0 < weight b → b ≡ true
on_of_weight true h = refl
on_of_weight false h = absurd (omega arith)

pub weight_up : (x a b : ℕ) → x ≡ a + b → b ≡ 1 → 0 < x
weight_up x a b e f = omega arith

both_on : (a b : Bool) → a ≡ true → b ≡ true → (a && b) ≡ true
both_on a b e f = rw (e, f)

off_left : (a b : Bool) → a ≡ false → (a && b) ≡ false
off_left a b e = rw e

pub off_right : (a b : Bool) → b ≡ false → (a && b) ≡ false
off_right true b e = e
off_right false b e = refl

-- ---- the cells from a up to e
module _ (a e c : ℕ) where
  pub in_between : a ≤ c → c < e → weight (between a e c) ≡ 1
  unfolding between
  in_between h k = weight_on _ (both_on _ _ (le-leb a c h) (lt-ltb c e k))

  pub under_between : c < a → weight (between a e c) ≡ 0
  unfolding between
  under_between h = weight_off _ (off_left _ _ (lt-leb a c h))

  pub over_between : e ≤ c → weight (between a e c) ≡ 0
  unfolding between
  over_between h = weight_off _ (off_right (leb a c) _ (le-ltb c e h))

pub between_on : (a e c : ℕ) → a ≤ c → c < e → between a e c ≡ true
unfolding between
between_on a e c h k = both_on _ _ (le-leb a c h) (lt-ltb c e k)

pub same : (k c : ℕ) → c ≡ k → weight (eqb k c) ≡ 1
same k c h = weight_on _ (eq-eqb k c (sym h))

pub other : (k c : ℕ) → (k ≡ c → ⊥) → weight (eqb k c) ≡ 0
other k c h = weight_off _ (ne_eqb k c h)

-- on is made of one and two, which share no cell
abbrev pub Split : Set → Set → Set → Type 0
Split one two on = (c : ℕ) → weight (on c) ≡ weight (one c) + weight (two c)

pub between_more : (a k : ℕ) → a ≤ k → Split (between a k) (eqb k) (between a (k + 1))
between_more a k h c =
    by_lt c a
    (λ l. omega (arith, under_between a (k + 1) c l, under_between a k c l, other k c (λ e. omega arith)))
    (λ l.
    by_lt c k
    (λ m. omega (arith, in_between a (k + 1) c l (omega arith), in_between a k c l m, other k c (λ e. omega arith)))
    (λ m.
    by_lt k c
    (λ n. omega (arith, over_between a (k + 1) c (omega arith), over_between a k c m, other k c (λ e. omega arith)))
    (λ n. omega (arith, in_between a (k + 1) c l (omega arith), over_between a k c m, same k c (omega arith)))))

pub between_none : (a e c : ℕ) → e ≤ a → weight (between a e c) ≡ 0
between_none a e c h = by_lt c a (under_between a e c) (λ l. over_between a e c (omega arith))

-- where a loop over a..e stands when it ends
pub between_ends : (a e k : ℕ) → e ≤ k → k ≤ max a e → (c : ℕ) → weight (between a k c) ≡ weight (between a e c)
between_ends a e k h m c =
    by_lt a e
    (λ l. let p : k ≡ e = omega arith in rw p)
    (λ l. between_none a k c (omega arith) ∙ sym (between_none a e c l))

-- ---- a triangle's cells, row by row

-- the part in rows below y
abbrev pub rows_under : ℕ → Cells → ℕ → Set
rows_under columns b y c = covers columns b c && ltb (c / columns) y

-- cell c is column c % columns of row c / columns
module _ (columns : ℕ) (b : Cells) (c : ℕ) where
  pub covered : (b.left ≤ c % columns) → (c % columns ≤ b.right) → (b.bottom ≤ c / columns) → (c / columns ≤ b.top) → covers columns b c ≡ true
  unfolding covers is_from
  covered h₁ h₂ h₃ h₄ = both_on _ _ (both_on _ _ (le-leb _ _ h₁) (le-leb _ _ h₂)) (both_on _ _ (le-leb _ _ h₃) (le-leb _ _ h₄))

  pub left_of : c % columns < b.left → covers columns b c ≡ false
  unfolding covers is_from
  left_of h = off_left _ _ (off_left _ _ (lt-leb _ _ h))

  pub right_of : b.right < c % columns → covers columns b c ≡ false
  unfolding covers is_from
  right_of h = off_left _ _ (off_right (leb b.left (c % columns)) _ (lt-leb _ _ h))

  pub below : c / columns < b.bottom → covers columns b c ≡ false
  unfolding covers is_from
  below h = off_right (is_from b.left b.right (c % columns)) _ (off_left _ _ (lt-leb _ _ h))

  pub above : b.top < c / columns → covers columns b c ≡ false
  unfolding covers is_from
  above h = off_right (is_from b.left b.right (c % columns)) _ (off_right (leb b.bottom (c / columns)) _ (lt-leb _ _ h))

  pub under_all : (y : ℕ) → c / columns < y → weight (rows_under columns b y c) ≡ weight (covers columns b c)
  under_all y h = rw (lt-ltb (c / columns) y h) (by_test (covers columns b c) (λ e. rw e) (λ e. rw e))

  pub under_none : (y : ℕ) → y ≤ c / columns → weight (rows_under columns b y c) ≡ 0
  under_none y h = weight_off _ (off_right (covers columns b c) _ (le-ltb (c / columns) y h))

  -- a covered cell is in a row of the triangle
  pub covered_row : covers columns b c ≡ true → c / columns ≤ b.top
  covered_row e = by_lt b.top (c / columns) (λ l. let z : ◌≡◌ {A = Bool} true false = sym e ∙ above l in absurd (no z)) (λ l. l)
    where
      no : true ≡ false → ⊥
      no z = let k : ◌≡◌ {A = ℕ} 0 1 = cc in omega arith

-- an earlier row ends before a later one begins
row_before : (columns q y : ℕ) → q < y → q * columns + columns ≤ y * columns
row_before columns q y h = omega (arith, mul-le-mul_right {m = q + 1} {n = y} columns (omega arith), add-mul q 1 columns)

pub row_more : (columns : ℕ) (b : Cells) (y : ℕ) → b.right < columns → b.bottom ≤ y → y ≤ b.top
    → Split (rows_under columns b y) (between (y * columns + b.left) (y * columns + b.right + 1)) (rows_under columns b (y + 1))
row_more columns b y hx hl hh c =
    let q = c / columns in
    let r = c % columns in
    let d : q * columns + r ≡ c = div-add-mod' c columns in
    let m : r < columns = mod-lt c {m = columns} (omega arith) in
    let lo = y * columns + b.left in
    let hi = y * columns + b.right + 1 in
    by_lt q y
    (λ l. omega (
      arith,
      under_all columns b c (y + 1) (omega arith),
      under_all columns b c y l,
      under_between lo hi c (omega (arith, row_before columns q y l)),
    ))
    (λ l.
    by_lt y q
    (λ g. omega (
      arith,
      under_none columns b c (y + 1) (omega arith),
      under_none columns b c y l,
      over_between lo hi c (omega (arith, row_before columns y q g)),
    ))
    (λ g.
    let e : q ≡ y = omega arith in
    let d' : y * columns + r ≡ c = rw (← e) d in
    by_lt r b.left
    (λ k. omega (
      arith,
      under_all columns b c (y + 1) (omega arith),
      weight_off _ (left_of columns b c k),
      under_none columns b c y l,
      under_between lo hi c (omega arith),
    ))
    (λ k.
    by_lt b.right r
    (λ n. omega (
      arith,
      under_all columns b c (y + 1) (omega arith),
      weight_off _ (right_of columns b c n),
      under_none columns b c y l,
      over_between lo hi c (omega arith),
    ))
    (λ n. omega (
      arith,
      under_all columns b c (y + 1) (omega arith),
      weight_on _ (covered columns b c k n (omega arith) (omega arith)),
      under_none columns b c y l,
      in_between lo hi c (omega arith) (omega arith),
    )))))

-- cell numbers fit
pub row_fits : (columns y : ℕ) → columns ≤ 65536 → y < 65536 → y * columns ≤ 65536 * 65536
row_fits columns y h k = omega (arith, mul-le-mul_right {m = y} {n = 65536} columns (omega arith))

-- a row's cells are covered
pub row_covered : (columns : ℕ) (b : Cells) (y c : ℕ) → b.right < columns → b.bottom ≤ y → y ≤ b.top
    → between (y * columns + b.left) (y * columns + b.right + 1) c ≡ true → covers columns b c ≡ true
row_covered columns b y c hx hl hh e =
    by_test (covers columns b c) (λ t. t)
    (λ f.
    absurd
    (by_lt (c / columns) (y + 1)
    (λ l. omega (arith, row_more columns b y hx hl hh c, weight_on _ e, under_all columns b c (y + 1) l, weight_off _ f))
    (λ l. omega (arith, row_more columns b y hx hl hh c, weight_on _ e, under_none columns b c (y + 1) l))))

-- and new
pub row_new : (columns : ℕ) (b : Cells) (y c : ℕ) → b.right < columns → b.bottom ≤ y → y ≤ b.top
    → between (y * columns + b.left) (y * columns + b.right + 1) c ≡ true → weight (rows_under columns b y c) ≡ 0
row_new columns b y c hx hl hh e = omega (arith, row_more columns b y hx hl hh c, weight_on _ e, weight_le (rows_under columns b (y + 1) c))

-- an end before the begin covers nothing
pub none_covered : (columns : ℕ) (b : Cells) (c : ℕ) → b.right < b.left → weight (covers columns b c) ≡ 0
none_covered columns b c h =
    by_lt (c % columns) b.left (λ l. weight_off _ (left_of columns b c l)) (λ l. weight_off _ (right_of columns b c (omega arith)))

-- before the first row, and behind the last
pub rows_none : (columns : ℕ) (b : Cells) (y c : ℕ) → y ≤ b.bottom → weight (rows_under columns b y c) ≡ 0
rows_none columns b y c h =
    by_lt (c / columns) y
    (λ l. under_all columns b c y l ∙ weight_off _ (below columns b c (omega arith)))
    (under_none columns b c y)

pub rows_all : (columns : ℕ) (b : Cells) (y c : ℕ) → b.top < y → weight (rows_under columns b y c) ≡ weight (covers columns b c)
rows_all columns b y c h =
    by_lt (c / columns) y
    (under_all columns b c y)
    (λ l. under_none columns b c y l ∙ sym (weight_off _ (above columns b c (omega arith))))

-- where the loop over the rows ends
pub rows_end : (columns : ℕ) (b : Cells) (y c : ℕ) → b.top + 1 ≤ y → y ≤ max b.bottom (b.top + 1)
    → weight (rows_under columns b y c) ≡ weight (covers columns b c)
rows_end columns b y c h k = rows_all columns b y c (omega arith)
