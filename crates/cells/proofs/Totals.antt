-- The members counted triangle by triangle are as many as counted cell by cell.
use mathlib.Core.List.{[]}
use mathlib.Core.Logic.{◌⊎◌, inl, inr}
use mathlib.Core.Path.{◌≡◌, refl, ap, sym, ◌∙◌}
use Prim.Native.Nat.{ℕ, zero, suc, ◌+◌, ◌-◌, ◌*◌, ◌≤◌, ◌<◌, min}
use native.Mathlib.Nat.{mul-le-mul_right, mul_comm, add-mul, suc-mul}
use native.Mathlib.Omega.{arith}
use lib.ListN.{length-append}
use Rattle.cells.specs.declared.Cells.{Cells}
use Rattle.cells.specs.Cover.{Cover, covers, area_of, members_of, listed, start_of}
use Rattle.rules.specs.Every.{weight}
use Rattle.cells.specs.Inside.{Set, between, sums}
use Rattle.cells.proofs.Sets.{Split, by_lt, rows_under, row_more, rows_none, rows_all, under_between, in_between, over_between, none_covered}
use Rattle.cells.proofs.Members.{members_suc}

-- the size of a set among the first k cells
abbrev size_to : Set → ℕ → ℕ
size_to on k = sums (λ c. weight (on c)) k

module _ where
  size_none : (on : Set) (k : ℕ) → ((c : ℕ) → weight (on c) ≡ 0) → size_to on k ≡ 0
  unfolding sums
  size_none on zero h = refl
  size_none on (suc k) h = omega (arith, size_none on k h, h k)

  size_as : (on on' : Set) (k : ℕ) → ((c : ℕ) → weight (on c) ≡ weight (on' c)) → size_to on k ≡ size_to on' k
  unfolding sums
  size_as on on' zero h = refl
  size_as on on' (suc k) h = omega (arith, size_as on on' k h, h k)

  size_split : (one two on : Set) (k : ℕ) → Split one two on → size_to on k ≡ size_to one k + size_to two k
  unfolding sums
  size_split one two on zero d = omega arith
  size_split one two on (suc k) d = omega (arith, size_split one two on k d, d k)

  size_between : (a e k : ℕ) → a ≤ e → size_to (between a e) k ≡ min k e - min k a
  unfolding sums
  size_between a e zero h = omega arith
  size_between a e (suc k) h =
      by_lt k a
      (λ l. omega (arith, size_between a e k h, under_between a e k l))
      (λ l.
      by_lt k e
      (λ m. omega (arith, size_between a e k h, in_between a e k l m))
      (λ m. omega (arith, size_between a e k h, over_between a e k m)))

-- the size of a triangle's rows, one by one
module _ (columns : ℕ) (b : Cells) (k : ℕ) (right : b.right < columns) (some : b.left ≤ b.right) (grid : (b.top + 1) * columns ≤ k) where
  size_rows : (d : ℕ) → b.bottom + d ≤ b.top + 1 → size_to (rows_under columns b (b.bottom + d)) k ≡ d * (b.right + 1 - b.left)
  size_rows zero h =
      let e : b.bottom + 0 ≡ b.bottom = omega arith in
      rw e (size_none (rows_under columns b b.bottom) k (λ c. rows_none columns b b.bottom c (omega arith)) ∙ omega arith)
  size_rows (suc d) h =
      let y = b.bottom + d in
      let e : b.bottom + suc d ≡ y + 1 = omega arith in
      let end : y * columns + columns ≤ k = omega (arith, mul-le-mul_right {m = y + 1} {n = b.top + 1} columns (omega arith), add-mul y 1 columns) in
      rw (e, suc-mul d)
      (omega (
        arith,
        size_split (rows_under columns b y) (between (y * columns + b.left) (y * columns + b.right + 1)) (rows_under columns b (y + 1)) k
            (row_more columns b y right (omega arith) (omega arith)),
        size_rows d (omega arith),
        size_between (y * columns + b.left) (y * columns + b.right + 1) k (omega arith),
      ))

pub size_box : (columns : ℕ) (b : Cells) (rows : ℕ) → b.right < columns → b.top < rows → size_to (covers columns b) (rows * columns) ≡ area_of b
unfolding area_of
size_box columns b rows hx hy =
    let k = rows * columns in
    by_lt b.right b.left
    (λ l. size_none (covers columns b) k (λ c. none_covered columns b c l) ∙ (let z : b.right + 1 - b.left ≡ 0 = omega arith in rw z (omega arith)))
    (λ l.
    by_lt b.top b.bottom
    (λ m.
    let z : b.top + 1 - b.bottom ≡ 0 = omega arith in
    size_none (covers columns b) k (λ c. no_rows c m) ∙ (rw (z, mul_comm (b.right + 1 - b.left) 0) (omega arith)))
    (λ m.
    let y = b.bottom + (b.top + 1 - b.bottom) in
    sym (size_as (rows_under columns b y) (covers columns b) k (λ c. rows_all columns b y c (omega arith)))
    ∙ size_rows columns b k hx l (mul-le-mul_right {m = b.top + 1} {n = rows} columns (omega arith)) (b.top + 1 - b.bottom) (omega arith)
    ∙ mul_comm (b.top + 1 - b.bottom) (b.right + 1 - b.left)))
  where
    no_rows : (c : ℕ) → b.top < b.bottom → weight (covers columns b c) ≡ 0
    no_rows c m = sym (rows_all columns b (b.top + 1) c (omega arith)) ∙ rows_none columns b (b.top + 1) c (omega arith)

-- areas: none, and small ones
pub area_none : (b : Cells) → (b.right < b.left) ⊎ (b.top < b.bottom) → area_of b ≡ 0
unfolding area_of
area_none b (inl h) = let z : b.right + 1 - b.left ≡ 0 = omega arith in rw z (omega arith)
area_none b (inr h) = let z : b.top + 1 - b.bottom ≡ 0 = omega arith in rw (z, mul_comm (b.right + 1 - b.left) 0) (omega arith)

pub area_small : (w h : ℕ) → w ≤ 65536 → h ≤ 65536 → w * h ≤ 4294967296
area_small w h a b = omega (arith, mul-le-mul_right {m = w} {n = 65536} h a)

-- with one triangle more each cell gains its weight
module _ (on : Cover) where
  start_none : (k : ℕ) → start_of on 0 k ≡ 0
  unfolding start_of listed members_of
  start_none zero = refl
  start_none (suc k) = omega (arith, length-append (listed on 0 k) [], start_none k)

  start_triangle : (n k : ℕ) → start_of on (suc n) k ≡ start_of on n k + size_to (on n) k
  unfolding start_of listed sums
  start_triangle n zero = omega arith
  start_triangle n (suc k) =
      omega (
        arith,
        length-append (listed on (suc n) k) (members_of on (suc n) k),
        length-append (listed on n k) (members_of on n k),
        start_triangle n k,
        members_suc on n k,
      )

-- all members, triangle by triangle
module _ (on : Cover) (columns rows : ℕ) (box : ℕ → Cells) (same : (i c : ℕ) → on i c ≡ covers columns (box i) c)
    (right : (i : ℕ) → (box i).right < columns) (top : (i : ℕ) → (box i).top < rows) where
  pub total_is : (n : ℕ) → sums (λ i. area_of (box i)) n ≡ start_of on n (rows * columns)
  unfolding sums
  total_is zero = sym (start_none on (rows * columns))
  total_is (suc n) =
      omega (
        arith,
        total_is n,
        start_triangle on n (rows * columns),
        size_as (on n) (covers columns (box n)) (rows * columns) (λ c. ap weight (same n c)),
        size_box columns (box n) rows (right n) (top n),
      )
