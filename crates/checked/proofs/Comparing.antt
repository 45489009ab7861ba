-- Numbers, boxes and headers that agree part by part are the same.
use mathlib.Core.Bool.{Bool, true, false, not}
use mathlib.Core.List.{List}
use mathlib.Core.Path.{◌≡◌, refl, sym, ap, subst, ◌∙◌}
use Prim.Native.Nat.{ℕ, zero, suc, ◌+◌, ◌*◌, ◌/◌, ◌%◌, ◌<◌}
use native.Mathlib.Nat.{div-add-mod', mod-lt}
use native.Mathlib.Omega.{arith}
use lib.Dec.{T}
use lib.Ieee.{Float, nan, eq, ne}
use lib.Ieee.Compare.{differs_from_itself}
use lib.ListN.{length}
use lib.Seq.{ext_get_or}
use Rattle.std.specs.Prelude.{Result, Ok, Err, is_err}
use Rattle.refusals.specs.declared.Refusal.{Refusal}
use Rattle.refusals.specs.Numbers.{code_of}
use Rattle.numbers.specs.Reals.{num}
use Rattle.rules.proofs.Branches.{no}
use Rattle.plane.specs.declared.Bounds.{Bounds}
use Rattle.spans.specs.Mesh.{box_of, eps_of}
use Rattle.spans.specs.Axis.{stretch_of}
use Rattle.spans.specs.declared.Stretch.{Stretch}
use Rattle.rules.specs.Every.{is_from}
use Rattle.cells.proofs.Sets.{by_lt}
use Rattle.grid.specs.declared.Grid.{Grid}
use Rattle.grid.specs.declared.Header.{Header}
use Rattle.grid.specs.Header.{header_of}
use Rattle.grid.specs.Boxes.{box_at, boxes_of}
use Rattle.refusals.proofs.Named.{not_zero}
use Rattle.grid.proofs.Boxing.{boxes_length, boxes_at}
use Rattle.checked.specs.Inside.{Tells, cells_under}

-- ---- tests
pub tells_true : {P : Type 0} (b : Bool) → b ≡ true → P → Tells b P
tells_true b e p = (λ t. p, λ t. e)

pub tells_false : {P : Type 0} (b : Bool) → b ≡ false → (P → ⊥) → Tells b P
tells_false b e p = (λ t. absurd (no (sym e ∙ t)), λ t. absurd (p t))

-- a test that failed
pub fails : {P : Type 0} (b : Bool) → Tells b P → b ≡ false → P → ⊥
fails b t e p = no (sym e ∙ t.1 p)

-- a test of the same
pub tells_as : {P Q : Type 0} (b : Bool) → (P → Q) → (Q → P) → Tells b P → Tells b Q
tells_as b f g t = (λ e. f (t.0 e), λ q. t.1 (g q))

-- ---- all below a bound, one more
pub all_more : (P : ℕ → Type 0) (k : ℕ) → ((i : ℕ) → i < k → P i) → P k → (i : ℕ) → i < k + 1 → P i
all_more P k h p i l = by_lt i k (h i) (λ q. subst P (omega arith) p)

-- ---- whether a call was refused
pub was_refused : {A : Type 0} (q : Result A Refusal) (k : ℕ) → code_of q ≡ k → is_err q ≡ true → k ≡ 0 → ⊥
unfolding code_of
was_refused (Ok a) k e t z = no t
was_refused (Err r) k e t z = not_zero r (e ∙ z)

pub was_passed : {A : Type 0} (q : Result A Refusal) (k : ℕ) → code_of q ≡ k → is_err q ≡ false → k ≡ 0
unfolding code_of
was_passed (Ok a) k e t = sym e
was_passed (Err r) k e t = absurd (no (sym t))

-- ---- numbers
pub both_nan : (x y : Float) → ne x x ≡ true → ne y y ≡ true → x ≡ y
both_nan x y e f = differs_from_itself x (subst T (sym e) tt) ∙ sym (differs_from_itself y (subst T (sym f) tt))

pub not_same : (x y : Float) → eq x y ≡ false → ne x x ≡ false → x ≡ y → ⊥
unfolding ne
not_same x y e f p = let z : eq x x ≡ false = ap (eq x) p ∙ e in no (sym f ∙ ap not z)

-- ---- boxes
pub box_is : (b c : Bounds) → b.low_x ≡ c.low_x → b.low_y ≡ c.low_y → b.high_x ≡ c.high_x → b.high_y ≡ c.high_y
    → b.top ≡ c.top → b ≡ c
box_is b c e₀ e₁ e₂ e₃ e₄ =
    ap (λ (u : Float). record { low_x = u; low_y = b.low_y; high_x = b.high_x; high_y = b.high_y; top = b.top }) e₀
    ∙ ap (λ (u : Float). record { low_x = c.low_x; low_y = u; high_x = b.high_x; high_y = b.high_y; top = b.top }) e₁
    ∙ ap (λ (u : Float). record { low_x = c.low_x; low_y = c.low_y; high_x = u; high_y = b.high_y; top = b.top }) e₂
    ∙ ap (λ (u : Float). record { low_x = c.low_x; low_y = c.low_y; high_x = c.high_x; high_y = u; top = b.top }) e₃
    ∙ ap (λ (u : Float). record { low_x = c.low_x; low_y = c.low_y; high_x = c.high_x; high_y = c.high_y; top = u }) e₄

-- tables of the same boxes have the same numbers
five_same : (a b : List Float) (i : ℕ) → box_at a i ≡ box_at b i → (k : ℕ) → k < 5 → num a (5 * i + k) ≡ num b (5 * i + k)
unfolding box_at
five_same a b i e zero h = let q : 5 * i + 0 ≡ 5 * i = omega arith in rw q (ap (λ (x : Bounds). x.low_x) e)
five_same a b i e (suc zero) h = ap (λ (x : Bounds). x.low_y) e
five_same a b i e (suc (suc zero)) h = ap (λ (x : Bounds). x.high_x) e
five_same a b i e (suc (suc (suc zero))) h = ap (λ (x : Bounds). x.high_y) e
five_same a b i e (suc (suc (suc (suc zero)))) h = ap (λ (x : Bounds). x.top) e
five_same a b i e (suc (suc (suc (suc (suc k))))) h = absurd (omega arith)

module _ (mesh boxes : List Float) (n : ℕ) (l : length boxes ≡ n * 5) where
  pub boxes_are : ((i : ℕ) → i < n → box_at boxes i ≡ box_of mesh i) → boxes ≡ boxes_of mesh n
  boxes_are h =
      ext_get_or nan boxes (boxes_of mesh n) (l ∙ sym (boxes_length mesh n))
      (λ p k.
      let q : 5 * (p / 5) + p % 5 ≡ p = omega (arith, div-add-mod' p 5) in
      let j : p / 5 < n = omega (arith, div-add-mod' p 5) in
      rw q at (five_same boxes (boxes_of mesh n) (p / 5) (h (p / 5) j ∙ sym (boxes_at mesh n (p / 5) j)) (p % 5) (mod-lt p {m = 5} (omega arith))))

  pub boxes_each : boxes ≡ boxes_of mesh n → (i : ℕ) → i < n → box_at boxes i ≡ box_of mesh i
  boxes_each e i h = ap (λ (b : List Float). box_at b i) e ∙ boxes_at mesh n i h

-- ---- the cells of a box, axis by axis
module _ (g : Grid) (b B : Bounds) (p : b ≡ B) (s : Stretch) (k : ℕ) where
  pub columns_of : s ≡ stretch_of g.x g.size g.columns b.low_x b.high_x
      → is_from s.first s.last k ≡ is_from (cells_under g B).left (cells_under g B).right k
  unfolding cells_under
  columns_of q =
      ap (λ (v : Stretch). is_from v.first v.last k) (q ∙ ap (λ (v : Bounds). stretch_of g.x g.size g.columns v.low_x v.high_x) p)

  pub rows_of : s ≡ stretch_of g.y g.size g.rows b.low_y b.high_y
      → is_from s.first s.last k ≡ is_from (cells_under g B).bottom (cells_under g B).top k
  unfolding cells_under
  rows_of q =
      ap (λ (v : Stretch). is_from v.first v.last k) (q ∙ ap (λ (v : Bounds). stretch_of g.y g.size g.rows v.low_y v.high_y) p)

-- ---- headers
module _ (mesh : List Float) (n : ℕ) (g : Grid) (h : Header) where
  pub header_is : (h.n ≡ n) × (h.columns ≡ g.columns) × (h.rows ≡ g.rows) → (h.origin_x ≡ g.x) × (h.origin_y ≡ g.y)
      → (h.cell ≡ g.size) × (h.eps ≡ eps_of mesh n)
      → h ≡ header_of mesh n g h.floor h.r
  unfolding header_of
  header_is (a, b, c) (d, e) (f, i) = rw (← i, ← a, ← b, ← c, ← d, ← e, ← f) refl

  pub header_counts : h ≡ header_of mesh n g h.floor h.r → (h.n ≡ n) × (h.columns ≡ g.columns) × (h.rows ≡ g.rows)
  unfolding header_of
  header_counts e = (ap (λ (u : Header). u.n) e, ap (λ (u : Header). u.columns) e, ap (λ (u : Header). u.rows) e)

  pub header_places : h ≡ header_of mesh n g h.floor h.r → (h.origin_x ≡ g.x) × (h.origin_y ≡ g.y)
  unfolding header_of
  header_places e = (ap (λ (u : Header). u.origin_x) e, ap (λ (u : Header). u.origin_y) e)

  pub header_sizes : h ≡ header_of mesh n g h.floor h.r → (h.cell ≡ g.size) × (h.eps ≡ eps_of mesh n)
  unfolding header_of
  header_sizes e = (ap (λ (u : Header). u.cell) e, ap (λ (u : Header). u.eps) e)
