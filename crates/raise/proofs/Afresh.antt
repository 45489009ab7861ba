-- A raised index is the one built afresh: nothing that the grid and the cells are made of has changed.
use mathlib.Core.Bool.{true}
use mathlib.Core.List.{List}
use mathlib.Core.Path.{◌≡◌, refl, sym, ap, ap₂, fun_ext, ◌∙◌}
use Prim.Native.Nat.{ℕ, zero, suc, ◌+◌, ◌*◌, ◌/◌, ◌≤◌}
use native.Mathlib.Omega.{arith}
use borrow.Author.Tests.{eq-eqb, ne_eqb, eqb-true, eqb-false, ltb-false}
use lib.Dec.{eqb, lit<}
use lib.Ieee.{Float}
use lib.ListN.{length}
use Rattle.rules.proofs.Branches.{taken, left as passed-by, by_test}
use Rattle.plane.specs.Mesh.{triangle_of, top_of, bounds_of}
use Rattle.spans.specs.Mesh.{first_bad, box_of, widened, extent_of}
use Rattle.std.specs.Prelude.{Result, Ok, Err}
use Rattle.refusals.specs.declared.Refusal.{Refusal}
use Rattle.refusals.specs.Numbers.{number_of, told_of}
use Rattle.grid.proofs.Accepting.{nowhere}
use Rattle.refusals.proofs.Named.{not_zero}
use Rattle.spans.specs.Inside.{AllGood}
use Rattle.spans.proofs.Searching.{all_good}
use Rattle.cells.specs.Cover.{Cover, covers, start_of, starts_of, members_table}
use Rattle.cells.specs.declared.Cells.{Cells}
use Rattle.grid.specs.declared.Grid.{Grid}
use Rattle.grid.specs.declared.Header.{Header}
use Rattle.rules.proofs.Ladder.{demanded, refused_not}
use Rattle.grid.specs.Grid.{triangles_in, grid_of, cells_in, cells_of, cover_of}
use Rattle.grid.specs.Header.{header_of}
use Rattle.grid.specs.Boxes.{is_boxed, boxes_of}
use Rattle.grid.proofs.Boxing.{boxes_at}
use Rattle.grid.specs.Build.{is_nowhere, told_with, refusal_of_numbers, refusal_of_mesh, refusal_of_grid, refusal_of_members}
use Rattle.grid.specs.Build.{Built, told, Outcome, outcome, refused_by, accepted_with, unless, filled_of, gridded, build_of}
use Rattle.grid.specs.Index.{index_of, BuiltFrom}
use Rattle.raise.specs.Raise.{lifted, topped, topped_of, raised_header, refusal_of_index, refusal_of, Raised, left, raise_of, RaisePromise}
use Rattle.raise.proofs.Lifting.{lifted_length, lifted_flat}

-- ---- what passes the refusals
pub record Passed (mesh boxes : List Float) (h : Header) (amount : Float) : Type 0 where
  pub few : triangles_in mesh ≤ 65536
  pub five : length boxes ≡ triangles_in mesh * 5
  pub nine : length mesh ≡ h.n * 9
  pub good : is_nowhere (first_bad mesh) ≡ true
  pub high : is_nowhere (first_bad (lifted amount mesh)) ≡ true

pub passed : (mesh boxes : List Float) (h : Header) (amount : Float) → refusal_of mesh boxes h amount ≡ 0 → Passed mesh boxes h amount
unfolding refusal_of refusal_of_index is_boxed
passed mesh boxes h amount e =
    let a = demanded _ 1 _ (lit< tt) e in
    let b = refused_not _ 1 _ (lit< tt) a.1 in
    let c = demanded _ 23 _ (lit< tt) b.1 in
    let d = demanded _ 2 _ (lit< tt) c.1 in
    let f = demanded _ 7 _ (lit< tt) d.1 in
    let g = demanded _ 7 _ (lit< tt) f.1 in
    let i = demanded _ 7 _ (lit< tt) g.1 in
    let j = demanded _ 4 _ (lit< tt) i.1 in
    record {
      few = ltb-false _ _ b.0;
      five = eqb-true (length boxes) (triangles_in mesh * 5) c.0;
      nine = eqb-true (length mesh) (h.n * 9) g.0;
      good = i.0;
      high = j.0;
    }

pub high_good : (mesh : List Float) (amount : Float) → is_nowhere (first_bad (lifted amount mesh)) ≡ true → AllGood (lifted amount mesh)
high_good mesh amount e = all_good (lifted amount mesh) (nowhere _ e)

-- ---- the grid stays
module _ (a : Float) (mesh : List Float) where
  abbrev up : List Float
  up = lifted a mesh

  -- the box of triangle i, but for its top
  box_flat : (i : ℕ) → box_of up i ≡ topped (box_of mesh i) (top_of (triangle_of up i))
  unfolding box_of bounds_of triangle_of top_of
  box_flat i =
      let f = lifted_flat a mesh in
      rw (
        f (9 * i) (λ e. omega arith),
        f (9 * i + 1) (λ e. omega arith),
        f (9 * i + 3) (λ e. omega arith),
        f (9 * i + 4) (λ e. omega arith),
        f (9 * i + 6) (λ e. omega arith),
        f (9 * i + 7) (λ e. omega arith),
      ) refl

  extent_flat : (n : ℕ) → extent_of up n ≡ extent_of mesh n
  unfolding extent_of widened
  extent_flat zero = refl
  extent_flat (suc n) = rw (extent_flat n, box_flat n) refl

  grid_flat : (n : ℕ) (r : Float) → grid_of up n r ≡ grid_of mesh n r
  unfolding grid_of
  grid_flat n r = rw (extent_flat n) refl

  cells_flat : (g : Grid) (i : ℕ) → cells_of up g i ≡ cells_of mesh g i
  unfolding cells_of
  cells_flat g i = rw (box_flat i) refl

  cover_flat : (g : Grid) → ◌≡◌ {A = Cover} (λ i c. cover_of up g i c) (λ i c. cover_of mesh g i c)
  cover_flat g = fun_ext (λ i. fun_ext (λ c. ap (λ (b : Cells). covers g.columns b c) (cells_flat g i)))

  boxes_flat : (n i : ℕ) → i ≤ n → topped_of up (boxes_of mesh n) i ≡ boxes_of up i
  unfolding topped_of boxes_of
  boxes_flat n zero h = refl
  boxes_flat n (suc i) h = rw (boxes_flat n i (omega arith), boxes_at mesh n i (omega arith), box_flat i) refl

-- ---- refused, or what comes next
peel : (k p : ℕ) (s m : List ℕ) (x : List Float) (next o : Outcome) → unless k p s m x next ≡ o → o.built.refusal ≡ 0 → (k ≡ 0) × (next ≡ o)
unfolding unless refused_by
peel k p s m x next o e z =
    by_test (eqb k 0)
    (λ t. (eqb-true k 0 t, rw t at e))
    (λ t. let f : outcome (refused_by k p) s m x ≡ o = rw t at e in absurd (eqb-false k 0 t (ap (λ (u : Outcome). u.built.refusal) f ∙ z)))

goes : (k p : ℕ) (s m : List ℕ) (x : List Float) (next : Outcome) → k ≡ 0 → unless k p s m x next ≡ next
unfolding unless
goes k p s m x next e = rw (eq-eqb k 0 e)

-- ---- the index built afresh
module _ (a : Float) (mesh : List Float) (floor r : Float) (s m : List ℕ) (x : List Float) (h : Header) (starts members : List ℕ) (boxes : List Float)
    (built : build_of mesh floor r s m x ≡ outcome (accepted_with h) starts members boxes) (good : is_nowhere (first_bad mesh) ≡ true)
    (high : is_nowhere (first_bad (lifted a mesh)) ≡ true) where
  abbrev n : ℕ
  n = triangles_in mesh

  abbrev g : Grid
  g = grid_of mesh n r

  abbrev cover : Cover
  cover i c = cover_of mesh g i c

  abbrev over : Outcome
  over = outcome (accepted_with h) starts members boxes

  first : (refusal_of_mesh mesh floor r x ≡ 0) × (gridded mesh n g floor r s m x ≡ over)
  unfolding build_of accepted_with
  first = peel _ _ s m x _ over built refl

  second : (refusal_of_grid g.columns g.rows (length s) ≡ 0) × (filled_of mesh n g floor r s m x ≡ over)
  unfolding gridded accepted_with
  second = peel _ 0 s m x _ over first.1 refl

  third : (refusal_of_members (start_of cover n (cells_in g)) (length m) ≡ 0)
      × (outcome (accepted_with (header_of mesh n g floor r)) (starts_of cover n (cells_in g) s) (members_table cover n (cells_in g) m) (boxes_of mesh n) ≡ over)
  unfolding filled_of accepted_with
  third = peel _ 0 s m x _ over second.1 refl

  mesh_passes : refusal_of_mesh (lifted a mesh) floor r x ≡ 0
  unfolding refusal_of_mesh refusal_of_numbers is_boxed
  mesh_passes = (rw (lifted_length a mesh, high) (sym (rw good))) ∙ first.0

  header_is : header_of (lifted a mesh) n g floor r ≡ raised_header (lifted a mesh) h
  unfolding header_of raised_header accepted_with
  header_is = ap (raised_header (lifted a mesh)) (ap (λ (o : Outcome). o.built.header) third.1)

  number_is : n ≡ h.n
  unfolding header_of accepted_with
  number_is = ap (λ (o : Outcome). o.built.header.n) third.1

  boxes_are : boxes_of (lifted a mesh) n ≡ topped_of (lifted a mesh) boxes h.n
  boxes_are =
      sym (boxes_flat a mesh n n (omega arith))
      ∙ ap₂ (λ (t : List Float) (k : ℕ). topped_of (lifted a mesh) t k) (ap (λ (o : Outcome). o.boxes) third.1) number_is

  -- the tables over any cover
  abbrev filled_with : Cover → Outcome
  filled_with on =
      unless (refusal_of_members (start_of on n (cells_in g)) (length m)) 0 s m x
      (outcome (accepted_with (header_of (lifted a mesh) n g floor r)) (starts_of on n (cells_in g) s) (members_table on n (cells_in g) m)
      (boxes_of (lifted a mesh) n))

  filled_is : filled_of (lifted a mesh) n g floor r s m x
      ≡ outcome (accepted_with (header_of (lifted a mesh) n g floor r)) (starts_of cover n (cells_in g) s) (members_table cover n (cells_in g) m)
      (boxes_of (lifted a mesh) n)
  unfolding filled_of
  filled_is = ap filled_with (cover_flat a mesh g) ∙ goes _ 0 s m x _ third.0

  gridded_is : gridded (lifted a mesh) n g floor r s m x ≡ filled_of (lifted a mesh) n g floor r s m x
  unfolding gridded
  gridded_is = goes _ 0 s m x _ second.0

  same : triangles_in (lifted a mesh) ≡ n
  same = ap (λ (k : ℕ). k / 9) (lifted_length a mesh)

  pub built_afresh : build_of (lifted a mesh) floor r s m x ≡ outcome (accepted_with (raised_header (lifted a mesh) h)) starts members
      (topped_of (lifted a mesh) boxes h.n)
  unfolding build_of
  built_afresh =
      goes _ _ s m x _ mesh_passes
      ∙ ap₂ (λ (k : ℕ) (q : Grid). gridded (lifted a mesh) k q floor r s m x) same (ap (λ (k : ℕ). grid_of (lifted a mesh) k r) same ∙ grid_flat a mesh n r)
      ∙ gridded_is ∙ filled_is
      ∙ ap₂ (λ (q : Header) (t : List Float). outcome (accepted_with q) (starts_of cover n (cells_in g) s)
      (members_table cover n (cells_in g) m) t) header_is boxes_are
      ∙ ap₂ (λ (t u : List ℕ). outcome (accepted_with (raised_header (lifted a mesh) h)) t u (topped_of (lifted a mesh) boxes h.n))
      (ap (λ (o : Outcome). o.starts) third.1) (ap (λ (o : Outcome). o.members) third.1)

-- ---- what raising leaves
module _ (mesh boxes : List Float) (h : Header) (a : Float) where
  abbrev refusal : ℕ
  refusal = refusal_of mesh boxes h a

  pub raise_refused : (k p : ℕ) (b : Built) → k ≡ refusal → p ≡ told_with k (lifted a mesh) → b ≡ refused_by k p → (k ≡ 0 → ⊥)
      → left b mesh boxes ≡ raise_of mesh boxes h a
  unfolding raise_of
  raise_refused k p b e t q z =
      passed-by _ _ _ _ (ne_eqb refusal 0 (λ y. z (e ∙ y)))
      (ap (λ (u : Built). left u mesh boxes) (q ∙ ap (refused_by k) t ∙ ap (λ (j : ℕ). refused_by j (told_with j (lifted a mesh))) e))

  -- the same, by the refusal's name
  pub raise_err : (e : Refusal) → number_of e ≡ refusal → told_of e ≡ told_with (number_of e) (lifted a mesh) → (o : Result Header Refusal) → o ≡ Err e
      → left (told o) mesh boxes ≡ raise_of mesh boxes h a
  unfolding told
  raise_err e p t o q = raise_refused (number_of e) (told_of e) (told o) p t (rw q refl) (not_zero e)

  pub raise_accepted : (k : ℕ) (mesh' boxes' : List Float) (q : Header) → k ≡ refusal → k ≡ 0 → mesh' ≡ lifted a mesh → boxes' ≡ topped_of mesh' boxes h.n
      → q ≡ raised_header mesh' h → left (record { refusal = 0; triangle = 0; number = 0; header = q }) mesh' boxes' ≡ raise_of mesh boxes h a
  unfolding raise_of accepted_with
  raise_accepted k mesh' boxes' q e z u v w = taken _ _ _ _ (eq-eqb refusal 0 (sym e ∙ z)) (rw (w, v, u) refl)

  pub raise_ok : (mesh' boxes' : List Float) (q : Header) → 0 ≡ refusal → mesh' ≡ lifted a mesh → boxes' ≡ topped_of mesh' boxes h.n
      → q ≡ raised_header mesh' h → left (told (Ok q)) mesh' boxes' ≡ raise_of mesh boxes h a
  unfolding told accepted_with
  raise_ok mesh' boxes' q e u v w = raise_accepted 0 mesh' boxes' q e refl u v w

  -- an answer without a refusal is the raised one
  accepted_is : (o : Raised) → o ≡ raise_of mesh boxes h a → o.answer.refusal ≡ 0
      → (refusal ≡ 0) × (o ≡ left (accepted_with (raised_header (lifted a mesh) h)) (lifted a mesh) (topped_of (lifted a mesh) boxes h.n))
  unfolding raise_of refused_by
  accepted_is o e z =
      by_test (eqb refusal 0)
      (λ t. (eqb-true refusal 0 t, rw t at e))
      (λ t. let f : o ≡ left (refused_by refusal (told_with refusal (lifted a mesh))) mesh boxes = rw t at e in
      absurd (eqb-false refusal 0 t (sym (ap (λ (u : Raised). u.answer.refusal) f) ∙ z)))

  module _ (b : Built) (mesh' boxes' : List Float) (e : left b mesh' boxes' ≡ raise_of mesh boxes h a) where
    afresh : (starts members : List ℕ) (x : BuiltFrom (index_of mesh h starts members boxes)) → b.refusal ≡ 0
        → build_of mesh' x.floor x.r x.old_starts x.old_members x.old_boxes ≡ outcome (accepted_with b.header) starts members boxes'
    unfolding accepted_with
    afresh starts members x z =
        let i = accepted_is (left b mesh' boxes') e z in
        let p = passed mesh boxes h a i.0 in
        let up = ap (λ (u : Raised). u.mesh) i.1 in
        let hd = ap (λ (u : Raised). u.answer.header) i.1 in
        let bx = ap (λ (u : Raised). u.boxes) i.1 in
        rw (up, hd, bx) (built_afresh a mesh x.floor x.r x.old_starts x.old_members x.old_boxes h starts members boxes
        x.built p.good p.high)

    pub raise_promise : RaisePromise mesh boxes h mesh' boxes' b
    raise_promise =
        record {
          afresh = afresh;
          still = λ starts members x z.
              record {
                floor = x.floor;
                r = x.r;
                old_starts = x.old_starts;
                old_members = x.old_members;
                old_boxes = x.old_boxes;
                built =
                    afresh starts members x z;
              };
        }
