-- A question's walk over the list that stands for the numbers of its cells, as the one cell of an index, or over its cells.
use mathlib.Core.Bool.{Bool, true, cond}
use mathlib.Core.List.{List, [], ◌∷◌}
use mathlib.Core.Path.{◌≡◌, refl, ap, ◌∙◌}
use Prim.Native.Nat.{ℕ, ◌<◌}
use native.Mathlib.Omega.{arith}
use borrow.Author.Tests.{eqb-true, eqb-false}
use lib.Dec.{eqb}
use lib.ListN.{length, get_or, take, replicate, length-replicate, get_or-replicate}
use Rattle.rules.specs.Every.{times}
use Rattle.rules.proofs.Branches.{by_test}
use Rattle.walk.specs.Walk.{Walk, block, fold, looked}
use Rattle.walk.specs.Inside.{look, strike, StandsFor, Walkable}
use Rattle.walk.proofs.Shorter.{one_cell, one_walkable, same_walk, same_chase}
use Rattle.grid.specs.Index.{Index}
use Rattle.query.specs.declared.Patch.{Patch}
use Rattle.query.specs.Looked.{within}
use Rattle.query.proofs.Looks.{looked_none, looked_once, place_of}

-- no number of the list is another than theirs: over marks of 0, under the stamp 1, both look at each of their numbers
listed_in : (n : ℕ) (all list : List ℕ) (count : ℕ) → StandsFor n all list count → (i : ℕ) → 0 < times i (take count list) → 0 < times i all
listed_in n all list count s i t =
    let k = place_of i (take count list) t in
    let l : i < n = rw k.is at (s.below k.at k.inside) in
    let size : length (replicate {A = ℕ} n 0) ≡ n = length-replicate n 0 in
    let z : ◌≡◌ {A = ℕ} (get_or (replicate n 0) i 0) 0 = get_or-replicate n i 0 0 l in
    let o = looked_once 1 i (take count list) (replicate n 0) (omega arith) (λ e. omega (arith, e)) t in
    let p : times i (looked 1 (replicate n 0) (take count list)) ≡ times i (looked 1 (replicate n 0) all) = ap (times i) (s.same 1 (replicate n 0) size) in
    by_test (eqb (times i all) 0)
    (λ e. absurd (omega (arith, looked_none 1 i all (replicate n 0) (eqb-true (times i all) 0 e))))
    (λ e. omega (arith, eqb-false (times i all) 0 e))

-- a walk over the cells q of these tables looks at what one over the cells p of the index looks at, and can be made if that can
pub record Narrow (ix : Index) (p : Patch) (starts members : List ℕ) (q : Patch) : Type 0 where
  pub same : (stamp : ℕ) (marks : List ℕ) → length marks ≡ ix.header.n
      → looked stamp marks (block starts members ix.header.columns q.x0 q.x1 q.y0 q.y1) ≡ looked stamp marks (within ix p)
  pub walkable : Walkable ix.starts ix.members ix.header.n ix.header.columns p.x0 p.x1 p.y0 p.y1
      → Walkable starts members ix.header.n ix.header.columns q.x0 q.x1 q.y0 q.y1
  pub inside : (i : ℕ) → 0 < times i (block starts members ix.header.columns q.x0 q.x1 q.y0 q.y1) → 0 < times i (within ix p)

module _ (ix : Index) (p : Patch) (list : List ℕ) (count : ℕ) where
  narrow_listed : StandsFor ix.header.n (within ix p) list count → Narrow ix p (0 ∷ count ∷ []) list (record { x0 = 0; x1 = 1; y0 = 0; y1 = 1 })
  narrow_listed s =
      record {
        same = λ stamp marks e. ap (looked stamp marks) (one_cell list count ix.header.columns) ∙ s.same stamp marks e;
        walkable = λ _. one_walkable list count ix.header.columns ix.header.n s.held s.below;
        inside = λ i t. listed_in ix.header.n (within ix p) list count s i (rw (one_cell list count ix.header.columns) at t);
      }

  -- the tables and the cells that the code picked
  pub narrow : (listed : Bool) → (listed ≡ true → StandsFor ix.header.n (within ix p) list count) → (starts members : List ℕ) (q : Patch)
      → starts ≡ cond listed (0 ∷ count ∷ []) ix.starts → members ≡ cond listed list ix.members
      → q ≡ cond listed (record { x0 = 0; x1 = 1; y0 = 0; y1 = 1 }) p → Narrow ix p starts members q
  narrow listed s starts members q a b c =
      rw (a, b, c)
      (by_test listed (λ t. rw t (narrow_listed (s t))) (λ t. rw t (record { same = λ stamp marks e. refl; walkable = λ w. w; inside = λ i t. t })))

-- what a walk over the narrow tables finds
module _ {ix : Index} {p : Patch} {starts members : List ℕ} {q : Patch} (n : Narrow ix p starts members q) (stamp : ℕ) where
  pub narrow_walk : {A : Type 0} (step : A → ℕ → A) (w : Walk A) → length w.marks ≡ ix.header.n
      → fold (look stamp step) w (block starts members ix.header.columns q.x0 q.x1 q.y0 q.y1) ≡ fold (look stamp step) w (within ix p)
  narrow_walk step w e = same_walk stamp step w _ _ (n.same stamp w.marks e)

  pub narrow_chase : (blocks : ℕ → Bool) (w : Walk Bool) → w.value ≡ true → length w.marks ≡ ix.header.n
      → fold (strike stamp blocks) w (block starts members ix.header.columns q.x0 q.x1 q.y0 q.y1) ≡ fold (strike stamp blocks) w (within ix p)
  narrow_chase blocks w c e = same_chase stamp blocks w _ _ c (n.same stamp w.marks e)
