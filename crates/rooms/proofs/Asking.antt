-- What a build of the same mesh is told: refusal by refusal, with the rooms that were told and with less.
use mathlib.Core.Bool.{true}
use mathlib.Core.List.{List}
use mathlib.Core.Path.{◌≡◌, refl, sym, ap, subst, ◌∙◌}
use Prim.Native.Nat.{ℕ, ◌+◌, ◌*◌, ◌^◌, ◌≤◌, ◌<◌}
use native.Mathlib.Omega.{arith}
use borrow.Author.Tests.{eq-eqb, ne_eqb, eqb-true, eqb-false, lt-ltb, le-ltb}
use lib.Dec.{eqb, lit<}
use lib.Ieee.{Float}
use lib.ListN.{length}
use Rattle.rules.proofs.Branches.{taken, left, by_test}
use Rattle.cells.specs.Cover.{start_of}
use Rattle.grid.specs.declared.Grid.{Grid}
use Rattle.rules.specs.Ladder.{demand}
use Rattle.grid.specs.Grid.{triangles_in, grid_of, cells_in, cover_of, total_of}
use Rattle.grid.specs.Boxes.{is_boxed, boxes_of}
use Rattle.grid.specs.Build.{refusal_of_mesh, refusal_of_grid, refusal_of_members, Outcome, refused_by, accepted_with, unless, filled_of, gridded, build_of}
use Rattle.grid.specs.Inside.{Gridded}
use Rattle.rules.proofs.Ladder.{refuse_here, refuse_next}
use Rattle.grid.proofs.Boxing.{boxes_length}
use Rattle.grid.proofs.Gridding.{counted}
use Rattle.grid.proofs.Accepting.{Accepted, accepted, Passed, passed, members_fit}
use Rattle.refusals.proofs.Named.{not_zero}
use Rattle.grid.proofs.Indexing.{grid_fits, grid_gridded}
use Rattle.std.specs.Prelude.{Result, Ok, Err}
use Rattle.refusals.specs.declared.Refusal.{Refusal}
use Rattle.refusals.specs.Numbers.{number_of}
use Rattle.rooms.specs.declared.Rooms.{Rooms as Counts}
use Rattle.rooms.specs.Rooms.{Rooms, told, refusal_of, no_rooms, unless_refused, rooms_in, rooms_of, RoomsPromise}

-- ---- refusals 1, 3, 2 and 4 are the builder's with a box table of the right length
module _ (mesh : List Float) (floor r : Float) where
  pub with_boxes : (x : List Float) → is_boxed mesh x ≡ true → refusal_of_mesh mesh floor r x ≡ refusal_of mesh floor r
  unfolding refusal_of_mesh refusal_of demand
  with_boxes x e = rw e refl

  boxes_fit : is_boxed mesh (boxes_of mesh (triangles_in mesh)) ≡ true
  unfolding is_boxed
  boxes_fit = eq-eqb _ _ (boxes_length mesh (triangles_in mesh))

  pub asked : refusal_of mesh floor r ≡ 0 → Accepted mesh floor r (boxes_of mesh (triangles_in mesh))
  asked e = accepted _ _ _ _ (with_boxes _ boxes_fit ∙ e)

  pub asked_fits : refusal_of mesh floor r ≡ 0 → ((grid_of mesh (triangles_in mesh) r).columns < 2 ^ 64) × ((grid_of mesh (triangles_in mesh) r).rows < 2 ^ 64)
  asked_fits e = grid_fits _ _ _ _ (asked e)

  pub asked_gridded : refusal_of mesh floor r ≡ 0
      → (let g = grid_of mesh (triangles_in mesh) r in refusal_of_grid g.columns g.rows 1048577 ≡ 0 → Gridded mesh (triangles_in mesh) g)
  asked_gridded e f = grid_gridded _ _ _ _ (asked e) 1048577 (passed _ _ _ f)

-- ---- how a refusal is told
told_err : (e : Refusal) (k : ℕ) → number_of e ≡ k → (o : Result Counts Refusal) → o ≡ Err e → told o ≡ no_rooms k
unfolding told
told_err e k a o h = rw (h, a) refl

-- ---- one refusal of the rooms
module _ (k : ℕ) (next : Rooms) where
  pub rooms_next : (q : Rooms) → k ≡ 0 → q ≡ next → q ≡ unless_refused k next
  unfolding unless_refused
  rooms_next q h e = taken _ _ _ _ (eq-eqb k 0 h) e

  pub rooms_none : (j : ℕ) (q : Rooms) → j ≡ k → (j ≡ 0 → ⊥) → q ≡ no_rooms j → q ≡ unless_refused k next
  unfolding unless_refused
  rooms_none j q p h e = left _ _ _ _ (ne_eqb k 0 (λ z. h (p ∙ z))) (e ∙ ap no_rooms p)

  opened : (unless_refused k next).refusal ≡ 0 → (k ≡ 0) × (unless_refused k next ≡ next)
  unfolding unless_refused no_rooms
  opened e = by_test (eqb k 0) (λ t. (eqb-true k 0 t, rw t refl)) (λ t. absurd (eqb-false k 0 t (rw t at e)))

-- ---- the rooms under a grid, as they are found
module _ (mesh : List Float) (n : ℕ) (g : Grid) where
  pub grid_none : (k : ℕ) (q : Rooms) → k ≡ refusal_of_grid g.columns g.rows 1048577 → (k ≡ 0 → ⊥) → q ≡ no_rooms k → q ≡ rooms_in mesh n g
  unfolding rooms_in
  grid_none k q p h e = rooms_none _ _ k q p h e

  pub grid_err : (e : Refusal) → number_of e ≡ refusal_of_grid g.columns g.rows 1048577 → (o : Result Counts Refusal) → o ≡ Err e → told o ≡ rooms_in mesh n g
  grid_err e a o h = grid_none (number_of e) (told o) a (not_zero e) (told_err e (number_of e) refl o h)

  module _ (p : refusal_of_grid g.columns g.rows 1048577 ≡ 0) (z : Gridded mesh n g) (t k : ℕ) (a : t ≡ total_of mesh g n)
      (b : k ≡ refusal_of_members t 16777216) where
    many : t ≡ start_of (cover_of mesh g) n (cells_in g)
    many = a ∙ counted mesh g n z

    members_told : k ≡ refusal_of_members (start_of (cover_of mesh g) n (cells_in g)) 16777216
    members_told = b ∙ ap (λ (v : ℕ). refusal_of_members v 16777216) many

    pub members_none : (q : Rooms) → (k ≡ 0 → ⊥) → q ≡ no_rooms k → q ≡ rooms_in mesh n g
    unfolding rooms_in
    members_none q h e = rooms_next _ _ q p (rooms_none _ _ k q members_told h e)

    pub members_err : (e : Refusal) → number_of e ≡ k → (o : Result Counts Refusal) → o ≡ Err e → told o ≡ rooms_in mesh n g
    members_err e c o h = members_none (told o) (λ z. not_zero e (c ∙ z)) (told_err e k c o h)

    pub members_some : k ≡ 0 → record { refusal = 0; starts = cells_in g + 1; members = t } ≡ rooms_in mesh n g
    unfolding rooms_in
    members_some h = rooms_next _ _ _ p (rooms_next _ _ _ (sym members_told ∙ h) (ap (λ (v : ℕ). record { refusal = 0; starts = cells_in g + 1; members = v }) many))

-- ---- the answer, as it is found
module _ (mesh : List Float) (floor r : Float) where
  pub refused_rooms : (k : ℕ) (q : Rooms) → k ≡ refusal_of mesh floor r → (k ≡ 0 → ⊥) → q ≡ no_rooms k → q ≡ rooms_of mesh floor r
  unfolding rooms_of
  refused_rooms k q p h e = rooms_none _ _ k q p h e

  pub rooms_err : (e : Refusal) → number_of e ≡ refusal_of mesh floor r → (o : Result Counts Refusal) → o ≡ Err e → told o ≡ rooms_of mesh floor r
  rooms_err e a o h = refused_rooms (number_of e) (told o) a (not_zero e) (told_err e (number_of e) refl o h)

  pub found_rooms : (g : Grid) (q : Rooms) → refusal_of mesh floor r ≡ 0 → g ≡ grid_of mesh (triangles_in mesh) r → q ≡ rooms_in mesh (triangles_in mesh) g
      → q ≡ rooms_of mesh floor r
  unfolding rooms_of
  found_rooms g q z p e = rooms_next _ _ q z (e ∙ ap (rooms_in mesh (triangles_in mesh)) p)

-- ---- one refusal of the builder
module _ (k p : ℕ) (s m : List ℕ) (x : List Float) (next : Outcome) where
  told_next : k ≡ 0 → (unless k p s m x next).built.refusal ≡ next.built.refusal
  unfolding unless
  told_next e = rw (eq-eqb k 0 e) refl

  told_here : (j : ℕ) → k ≡ j → 0 < j → (unless k p s m x next).built.refusal ≡ j
  unfolding unless refused_by
  told_here j e h = rw (ne_eqb k 0 (λ z. omega arith)) e

  told_zero : (unless k p s m x next).built.refusal ≡ 0 → (k ≡ 0) × (next.built.refusal ≡ 0)
  unfolding unless refused_by
  told_zero e = by_test (eqb k 0) (λ t. (eqb-true k 0 t, rw t at e)) (λ t. absurd (eqb-false k 0 t (rw t at e)))

-- ---- refusals 5 and 6 with tables of any length
module _ (columns rows lent : ℕ) where
  grid_passes : Passed columns rows 1048577 → rows * columns + 1 ≤ lent → refusal_of_grid columns rows lent ≡ 0
  unfolding refusal_of_grid
  grid_passes a h =
      sym (refuse_next _ _ _ 0 (le-ltb _ _ a.wide)
      (refuse_next _ _ _ 0 (le-ltb _ _ a.tall) (refuse_next _ _ _ 0 (le-ltb _ _ a.few) (refuse_next _ _ _ 0 (le-ltb _ _ h) refl))))

  grid_short : Passed columns rows 1048577 → lent < rows * columns + 1 → refusal_of_grid columns rows lent ≡ 5
  unfolding refusal_of_grid
  grid_short a h =
      sym (refuse_next _ _ _ 5 (le-ltb _ _ a.wide)
      (refuse_next _ _ _ 5 (le-ltb _ _ a.tall) (refuse_next _ _ _ 5 (le-ltb _ _ a.few) (refuse_here _ _ _ 5 (lt-ltb _ _ h) refl))))

module _ (k lent : ℕ) where
  members_pass : k ≤ 16777216 → k ≤ lent → refusal_of_members k lent ≡ 0
  unfolding refusal_of_members
  members_pass a h = sym (refuse_next _ _ _ 0 (le-ltb _ _ a) (refuse_next _ _ _ 0 (le-ltb _ _ h) refl))

  members_short : k ≤ 16777216 → lent < k → refusal_of_members k lent ≡ 6
  unfolding refusal_of_members
  members_short a h = sym (refuse_next _ _ _ 6 (le-ltb _ _ a) (refuse_here _ _ _ 6 (lt-ltb _ _ h) refl))

-- ---- the promise
module _ (mesh : List Float) (floor r : Float) where
  abbrev grid : Grid
  grid = grid_of mesh (triangles_in mesh) r

  abbrev count : ℕ
  count = start_of (cover_of mesh grid) (triangles_in mesh) (cells_in grid)

  -- an answer without a refusal
  record Needed (q : Rooms) : Type 0 where
    plain : refusal_of mesh floor r ≡ 0
    cells : Passed grid.columns grid.rows 1048577
    few : count ≤ 16777216
    starts : q.starts ≡ cells_in grid + 1
    members : q.members ≡ count

  needed : (rooms_of mesh floor r).refusal ≡ 0 → Needed (rooms_of mesh floor r)
  unfolding rooms_of rooms_in
  needed e =
      let a = opened (refusal_of mesh floor r) _ e in
      let b = opened (refusal_of_grid grid.columns grid.rows 1048577) _ (sym (ap (λ (q : Rooms). q.refusal) a.1) ∙ e) in
      let c = opened (refusal_of_members count 16777216) _ (sym (ap (λ (q : Rooms). q.refusal) (a.1 ∙ b.1)) ∙ e) in
      let d = a.1 ∙ b.1 ∙ c.1 in
      record {
        plain = a.0;
        cells = passed _ _ _ b.0;
        few = (members_fit _ _ c.0).0;
        starts = ap (λ (q : Rooms). q.starts) d;
        members = ap (λ (q : Rooms). q.members) d;
      }

  module _ (s m : List ℕ) (x : List Float) where
    -- what a build tells: refusals 1 to 4, then 5, then 6
    past_mesh : refusal_of mesh floor r ≡ 0 → is_boxed mesh x ≡ true
        → (build_of mesh floor r s m x).built.refusal ≡ (gridded mesh (triangles_in mesh) grid floor r s m x).built.refusal
    unfolding build_of
    past_mesh e b = told_next _ _ s m x _ (with_boxes mesh floor r x b ∙ e)

    past_grid : refusal_of_grid grid.columns grid.rows (length s) ≡ 0
        → (gridded mesh (triangles_in mesh) grid floor r s m x).built.refusal ≡ (filled_of mesh (triangles_in mesh) grid floor r s m x).built.refusal
    unfolding gridded
    past_grid e = told_next _ _ s m x _ e

    at_grid : refusal_of_grid grid.columns grid.rows (length s) ≡ 5 → (gridded mesh (triangles_in mesh) grid floor r s m x).built.refusal ≡ 5
    unfolding gridded
    at_grid e = told_here _ _ s m x _ 5 e (lit< tt)

    past_members : refusal_of_members count (length m) ≡ 0 → (filled_of mesh (triangles_in mesh) grid floor r s m x).built.refusal ≡ 0
    unfolding filled_of accepted_with
    past_members e = told_next _ _ s m x _ e

    at_members : refusal_of_members count (length m) ≡ 6 → (filled_of mesh (triangles_in mesh) grid floor r s m x).built.refusal ≡ 6
    unfolding filled_of
    at_members e = told_here _ _ s m x _ 6 e (lit< tt)

    -- an accepted build has passed what the rooms are refused by
    none_refused : (build_of mesh floor r s m x).built.refusal ≡ 0 → (rooms_of mesh floor r).refusal ≡ 0
    unfolding build_of gridded filled_of rooms_of rooms_in is_boxed
    none_refused e =
        let a = told_zero _ _ s m x _ e in
        let b = told_zero _ _ s m x _ a.1 in
        let c = told_zero _ _ s m x _ b.1 in
        let p = passed _ _ _ b.0 in
        let f : refusal_of mesh floor r ≡ 0 = sym (with_boxes mesh floor r x (eq-eqb _ _ (accepted _ _ _ _ a.0).five)) ∙ a.0 in
        let g : refusal_of_grid grid.columns grid.rows 1048577 ≡ 0 =
        grid_passes _ _ 1048577 (record { wide = p.wide; tall = p.tall; few = p.few; room = omega (arith, p.few) }) (omega (arith, p.few)) in
        let h : refusal_of_members count 16777216 ≡ 0 = members_pass count 16777216 (members_fit _ _ c.0).0 (members_fit _ _ c.0).0 in
        sym (ap (λ (q : Rooms). q.refusal) (rooms_next _ _ _ f (rooms_next _ _ _ g (rooms_next _ _ _ h refl))))

  pub rooms_promise : (q : Rooms) → q ≡ rooms_of mesh floor r → RoomsPromise mesh floor r q
  rooms_promise q e =
      record {
        enough = λ z s m x b h l.
            let a = shown z in
            past_mesh s m x a.plain b ∙ past_grid s m x (grid_passes _ _ (length s) a.cells (omega (arith, a.starts)))
            ∙ past_members s m x (members_pass count (length m) a.few (omega (arith, a.members)));
        fewer_starts = λ z s m x b h. let a = shown z in past_mesh s m x a.plain b
            ∙ at_grid s m x (grid_short _ _ (length s) a.cells (omega (arith, a.starts)));
        fewer_members = λ z s m x b h l.
            let a = shown z in
            past_mesh s m x a.plain b ∙ past_grid s m x (grid_passes _ _ (length s) a.cells (omega (arith, a.starts)))
            ∙ at_members s m x (members_short count (length m) a.few (omega (arith, a.members)));
        never = λ z s m x f. z (ap (λ (q : Rooms). q.refusal) e ∙ none_refused s m x f);
      }
    where
      shown : q.refusal ≡ 0 → Needed q
      shown z = subst Needed (sym e) (needed (ap (λ (q : Rooms). q.refusal) (sym e) ∙ z))
