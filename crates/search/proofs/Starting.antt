-- A level's rows over heights that decide the same: samples, pieces and so all that is taken are the same.
use mathlib.Core.Bool.{Bool, true, false, cond}
use mathlib.Core.List.{List, [], ◌∷◌, ◌++◌}
use mathlib.Core.Path.{◌≡◌, refl, sym, ap, ap₂, ◌∙◌, subst, fun_ext}
use Prim.Native.Nat.{ℕ, zero, suc, ◌+◌}
use lib.Ieee.{Float, le}
use Rattle.numbers.specs.Reals.{◌⊕◌}
use Rattle.levels.specs.declared.Level.{Level}
use Rattle.runs.specs.declared.Run.{Run}
use Rattle.runs.specs.Runs.{length_of}
use Rattle.runs.specs.Pieces.{Piece, piece, first_half, second_half, pieces_of}
use Rattle.rows.specs.declared.Axis.{Axis}
use Rattle.rows.specs.declared.Lane.{Lane}
use Rattle.rows.specs.declared.Axis.TheVariants.{X, Y}
use Rattle.rows.specs.Lanes.{laid_of, between}
use Rattle.rows.specs.Stretches.{Ends, stretches_of}
use Rattle.parameters.specs.declared.Parameters.{Parameters}
use Rattle.probe.specs.declared.Aim.{Aim}
use Rattle.grid.specs.declared.Header.{Header}
use Rattle.grid.specs.Index.{index_of}
use Rattle.probe.specs.Probe.{height_under, on_level, clear}
use Rattle.probe.specs.Inside.{Askable, Marked}
use Rattle.start.specs.Inside.{with_floor, Serves}
use Rattle.row_runs.specs.Search.{Found, pieces_along, empty, directed, row_found, rows_found, level_found, aim_of, lane_of}
use Rattle.row_runs.specs.Inside.{Coarse}
use Rattle.crests.specs.Inside.{Crested}
use Rattle.search.specs.declared.Swept.{Swept}
use Rattle.search.specs.Inside.{from, Takes}

laid_at : (x : Axis) (a b c z : Float) → (laid_of x a b c z).z ≡ z
unfolding laid_of
laid_at X a b c z = refl
laid_at Y a b c z = refl

between_at : (l : Lane) (i j : ℕ) → (between l i j).z ≡ l.z
unfolding between
between_at l i j = laid_at l.axis _ _ _ _

module _ (under other : Run → Float) (a : Aim) (z : Float) (s : Serves under other a z) where
  pieces_same : (least : Float) (left : ℕ) (r : Run) → r.z ≡ z → pieces_of (clear other a) least left r ≡ pieces_of (clear under a) least left r
  unfolding pieces_of
  pieces_same least zero r e = ap (λ (b : Bool). piece r b ∷ []) (s.clears r e)
  pieces_same least (suc left) r e =
      ap (λ (b : Bool). cond b (piece r true ∷ []) (cond (le (length_of r) least) (piece r false ∷ [])
      (pieces_of (clear other a) least left (first_half r) ++ pieces_of (clear other a) least left (second_half r)))) (s.clears r e)
      ∙ ap₂ (λ (x y : List Piece). cond (clear under a r) (piece r true ∷ []) (cond (le (length_of r) least) (piece r false ∷ []) (x ++ y)))
      (pieces_same least left (first_half r) e) (pieces_same least left (second_half r) e)

  along_same : (l : Lane) (es : List Ends) → l.z ≡ z → pieces_along other a l es ≡ pieces_along under a l es
  unfolding pieces_along
  along_same l [] e = refl
  along_same l (x ∷ es) e =
      ap₂ (λ (u v : List Piece). u ++ v) (pieces_same a.least 32 (between l x.from x.to) (between_at l x.from x.to ∙ e)) (along_same l es e)

  on_same : (l : Lane) → on_level other a l ≡ on_level under a l
  unfolding on_level
  on_same l = fun_ext (λ k. s.on (between l k k))

  row_same : (f : Found) (l : Lane) → l.z ≡ z → row_found other a f l ≡ row_found under a f l
  unfolding row_found
  row_same f l e =
      ap (λ (on : ℕ → Bool). cond (empty (stretches_of on l.samples)) f
      (record { rows = f.rows + 1; pieces = f.pieces ++ pieces_along other a l (directed (f.rows + 1) (stretches_of on l.samples)) })) (on_same l)
      ∙ ap (λ (ps : List Piece). cond (empty (stretches_of (on_level under a l) l.samples)) f (record { rows = f.rows + 1; pieces = f.pieces ++ ps }))
      (along_same l (directed (f.rows + 1) (stretches_of (on_level under a l) l.samples)) e)

  rows_same : (lane : ℕ → Lane) → ((k : ℕ) → (lane k).z ≡ z) → (n row : ℕ) (f : Found) → rows_found other a lane f row n ≡ rows_found under a lane f row n
  unfolding rows_found
  rows_same lane e zero row f = refl
  rows_same lane e (suc n) row f = ap (λ (v : Found). rows_found other a lane v (row + 1) n) (row_same f (lane row) (e row)) ∙ rows_same lane e n (row + 1) _

pub level_same : (under other : Run → Float) (p : Parameters) (axis : Axis) (r : Float) (l : Level) (f : Found)
    → Serves under other (aim_of p r l) (l.z ⊕ p.stock_to_leave) → level_found other p axis r f l ≡ level_found under p axis r f l
unfolding level_found lane_of
level_same under other p axis r l f s = rows_same under other (aim_of p r l) (l.z ⊕ p.stock_to_leave) s (lane_of p axis r l) (λ k. refl) _ 0 f

-- ---- over a header with another floor
pub marks_there : (n k stamp : ℕ) (marks : List ℕ) → n ≡ k → Marked n stamp marks → Marked k stamp marks
marks_there n k stamp marks e m = subst (λ (j : ℕ). Marked j stamp marks) e m

module _ (mesh : List Float) (h : Header) (starts members : List ℕ) (boxes : List Float) (g : Header) (e : g ≡ with_floor h g.floor) where
  same_n : g.n ≡ h.n
  same_n = ap (λ (k : Header). k.n) e

  same_r : g.r ≡ h.r
  same_r = ap (λ (k : Header). k.r) e

  askable_there : Askable (index_of mesh h starts members boxes) → Askable (index_of mesh g starts members boxes)
  askable_there q =
      subst (λ (k : Header). Askable (index_of mesh k starts members boxes)) (sym e)
      (record { nine = q.nine; five = q.five; few = q.few; walkable = q.walkable })

  pub rows_ask : (stamp : ℕ) (marks : List ℕ) (p : Parameters) (axis : Axis) (l : Level) → Askable (index_of mesh h starts members boxes)
      → Marked h.n stamp marks → Coarse p axis h.r l
      → Askable (index_of mesh g starts members boxes) × Marked g.n stamp marks × Coarse p axis g.r l
  rows_ask stamp marks p axis l q m c =
      (askable_there q, marks_there _ _ stamp marks (sym same_n) m, subst (λ (r : Float). Coarse p axis r l) (sym same_r) c)

  pub level_there : (p : Parameters) (axis : Axis) (l : Level) (a : Aim) (t : List Float) (s : Swept) (t' : List Float) (s' : Swept) → a ≡ aim_of p h.r l
      → Serves (height_under (index_of mesh h starts members boxes)) (height_under (index_of mesh g starts members boxes)) a (l.z ⊕ p.stock_to_leave)
      → Takes t s (level_found (height_under (index_of mesh g starts members boxes)) p axis g.r (from s) l) t' s'
      → Takes t s (level_found (height_under (index_of mesh h starts members boxes)) p axis h.r (from s) l) t' s'
  level_there p axis l a t s t' s' d v q =
      let e : level_found (height_under (index_of mesh g starts members boxes)) p axis g.r (from s) l
      ≡ level_found (height_under (index_of mesh h starts members boxes)) p axis h.r (from s) l =
      ap (λ (r : Float). level_found (height_under (index_of mesh g starts members boxes)) p axis r (from s) l) same_r
      ∙ level_same _ _ p axis h.r l (from s) (subst (λ (b : Aim). Serves (height_under (index_of mesh h starts members boxes))
      (height_under (index_of mesh g starts members boxes)) b (l.z ⊕ p.stock_to_leave)) d v) in
      subst (λ (f : Found). Takes t s f t' s') e q

-- the crests do not turn on the floor
pub crests_there : (starts members : List ℕ) (boxes crests : List Float) (h : Header) {g : Header} → g ≡ with_floor h g.floor
    → Crested starts members boxes h.columns h.rows crests → Crested starts members boxes g.columns g.rows crests
crests_there starts members boxes crests h {g} e c = subst (λ (k : Header). Crested starts members boxes k.columns k.rows crests) (sym e) c
