-- What a row or a level adds does not turn on the pieces found before it, so what is taken row by row and level by level is what the whole search finds.
use mathlib.Core.Bool.{Bool, true, false, cond}
use mathlib.Core.List.{List, [], ◌++◌, append_assoc, append-nil}
use mathlib.Core.Path.{◌≡◌, refl, sym, ap, ◌∙◌}
use Prim.Native.Nat.{ℕ, zero, suc, ◌+◌}
use lib.Ieee.{Float}
use Rattle.levels.specs.declared.Level.{Level}
use Rattle.runs.specs.declared.Run.{Run}
use Rattle.runs.specs.declared.Tally.{Tally}
use Rattle.runs.specs.Pieces.{Piece}
use Rattle.runs.specs.Inside.{Work, work, taken_all, closed_of, begun}
use Rattle.runs.proofs.Tallying.{taken_append, tallied_starts, tallied_all, tallied_ends}
use Rattle.rows.specs.declared.Axis.{Axis}
use Rattle.rows.specs.declared.Lane.{Lane}
use Rattle.rows.specs.Stretches.{Ends, stretches_of}
use Rattle.parameters.specs.declared.Parameters.{Parameters}
use Rattle.probe.specs.declared.Aim.{Aim}
use Rattle.probe.specs.Probe.{on_level}
use Rattle.row_runs.specs.Search.{Found, pieces_along, empty, directed, row_found, rows_found, level_found}
use Rattle.search.specs.declared.Swept.{Swept}
use Rattle.search.specs.Inside.{from, Takes, Searched}

-- found behind some pieces
abbrev behind : List Piece → Found → Found
behind ps f = record { rows = f.rows; pieces = ps ++ f.pieces }

module _ (under : Run → Float) (a : Aim) where
  pub row_behind : (l : Lane) (ps : List Piece) (f : Found) → row_found under a (behind ps f) l ≡ behind ps (row_found under a f l)
  unfolding row_found
  row_behind l ps f = by (empty es)
    where
      es : List Ends
      es = stretches_of (on_level under a l) l.samples

      qs : List Piece
      qs = pieces_along under a l (directed (f.rows + 1) es)

      by : (b : Bool) → cond b (behind ps f) (record { rows = f.rows + 1; pieces = (ps ++ f.pieces) ++ qs })
          ≡ behind ps (cond b f (record { rows = f.rows + 1; pieces = f.pieces ++ qs }))
      by true = refl
      by false = ap (λ (x : List Piece). record { rows = f.rows + 1; pieces = x }) (append_assoc ps f.pieces qs)

  rows_behind : (lane : ℕ → Lane) (ps : List Piece) (n : ℕ) (f : Found) (row : ℕ)
      → rows_found under a lane (behind ps f) row n ≡ behind ps (rows_found under a lane f row n)
  unfolding rows_found
  rows_behind lane ps zero f row = refl
  rows_behind lane ps (suc n) f row =
      ap (λ (g : Found). rows_found under a lane g (row + 1) n) (row_behind (lane row) ps f) ∙ rows_behind lane ps n (row_found under a f (lane row)) (row + 1)

pub level_behind : (under : Run → Float) (p : Parameters) (axis : Axis) (r : Float) (l : Level) (ps : List Piece) (f : Found)
    → level_found under p axis r (behind ps f) l ≡ behind ps (level_found under p axis r f l)
unfolding level_found
level_behind under p axis r l ps f = rows_behind under _ _ ps _ f 0

-- ---- taking

pub takes_none : (t : List Float) (s : Swept) → Takes t s (from s) t s
unfolding taken_all
takes_none t s = record { rows = refl; taken = refl }

-- and then what g adds
pub takes_on : (g : Found → Found) → ((ps : List Piece) (f : Found) → g (behind ps f) ≡ behind ps (g f))
    → (t₀ : List Float) (s₀ : Swept) (f : Found) (t : List Float) (s : Swept) (t' : List Float) (s' : Swept) → Takes t₀ s₀ f t s → Takes t s (g (from s)) t' s'
    → Takes t₀ s₀ (g f) t' s'
takes_on g h t₀ s₀ f t s t' s' x y =
    let n : Found = record { rows = f.rows; pieces = [] } in
    let e : from s ≡ n = ap (λ (k : ℕ). record { rows = k; pieces = [] }) x.rows in
    let q : behind f.pieces (g n) ≡ g f = sym (h f.pieces n)
    ∙ ap (λ (ps : List Piece). g (record { rows = f.rows; pieces = ps })) (append-nil f.pieces) in
    record {
      rows = y.rows ∙ ap (λ (z : Found). (g z).rows) e ∙ ap (λ (z : Found). z.rows) q;
      taken =
          y.taken
          ∙ ap (λ (w : Work). taken_all w (g (from s)).pieces) x.taken
          ∙ sym (taken_append f.pieces (g (from s)).pieces (work t₀ s₀.stand.tally))
          ∙ ap (λ (z : Found). taken_all (work t₀ s₀.stand.tally) (f.pieces ++ (g z).pieces)) e
          ∙ ap (λ (z : Found). taken_all (work t₀ s₀.stand.tally) z.pieces) q;
    }

-- ---- the open run written

-- all taken from nothing, and the open run written
pub searched : (t₀ : List Float) (s₀ : Swept) (f : Found) (t : List Float) (s : Swept) (t' : List Float) (y : Tally) → s₀.stand.tally ≡ begun
    → Takes t₀ s₀ f t s → work t' y ≡ closed_of t s.stand.tally → Searched t₀ f t' (record { rows = s.rows; tally = y })
searched t₀ s₀ f t s t' y b x q =
    let w : Work = taken_all (work t₀ begun) f.pieces in
    let g = tallied_ends t₀ f.pieces w (tallied_all t₀ [] f.pieces (work t₀ begun) (tallied_starts t₀)) in
    let e : work t' y ≡ closed_of w.table w.tally =
    q ∙ ap (λ (v : Work). closed_of v.table v.tally) (x.taken ∙ ap (λ (z : Tally). taken_all (work t₀ z) f.pieces) b) in
    record {
      table = ap (λ (v : Work). v.table) e ∙ g.table;
      count = ap (λ (v : Work). v.tally.count) e ∙ g.count;
      cut = ap (λ (v : Work). v.tally.cut) e ∙ g.cut;
      dropped = ap (λ (v : Work). v.tally.dropped) e ∙ g.dropped;
      rows = x.rows;
    }
