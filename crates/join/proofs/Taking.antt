-- The runs of a table taken one after the other, while the joined ones are written over its front.
use mathlib.Core.Bool.{Bool, true, false, cond}
use mathlib.Core.List.{List, [], ◌∷◌, ◌++◌, map}
use mathlib.Core.Path.{◌≡◌, refl, sym, ap, ◌∙◌}
use Prim.Native.Nat.{ℕ, zero, suc, ◌+◌, ◌≤◌, min}
use native.Mathlib.Numerals.{add-one}
use native.Mathlib.Omega.{arith}
use lib.Ieee.{Float}
use lib.ListN.{length, length-append}
use Rattle.fives.specs.Tables.{room_of, written}
use Rattle.fives.proofs.Grouping.{Opened, opened_ends}
use Rattle.runs.specs.Runs.{touches_of, lengthened, joined_of, five_of}
use Rattle.runs.specs.Pieces.{Piece, piece, kept_of}
use Rattle.runs.specs.Inside.{Work, work, taken_by, closed_of, begun}
use Rattle.runs.specs.declared.Run.{Run}
use Rattle.runs.proofs.Tallying.{Tallied, tallied_starts, tallied_goes, tallied_ends}
use Rattle.join.specs.Join.{run_in, runs_in, runs_of}
use Rattle.join.proofs.Whenever.{joined_few}
use Rattle.join.proofs.Tables.{run_past}

-- every run is kept
abbrev all : List Run → List Piece
all rs = map (λ (r : Run). piece r true) rs

all_kept : (rs : List Run) → kept_of (all rs) ≡ rs
unfolding kept_of
all_kept [] = refl
all_kept (r ∷ rs) = ap (λ (l : List Run). r ∷ l) (all_kept rs)

pub in-length : (t : List Float) (m n : ℕ) → length (runs_in t m n) ≡ n
unfolding runs_in
in-length t m zero = refl
in-length t m (suc n) = ap suc (in-length t (m + 1) n)

all_more : (t : List Float) (m n : ℕ) → all (runs_in t m n) ++ piece (run_in t (m + n)) true ∷ [] ≡ all (runs_in t m (suc n))
unfolding runs_in
all_more t m zero = let e : m + 0 ≡ m = omega arith in ap (λ (i : ℕ). piece (run_in t i) true ∷ []) e
all_more t m (suc n) =
    let e : m + suc n ≡ (m + 1) + n = omega arith in
    ap (λ (l : List Piece). piece (run_in t m) true ∷ l) (ap (λ (i : ℕ). all (runs_in t (m + 1) n) ++ piece (run_in t i) true ∷ []) e ∙ all_more t (m + 1) n)

-- the first m runs are taken
abbrev pub Taken : List Float → ℕ → Work → Type 0
Taken t₀ m w = Tallied t₀ (all (runs_in t₀ 0 m)) w

pub taken_starts : (t₀ : List Float) → Taken t₀ 0 (work t₀ begun)
unfolding runs_in
taken_starts t₀ = tallied_starts t₀

module _ (t₀ : List Float) (m : ℕ) (w : Work) (g : Taken t₀ m w) where
  -- what is written is no more than what is taken
  done_few : length g.done ≤ m
  done_few = by w.tally.some g.last
    where
      kept : kept_of (all (runs_in t₀ 0 m)) ≡ runs_in t₀ 0 m
      kept = all_kept (runs_in t₀ 0 m)

      by : (b : Bool) → cond b (Opened touches_of lengthened (λ r. r) (kept_of (all (runs_in t₀ 0 m))) g.done w.tally.last)
          ((kept_of (all (runs_in t₀ 0 m)) ≡ []) × (g.done ≡ [])) → length g.done ≤ m
      by true o =
          let e : joined_of (runs_in t₀ 0 m) ≡ g.done ++ w.tally.last ∷ [] = ap joined_of (sym kept)
          ∙ (unfold joined_of in opened_ends touches_of lengthened (λ r. r) (kept_of (all (runs_in t₀ 0 m))) g.done w.tally.last o) in
          omega (arith, joined_few (runs_in t₀ 0 m), in-length t₀ 0 m, ap length e, length-append g.done (w.tally.last ∷ []))
      by false n = rw n.1 (omega arith)

  pub reads_run : run_in w.table m ≡ run_in t₀ m
  reads_run = rw g.table (run_past g.done t₀ m done_few)

  pub taken_goes : (r : Run) (w' : Work) → r ≡ run_in w.table m → w' ≡ taken_by w.table w.tally r true → Taken t₀ (m + 1) w'
  taken_goes r w' e f =
      let next = tallied_goes t₀ (all (runs_in t₀ 0 m)) w (run_in t₀ m) true g in
      let z : 0 + m ≡ m = omega arith in
      let p : all (runs_in t₀ 0 m) ++ piece (run_in t₀ m) true ∷ [] ≡ all (runs_in t₀ 0 (m + 1)) =
      ap (λ (i : ℕ). all (runs_in t₀ 0 m) ++ piece (run_in t₀ i) true ∷ []) (sym z) ∙ all_more t₀ 0 m
      ∙ ap (λ (i : ℕ). all (runs_in t₀ 0 i)) (sym (add-one m)) in
      rw (f, e, reads_run, ← p) next

-- all are taken, and the open one is written
pub taken_ends : (t₀ : List Float) (w w' : Work) → Taken t₀ (room_of t₀) w → w' ≡ closed_of w.table w.tally →
    (w'.table ≡ written (map five_of (joined_of (runs_of t₀))) t₀) × (w'.tally.count ≡ length (joined_of (runs_of t₀)))
taken_ends t₀ w w' g e =
    let k : kept_of (all (runs_of t₀)) ≡ runs_of t₀ = all_kept (runs_of t₀) in
    let z = rw (← e) at (tallied_ends t₀ (all (runs_of t₀)) w g) in
    let n : w'.tally.count ≡ min (length (joined_of (runs_of t₀))) (room_of t₀ + 1) = z.count
    ∙ ap (λ (l : List Run). min (length (joined_of l)) (room_of t₀ + 1)) k in
    (z.table ∙ ap (λ (l : List Run). written (map five_of (joined_of l)) t₀) k, omega (arith, n, joined_few (runs_of t₀), in-length t₀ 0 (room_of t₀)))
