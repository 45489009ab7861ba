-- A walk that passes over low cells: its best is that of the list so far, one after the other, whichever cells were walked.
use mathlib.Core.Bool.{Bool, true, false, cond}
use mathlib.Core.List.{List, [], ◌++◌, append_assoc, append-nil}
use mathlib.Core.Logic.{inl, inr}
use mathlib.Core.Path.{◌≡◌, refl, ap, sym, ◌∙◌}
use Prim.Native.Nat.{ℕ, suc, ◌+◌, ◌-◌, ◌*◌, ◌≤◌, ◌<◌}
use native.Mathlib.Omega.{arith}
use borrow.Author.Tests.{ltb-true, ltb-false}
use lib.Dec.{eqb, ltb}
use lib.Ieee.{Float, lt, le}
use lib.ListN.{length, get_or, replicate, length-replicate, get_or-replicate, get_or-eq_default}
use Rattle.rules.proofs.Branches.{by_test}
use Rattle.plane.specs.declared.Best.{Best}
use Rattle.capsule.specs.declared.Capsule.{Capsule}
use Rattle.walk.specs.Walk.{Walk, over, cell, row, block, fold, next_stamp, ready_marks}
use Rattle.walk.specs.Inside.{seen, look, Below, Room, Walkable}
use Rattle.walk.proofs.Rings.{Kept, cell_keeps, kept_same, kept_trans, fold_append, unmarked_length}
use Rattle.walk.proofs.Marks.{ready_length}
use Rattle.height.specs.Sweep.{disk_step}
use Rattle.crests.specs.Inside.{CapsAll, NoneAbove, Fair, Goes, Passed}
use Rattle.crests.proofs.Settling.{fold_fair, fold_low}

-- ---- one cell
over_one : (f : ℕ → List ℕ) (a : ℕ) → over f a (a + 1 - a) ≡ f a
unfolding over
over_one f a = let n : a + 1 - a ≡ 1 = omega arith in ap (over f a) n ∙ append-nil (f a)

module _ (starts members : List ℕ) (n columns x y : ℕ) where
  pub walk_one : (x0 x1 y0 y1 : ℕ) → Walkable starts members n columns x0 x1 y0 y1 → x0 ≤ x → x < x1 → y0 ≤ y → y < y1
      → Walkable starts members n columns x (x + 1) y (y + 1)
  walk_one x0 x1 y0 y1 w a b c d =
      record {
        stretch = λ u v k l m o. w.stretch u v (omega arith) (omega arith) (omega arith) (omega arith);
        below = λ u v k l m o. w.below u v (omega arith) (omega arith) (omega arith) (omega arith);
      }

  pub block_one : block starts members columns x (x + 1) y (y + 1) ≡ cell starts members (y * columns + x)
  block_one = over_one (row starts members columns x (x + 1)) y ∙ over_one (λ u. cell starts members (y * columns + u)) x

module _ (mesh boxes : List Float) (q : Capsule) (stamp : ℕ) (w : Walk Best) (ms : List ℕ) (f : Fair stamp (disk_step mesh boxes q) w) where
  pub passed_low : (crest : Float) (r : Bool) → CapsAll boxes crest ms → r ≡ le crest w.value.height → r ≡ true → Goes stamp (disk_step mesh boxes q) w ms w
  passed_low crest r g e t =
      record { value = sym (fold_low mesh boxes q ms w.value (λ k l. g k l w.value.height (sym e ∙ t))); fair = f; size = refl; room = refl }

  pub walked_on : (w' : Walk Best) → w' ≡ fold (look stamp (disk_step mesh boxes q)) w ms → Below (length w.marks) ms
      → Goes stamp (disk_step mesh boxes q) w ms w'
  walked_on w' e b =
      let g = fold_fair mesh boxes q stamp ms w f in
      let k = cell_keeps stamp (disk_step mesh boxes q) ms e b in
      record { value = rw e g.0; fair = rw e g.1; size = k.size; room = k.room }

pub goes_kept : {stamp : ℕ} {step : Best → ℕ → Best} {w : Walk Best} {ms : List ℕ} {w' : Walk Best} → Goes stamp step w ms w' → Kept stamp w w'
goes_kept g = record { size = g.size; room = g.room }

-- ---- a row of cells, and the rows
pub record Along (stamp : ℕ) (step : Best → ℕ → Best) (w₀ : Walk Best) (all : List ℕ) (w : Walk Best) (rest : List ℕ) : Type 0 where
  pub same : fold step w.value rest ≡ fold step w₀.value all
  pub fair : Fair stamp step w
  pub kept : Kept stamp w₀ w

pub record Gone (stamp : ℕ) (step : Best → ℕ → Best) (w₀ : Walk Best) (all : List ℕ) (w : Walk Best) (rest : List ℕ) : Type 0 where
  pub front : List ℕ
  pub whole : all ≡ front ++ rest
  pub value : w.value ≡ fold step w₀.value front
  pub fair : Fair stamp step w
  pub kept : Kept stamp w₀ w

module _ {stamp : ℕ} {step : Best → ℕ → Best} {w₀ : Walk Best} {all : List ℕ} where
  pub along_starts : Fair stamp step w₀ → Along stamp step w₀ all w₀ all
  along_starts f = record { same = refl; fair = f; kept = kept_same stamp w₀ }

  pub along_turns : (f : ℕ → List ℕ) (a b : ℕ) {w w' : Walk Best} → a < b → Along stamp step w₀ all w (over f a (b - a)) → Goes stamp step w (f a) w'
      → Along stamp step w₀ all w' (over f (a + 1) (b - (a + 1)))
  unfolding over
  along_turns f a b {w} {w'} h g e =
      let n : b - a ≡ suc (b - (a + 1)) = omega arith in
      record {
        same = ap (λ (v : Best). fold step v (over f (a + 1) (b - (a + 1)))) e.value
            ∙ (sym (fold_append step (f a) (over f (a + 1) (b - (a + 1))) w.value) ∙ (rw n at g.same));
        fair = e.fair;
        kept = kept_trans g.kept (goes_kept e);
      }

  pub along_ends : (f : ℕ → List ℕ) (a b : ℕ) {w : Walk Best} → b ≤ a → Along stamp step w₀ all w (over f a (b - a)) → w.value ≡ fold step w₀.value all
  unfolding over fold
  along_ends f a b h g = let n : b - a ≡ 0 = omega arith in rw n at g.same

  pub gone_starts : Fair stamp step w₀ → Gone stamp step w₀ all w₀ all
  unfolding fold
  gone_starts f = record { front = []; whole = refl; value = refl; fair = f; kept = kept_same stamp w₀ }

  pub gone_turns : (f : ℕ → List ℕ) (a b : ℕ) {w w' : Walk Best} → a < b → Gone stamp step w₀ all w (over f a (b - a)) → w'.value ≡ fold step w.value (f a)
      → Fair stamp step w' → Kept stamp w w' → Gone stamp step w₀ all w' (over f (a + 1) (b - (a + 1)))
  unfolding over
  gone_turns f a b {w} {w'} h g e i k =
      let n : b - a ≡ suc (b - (a + 1)) = omega arith in
      record {
        front = g.front ++ f a;
        whole = (rw n at g.whole) ∙ sym (append_assoc g.front (f a) (over f (a + 1) (b - (a + 1))));
        value = e ∙ (ap (λ (v : Best). fold step v (f a)) g.value ∙ sym (fold_append step g.front (f a) w₀.value));
        fair = i;
        kept = kept_trans g.kept k;
      }

  pub gone_ends : (f : ℕ → List ℕ) (a b : ℕ) (limit : Float) {w : Walk Best} → b ≤ a → Gone stamp step w₀ all w (over f a (b - a))
      → Passed step w₀.value all limit w.value
  unfolding over
  gone_ends f a b limit h g =
      let n : b - a ≡ 0 = omega arith in
      record { front = g.front; rest = []; whole = rw n at g.whole; value = g.value; why = inl refl }

  pub gone_halts : (limit : Float) (rest : List ℕ) {w : Walk Best} → lt limit w.value.height ≡ true → Gone stamp step w₀ all w rest
      → Passed step w₀.value all limit w.value
  gone_halts limit rest h g = record { front = g.front; rest = rest; whole = g.whole; value = g.value; why = inr h }

-- ---- the marks that a walk begins with have its stamp nowhere
zeros : (n i : ℕ) → ◌≡◌ {A = ℕ} (get_or (replicate n 0) i 0) 0
zeros n i =
    by_test (ltb i n)
    (λ e. get_or-replicate n i 0 0 (ltb-true i n e))
    (λ e. get_or-eq_default (replicate n 0) 0 (rw (length-replicate {A = ℕ} n 0) (ltb-false i n e)))

ready_low : (marks : List ℕ) (stamp : ℕ) → NoneAbove stamp marks → (i : ℕ) → get_or (ready_marks marks stamp) i 0 < next_stamp stamp
unfolding next_stamp ready_marks
ready_low marks stamp m i = by (eqb stamp 4294967295)
  where
    by : (b : Bool) → get_or (cond b (replicate (length marks) 0) marks) i 0 < cond b 1 (stamp + 1)
    by true = rw (zeros (length marks) i) (omega arith)
    by false = omega (arith, m i)

pub fair_start : (step : Best → ℕ → Best) (marks m : List ℕ) (stamp next count : ℕ) (v : Best) → NoneAbove stamp marks → m ≡ ready_marks marks stamp
    → next ≡ next_stamp stamp → Fair next step (record { marks = m; count = count; value = v })
fair_start step marks m stamp next count v h e f =
    let l : (i : ℕ) → get_or m i 0 < next = λ i. rw (e, f) (ready_low marks stamp h i) in
    record { settled = λ i z. absurd (omega (arith, l i)); below = λ i. omega (arith, l i) }

-- what the walk may rely on as it begins
pub pass_ready : (mesh boxes : List Float) (starts members : List ℕ) (q : Capsule) (marks m : List ℕ) (stamp next columns x0 x1 y0 y1 : ℕ) (v : Best)
    → m ≡ ready_marks marks stamp → next ≡ next_stamp stamp
    → length mesh ≡ length marks * 9 → length boxes ≡ length marks * 5 → length marks ≤ 65536
    → Walkable starts members (length marks) columns x0 x1 y0 y1 → NoneAbove stamp marks
    → (length mesh ≡ length m * 9) × (length boxes ≡ length m * 5) × Walkable starts members (length m) columns x0 x1 y0 y1
    × Room next (seen m (record { count = 0; best = v })) × Fair next (disk_step mesh boxes q) (seen m (record { count = 0; best = v }))
pass_ready mesh boxes starts members q marks m stamp next columns x0 x1 y0 y1 v e f nine five few w h =
    let l : length m ≡ length marks = ap length e ∙ ready_length marks stamp in
    (omega arith, omega arith, rw l w, omega (arith, unmarked_length next m), fair_start (disk_step mesh boxes q) marks m stamp next 0 v h e f)
