-- What a plan answers and leaves, refusal by refusal, and where it is accepted.
use Rattle.std.specs.Prelude.{Result, Ok, Err}
use mathlib.Core.Bool.{Bool, true, false, cond}
use mathlib.Core.List.{List, map}
use mathlib.Core.Logic.{⊎_elim}
use mathlib.Core.Path.{◌≡◌, refl, sym, ap, subst, ◌∙◌}
use Prim.Native.Nat.{ℕ, zero, suc, ◌*◌, ◌/◌, ◌≤◌, ◌<◌}
use native.Mathlib.Omega.{arith}
use borrow.Author.Tests.{eq-eqb, ne_eqb, lt-ltb, le-ltb, ltb-true, ltb-false, eqb-true}
use lib.Dec.{eqb, leb, ltb, lit<}
use lib.Ieee.{Float}
use lib.ListN.{length, get_or, replicate, length-replicate}
use Rattle.numbers.specs.Reals.{f0}
use Rattle.rules.proofs.Branches.{taken, left, both_true}
use Rattle.sort.proofs.Counts.{on_or_off}
use Rattle.fives.specs.Tables.{room_of, written, zeroed}
use Rattle.fives.proofs.Writing.{written_length}
use Rattle.grid.specs.Index.{Index, BuiltFrom}
use Rattle.rules.specs.Ladder.{refuse, demand}
use Rattle.grid.proofs.Indexing.{index_sound}
use Rattle.rules.proofs.Ladder.{demanded, refuse_here, refuse_next}
use Rattle.grid.specs.Boxes.{is_boxed}
use Rattle.query.specs.Asked.{is_marked}
use Rattle.query.specs.Usable.{usable_whole}
use Rattle.whole.proofs.Wholly.{whole_head, whole_walkable, sound_whole}
use Rattle.levels.specs.declared.Level.{Level}
use Rattle.levels.specs.Levels.{levels_of, five_of as levelFive}
use Rattle.runs.specs.declared.Run.{Run}
use Rattle.runs.specs.Runs.{joined_of, five_of as runFive}
use Rattle.runs.specs.Pieces.{kept_of}
use Rattle.rows.specs.declared.Axis.{Axis}
use Rattle.parameters.specs.declared.Parameters.{Parameters}
use Rattle.parameters.specs.Terms.{are_terms, too_fine, any_of, refusal_of_levels}
use Rattle.parameters.specs.Inside.{levels_in}
use Rattle.parameters.proofs.Testing.{levels_read}
use Rattle.probe.specs.Inside.{Askable, Marked}
use Rattle.row_runs.specs.Search.{Found}
use Rattle.search.specs.declared.Counted.{Counted}
use Rattle.search.specs.Inside.{Searched}
use Rattle.refusals.specs.declared.Refusal.{Refusal}
use Rattle.refusals.specs.Numbers.{number_of, code_of}
use Rattle.refusals.proofs.Named.{not_zero}
use Rattle.plan.specs.declared.Planned as planned
use Rattle.plan.specs.Plan.{refusal_of_input, refusal_of_tables, levels_under, found_on, Planned, told, Outcome, outcome}
use Rattle.plan.specs.Plan.{refused_by, accepted_with, wiped, worked_of, plan_of, NeverSeven}
use Rattle.plan.specs.Inside.{Ready, Surveys, Settled, given_up, settled_of, finished_of}
use Rattle.plan.proofs.Counting.{levels_few}
use Rattle.plan.proofs.Surveying.{Taken, survey_taken}

-- ---- 1, 23, 9 and 7

module _ (ix : Index) (marks : List ℕ) (p : Parameters) where
  pub passed : refusal_of_input ix marks p ≡ 0 → Ready ix marks
  unfolding refusal_of_input is_marked is_boxed
  passed z =
      let a = demanded (is_marked ix.mesh marks) 1 _ (lit< tt) z in
      let x = demanded (is_boxed ix.mesh ix.boxes) 23 _ (lit< tt) a.1 in
      let b = demanded (are_terms p ix.header.r ix.header.floor) 9 _ (lit< tt) x.1 in
      let u = (demanded (usable_whole ix) 7 0 (lit< tt) b.1).0 in
      let m = both_true (leb (length marks) 65536) (eqb (length ix.mesh) (length marks * 9)) a.0 in
      let w = whole_head ix u in
      let e : length ix.mesh ≡ length marks * 9 = eqb-true _ _ m.1 in
      record {
        askable = record {
          nine = w.nine;
          five = omega (arith, w.nine, eqb-true (length ix.boxes) (length ix.mesh / 9 * 5) x.0);
          few =
              w.ranged.few;
          walkable = whole_walkable ix u;
        };
        size = omega (arith, w.nine);
      }

  module _ (levels runs : List Float) (axis : Axis) where
    pub input_refused : (a : Result planned.Planned Refusal) (r : Refusal) → a ≡ Err r → number_of r ≡ refusal_of_input ix marks p
        → outcome (told a) levels runs marks ≡ plan_of ix marks levels runs p axis
    unfolding told plan_of
    input_refused a r q e = rw (q, ← e) (left _ _ _ _ (ne_eqb (number_of r) 0 (not_zero r)) refl)

    pub input_passed : (o : Outcome) → 0 ≡ refusal_of_input ix marks p → o ≡ worked_of ix marks levels runs p axis → o ≡ plan_of ix marks levels runs p axis
    unfolding plan_of
    input_passed o e f = taken _ _ _ _ (eq-eqb _ 0 (sym e)) f

-- ---- never 7 over the index built from its mesh

-- a rung whose number is not 7 gives 7 only where the next does
pub rung : (b : Bool) (k next : ℕ) → (k ≡ 7 → ⊥) → demand b k next ≡ 7 → next ≡ 7
unfolding demand
rung true k next n e = e
rung false k next n e = absurd (n e)

last_rung : (b : Bool) → b ≡ true → demand b 7 0 ≡ 7 → ⊥
unfolding demand
last_rung b t e = let z : ◌≡◌ {A = ℕ} 0 7 = rw t at e in omega arith

step : (b : Bool) (k next : ℕ) → (k ≡ 7 → ⊥) → refuse b k next ≡ 7 → next ≡ 7
unfolding refuse
step true k next n e = absurd (n e)
step false k next n e = e

by_zero : (b : Bool) (k l : ℕ) → (k ≡ 7 → ⊥) → (l ≡ 7 → ⊥) → cond b k l ≡ 7 → ⊥
by_zero true k l p q = p
by_zero false k l p q = q

pub either_way : (b : Bool) (x y : Outcome) → (x.answer.refusal ≡ 7 → ⊥) → (y.answer.refusal ≡ 7 → ⊥) → (cond b x y).answer.refusal ≡ 7 → ⊥
either_way true x y p q = p
either_way false x y p q = q

module _ (ix : Index) (marks : List ℕ) (levels runs : List Float) (p : Parameters) (axis : Axis) where
  input_seven : BuiltFrom ix → refusal_of_input ix marks p ≡ 7 → ⊥
  unfolding refusal_of_input
  input_seven b e =
      let f = rung _ 9 _ (λ z. omega arith) (rung _ 23 _ (λ z. omega arith) (rung _ 1 _ (λ z. omega arith) e)) in
      last_rung (usable_whole ix) (sound_whole ix (index_sound ix b)) f

  tables_seven : (lr rr : ℕ) (r : Float) (ls : List Level) (rs : List Run) → refusal_of_tables lr rr p axis r ls rs ≡ 7 → ⊥
  unfolding refusal_of_tables refusal_of_levels
  tables_seven lr rr r ls rs =
      by_zero (eqb (refusal_of_levels lr p axis r ls) 0) (refuse (ltb rr (length rs)) 13 0) (refusal_of_levels lr p axis r ls)
      (λ e. let z = step (ltb rr (length rs)) 13 0 (λ z. omega arith) e in omega arith)
      (λ e. let z = step _ 12 _ (λ z. omega arith) (step _ 10 _ (λ z. omega arith) (step _ 11 _ (λ z. omega arith) e)) in omega arith)

  worked_seven : (worked_of ix marks levels runs p axis).answer.refusal ≡ 7 → ⊥
  unfolding worked_of
  worked_seven =
      let ls = levels_under ix p in
      let f = found_on ix p axis ls in
      let rs = joined_of (kept_of f.pieces) in
      let k = refusal_of_tables (room_of levels) (room_of runs) p axis ix.header.r ls rs in
      either_way (eqb k 0)
      (outcome (accepted_with ls f rs) (written (map levelFive ls) (zeroed levels)) (written (map runFive rs) (zeroed runs)) (wiped marks))
      (outcome (refused_by k) (zeroed levels) (zeroed runs) (wiped marks))
      (λ e. omega arith) (tables_seven (room_of levels) (room_of runs) ix.header.r ls rs)

  pub planned_seven : BuiltFrom ix → (plan_of ix marks levels runs p axis).answer.refusal ≡ 7 → ⊥
  unfolding plan_of
  planned_seven b =
      either_way (eqb (refusal_of_input ix marks p) 0) (worked_of ix marks levels runs p axis) (outcome (refused_by (refusal_of_input ix marks p)) levels runs marks)
      worked_seven (input_seven b)

  pub never_seven : (a : Planned) (l r : List Float) (m : List ℕ) → outcome a l r m ≡ plan_of ix marks levels runs p axis → NeverSeven ix a.refusal
  never_seven a l r m e b s = planned_seven b (sym (ap (λ (o : Outcome). o.answer.refusal) e) ∙ s)

-- ---- 11, 10, 12 and 13

-- what the search left is settled as what it found
module _ (t u₀ u : List Float) (count : ℕ) (f : Found) (y : Counted) (s : Searched u₀ f u y) where
  abbrev rs : List Run
  rs = joined_of (kept_of f.pieces)

  searched_room : length u ≡ length u₀
  searched_room = ap length s.table ∙ written_length runFive (λ _. refl) rs u₀

  pub finished_is : settled_of t u count y ≡ finished_of t u₀ count f
  unfolding settled_of finished_of
  finished_is =
      let r : room_of u ≡ room_of u₀ = ap (λ (n : ℕ). n / 5) searched_room in
      ⊎_elim
      (λ (b : ltb (room_of u) y.tally.count ≡ true).
      let l : room_of u < y.tally.count = ltb-true (room_of u) y.tally.count b in
      rw (b, searched_room, lt-ltb (room_of u₀) (length rs) (omega (arith, s.count))))
      (λ (b : ltb (room_of u) y.tally.count ≡ false).
      let l : y.tally.count ≤ room_of u = ltb-false (room_of u) y.tally.count b in
      let n : y.tally.count ≡ length rs = omega (arith, s.count) in
      rw (b, le-ltb (room_of u₀) (length rs) (omega (arith, s.count)), s.table, n, s.rows, s.cut, s.dropped))
      (on_or_off (ltb (room_of u) y.tally.count))

zeros_below : (n i : ℕ) → get_or (replicate n 0) i 0 ≤ 0
zeros_below zero i = omega arith
zeros_below (suc n) zero = omega arith
zeros_below (suc n) (suc i) = zeros_below n i

wiped_marked : (n : ℕ) (marks m : List ℕ) → length marks ≡ n → m ≡ wiped marks → Marked n 0 m
wiped_marked n marks m size w =
    record { size = ap length w ∙ length-replicate (length marks) 0 ∙ size; below = λ i. rw w (zeros_below (length marks) i) }

zeroed_length : (t : List Float) → length (zeroed t) ≡ length t
zeroed_length t = length-replicate (length t) f0

module _ (ix : Index) (marks : List ℕ) (levels runs : List Float) (p : Parameters) (axis : Axis) where
  abbrev ls : List Level
  ls = levels_under ix p

  abbrev found : Found
  found = found_on ix p axis ls

  abbrev joined : List Run
  joined = joined_of (kept_of found.pieces)

  abbrev refusal : ℕ
  refusal = refusal_of_tables (room_of levels) (room_of runs) p axis ix.header.r ls joined

  abbrev answer : Outcome
  answer = worked_of ix marks levels runs p axis

  -- a late refusal, over tables that are as long as they were
  late : (k : ℕ) → k ≡ refusal → (k ≡ 0 → ⊥) → (s : Settled) (t u : List Float) (m : List ℕ) → length t ≡ length levels → length u ≡ length runs
      → s ≡ given_up k t u → m ≡ wiped marks →
      outcome s.answer s.levels s.runs m ≡ answer
  unfolding worked_of
  late k e n s t u m a b g w =
      left _ _ _ _ (ne_eqb refusal 0 (λ z. n (e ∙ z)))
      (ap (λ (x : Settled). outcome x.answer x.levels x.runs m) g
      ∙ ap (λ (j : ℕ). outcome (refused_by j) (zeroed t) (zeroed u) m) e
      ∙ (rw (a, b, w)))

  -- where the tables are zero and the levels are written
  module _ (t₀ u₀ t : List Float) (m : List ℕ) (s : Result ℕ Refusal) (size : length marks ≡ ix.header.n) (zt : t₀ ≡ zeroed levels) (zu : u₀ ≡ zeroed runs)
      (v₀ : Surveys (levels_of ix.mesh ix.boxes (length marks) p.tolerance p.level_tolerance ix.header.floor) p axis
      ix.header.r t₀ marks t m s) where
    v : Surveys ls p axis ix.header.r t₀ marks t m s
    unfolding levels_under
    v = subst (λ (n : ℕ). Surveys (levels_of ix.mesh ix.boxes n p.tolerance p.level_tolerance ix.header.floor) p axis
        ix.header.r t₀ marks t m s) size v₀

    levels_room : length t₀ ≡ length levels
    levels_room = ap length zt ∙ zeroed_length levels

    table_room : length t ≡ length levels
    table_room = ap length v.table ∙ written_length levelFive (λ _. refl) ls t₀ ∙ levels_room

    runs_room : length u₀ ≡ length runs
    runs_room = ap length zu ∙ zeroed_length runs

    tested : code_of s ≡ refusal_of_levels (room_of levels) p axis ix.header.r ls
    tested = v.refusal ∙ ap (λ (n : ℕ). refusal_of_levels (n / 5) p axis ix.header.r ls) levels_room

    -- 11, 10 or 12
    pub levels_refused : (k : Refusal) → s ≡ Err k → (a : Settled) → a ≡ given_up (number_of k) t u₀ → outcome a.answer a.levels a.runs m ≡ answer
    unfolding refusal_of_tables code_of
    levels_refused k q a e =
        let g : number_of k ≡ refusal_of_levels (room_of levels) p axis ix.header.r ls = rw q at tested in
        late (number_of k) (left _ _ _ _ (ne_eqb _ 0 (λ z. not_zero k (g ∙ z))) g) (not_zero k) a t u₀ m table_room runs_room e v.clean

    module _ (count : ℕ) (o : s ≡ Ok count) where
      z : code_of s ≡ 0
      unfolding code_of
      z = rw o refl

      counted : count ≡ length ls
      counted = rw o at v.count

      taken_levels : Taken t₀ ls p axis ix.header.r
      taken_levels = survey_taken t₀ ls p axis ix.header.r (sym v.refusal ∙ z)

      read : levels_in t 0 count ≡ ls
      read = ap (λ (x : List Float). levels_in x 0 count) v.table ∙ ap (levels_in (written (map levelFive ls) t₀) 0) counted
          ∙ levels_read t₀ ls taken_levels.room

      -- what the search asks for
      pub search_asks : Askable ix → Askable ix × Marked ix.header.n 0 m × (count * 5 ≤ length t) × (count ≤ 65536)
          × (any_of (too_fine p axis ix.header.r) (levels_in t 0 count) ≡ false)
      unfolding levels_under
      search_asks q = (
        q,
        wiped_marked ix.header.n marks m size v.clean,
        omega (arith, taken_levels.room, counted, table_room, levels_room),
        omega (arith, counted, q.few, levels_few ix.mesh ix.boxes ix.header.n p.tolerance p.level_tolerance ix.header.floor),
        rw read taken_levels.coarse,
      )

      -- 13, or accepted
      pub found_settled : (a : Settled) (m' : List ℕ) → a ≡ finished_of t u₀ count (found_on ix p axis (levels_in t 0 count))
          → m' ≡ replicate ix.header.n 0 → outcome a.answer a.levels a.runs m' ≡ answer
      unfolding finished_of refusal_of_tables worked_of
      found_settled a m' e w =
          ⊎_elim
          (λ (b : ltb (room_of runs) (length joined) ≡ true).
          late 13 (taken _ _ _ _ (eq-eqb _ 0 (sym tested ∙ z)) (refuse_here _ 13 0 13 b refl)) (λ d. omega arith) a t u₀ m' table_room runs_room (e
          ∙ (rw (read, runs_room, b))) clean)
          (λ (b : ltb (room_of runs) (length joined) ≡ false).
          taken _ _ _ _ (eq-eqb _ 0 (sym (taken _ _ _ _ (eq-eqb _ 0 (sym tested ∙ z)) (refuse_next _ 13 0 0 b refl))))
          (ap (λ (x : Settled). outcome x.answer x.levels x.runs m') e ∙ (rw (read, runs_room, b, v.table, zt, zu, counted, clean))))
          (on_or_off (ltb (room_of runs) (length joined)))
        where
          clean : m' ≡ wiped marks
          clean = w ∙ ap (λ (n : ℕ). replicate n 0) (sym size)
