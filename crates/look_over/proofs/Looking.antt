-- A whole look: what is refused, what an accepted list may rely on, and what its verdict promises.
use mathlib.Core.Bool.{true, false}
use mathlib.Core.List.{List}
use mathlib.Core.Path.{◌≡◌, refl, ap, sym, subst, ◌∙◌}
use Prim.Native.Nat.{ℕ, zero, suc, ◌+◌, ◌*◌, ◌≤◌, ◌<◌}
use native.Mathlib.Nat.{zero-add}
use native.Mathlib.Omega.{arith}
use borrow.Author.Tests.{eq-eqb, ne_eqb, eqb-true, eqb-false}
use lib.Dec.{eqb, leb, lit<}
use lib.Ieee.{Float, to_bits}
use lib.ListN.{length, get_or, replicate, length-replicate}
use Rattle.rules.proofs.Branches.{taken, left, both_true, by_test}
use Rattle.fields.specs.Little.{value}
use Rattle.grid.specs.Boxes.{is_boxed}
use Rattle.grid.specs.Index.{Index}
use Rattle.rules.proofs.Ladder.{demanded}
use Rattle.query.specs.Asked.{is_marked}
use Rattle.query.specs.Usable.{usable_whole}
use Rattle.rules.proofs.Testing.{every_at}
use Rattle.whole.proofs.Wholly.{whole_head}
use Rattle.tool.specs.Tool.{is_tool}
use Rattle.runs.specs.declared.Run.{Run}
use Rattle.runs.proofs.Chaining.{each_more}
use Rattle.probe.specs.Inside.{Marked}
use Rattle.plan.specs.Plan.{plan_of}
use Rattle.plan.specs.Lost.{asked_again, Safe, pieces_on}
use Rattle.plan.proofs.Losing.{lost_none}
use Rattle.paths.specs.Layout.{count}
use Rattle.paths.specs.Reader.{point_of, move_of}
use Rattle.paths.specs.Reader as reader
use Rattle.paths.proofs.Ladder.{sound}
use Rattle.look_over.specs.declared.Fault.TheVariants.{Sound}
use Rattle.look_over.specs.declared.Verdict.{Verdict}
use Rattle.look_over.specs.declared.Verdict.TheVariants.{Unsaid}
use Rattle.look_over.specs.Look.{keeps_z, cut_clear, fault_of_cut, fault_by, fault_of}
use Rattle.look_over.specs.Verdict.{is_place, are_places, is_tolerance, refusal_of_tool, refusal_of_numbers, refusal_of}
use Rattle.look_over.specs.Verdict.{ended, verdict_of, look_over_of, Judged, cut_of, OwnCutsPass}
use Rattle.look_over.specs.Inside.{Answerable, Readable, Placed}
use Rattle.look_over.proofs.Listing.{passes_all_lem, all_passes, fails_first}

-- ---- the points of a list that was read
module _ (bytes : List ℕ) (r : Readable bytes) where
  pub place_at : (p : ℕ) → p ≤ value count bytes → is_place (point_of bytes p) ≡ true
  unfolding are_places
  place_at p h = every_at (λ q. is_place (point_of bytes q)) 0 (value count bytes + 1) p r.places (omega arith) (omega arith)

  pub move_placed : (t : ℕ) → t < value count bytes → Placed (move_of bytes t)
  unfolding move_of
  move_placed t h = record { start = place_at t (omega arith); end = place_at (t + 1) (omega arith) }

-- ---- marks that were wiped
zero_mark : (n i : ℕ) → get_or {A = ℕ} (replicate n 0) i 0 ≡ 0
zero_mark zero i = refl
zero_mark (suc n) zero = refl
zero_mark (suc n) (suc i) = zero_mark n i

pub wiped_marked : (n : ℕ) (marks m : List ℕ) → length marks ≡ n → m ≡ replicate (length marks) 0 → Marked n 0 m
wiped_marked n marks m l e =
    record { size = ap length e ∙ length-replicate {A = ℕ} (length marks) 0 ∙ l; below = λ i. rw (e, zero_mark (length marks) i) (omega arith) }

pub wiped_again : (n k : ℕ) (m w : List ℕ) → m ≡ replicate n 0 → k ≡ length m → w ≡ replicate k 0 → w ≡ replicate n 0
wiped_again n k m w e l p = p ∙ ap (λ (j : ℕ). replicate {A = ℕ} j 0) (l ∙ ap length e ∙ length-replicate {A = ℕ} n 0)

-- ---- what is refused
module _ (bytes : List ℕ) (ix : Index) (marks : List ℕ) (table : List Float) (tolerance : Float) where
  -- what an accepted list may rely on
  pub record Ready : Type 0 where
    pub readable : Readable bytes
    pub answerable : Answerable ix table
    pub size : length marks ≡ ix.header.n

  rest_passed : reader.Sound bytes → refusal_of_numbers bytes ix marks table tolerance ≡ 0 → Ready
  unfolding refusal_of_numbers refusal_of_tool is_marked
  rest_passed s z =
      let a = demanded (is_marked ix.mesh marks) 1 _ (lit< tt) z in
      let x = demanded (is_boxed ix.mesh ix.boxes) 23 _ (lit< tt) a.1 in
      let b = demanded (is_tolerance tolerance) 2 _ (lit< tt) x.1 in
      let c = demanded (are_places bytes (value count bytes)) 2 _ (lit< tt) b.1 in
      let d = demanded (is_tool table) 8 _ (lit< tt) c.1 in
      let u = (demanded (usable_whole ix) 7 0 (lit< tt) d.1).0 in
      let m = both_true (leb (length marks) 65536) (eqb (length ix.mesh) (length marks * 9)) a.0 in
      let e : length ix.mesh ≡ length marks * 9 = eqb-true _ _ m.1 in
      record {
        readable = record { sound = s; places = c.0 };
        answerable = record { indexed = record { boxed = x.0; whole = u }; tool = d.0 };
        size = omega (arith, (whole_head ix u).nine);
      }

  pub passed : refusal_of bytes ix marks table tolerance ≡ 0 → Ready
  unfolding refusal_of
  passed =
      let k = reader.refusal_of bytes in
      by_test (eqb k 0)
      (λ (t : eqb k 0 ≡ true). rw t (λ z. rest_passed (sound bytes (eqb-true k 0 t)) z))
      (λ (t : eqb k 0 ≡ false). rw t (λ (z : k ≡ 0). absurd (eqb-false k 0 t z)))

  -- ---- the rung of the file
  module _ (k : ℕ) (e : k ≡ reader.refusal_of bytes) where
    pub file_refused : (k ≡ 0 → ⊥) → k ≡ refusal_of bytes ix marks table tolerance
    unfolding refusal_of
    file_refused n = rw (← e) (left _ _ _ _ (ne_eqb k 0 n) refl)

    pub file_passed : (j : ℕ) → k ≡ 0 → j ≡ refusal_of_numbers bytes ix marks table tolerance → j ≡ refusal_of bytes ix marks table tolerance
    unfolding refusal_of
    file_passed j z p = rw (← e) (taken _ _ _ _ (eq-eqb k 0 z) p)

  -- ---- what the verdict promises
  pub judged_is : (v : Verdict) → v ≡ verdict_of bytes ix table tolerance → Judged bytes ix table tolerance v
  judged_is v e =
      let fault = fault_of ix table tolerance in
      let n = value count bytes in
      record {
        all = (
          λ p t h. rw (← zero-add t) (passes_all_lem fault bytes n 0 (sym e ∙ p) t h),
          λ g. e ∙ all_passes fault bytes n 0 (λ i h. rw zero-add (g i h)),
        );
        first = λ t f p.
            let r = fails_first fault bytes n 0 t f (sym e ∙ p) in
            record { one = omega (arith, r.below); fault = r.has; bad = r.bad; first = λ s h. r.before s (omega arith) h };
      }

  -- ---- the plan's own cuts
  own_cut : (q : Run) → Safe ix tolerance q → fault_of ix table tolerance (cut_of q) ≡ Sound
  unfolding fault_by fault_of_cut keeps_z cut_clear asked_again
  own_cut q s = rw (eq-eqb (to_bits _ q.z) (to_bits _ q.z) refl, s.again.1)

  pub own_cuts : OwnCutsPass ix table tolerance
  own_cuts m levels runs p axis z e =
      let o = plan_of ix m levels runs p axis in
      let l = lost_none ix m levels runs p axis o.answer o.levels o.runs o.marks refl z in
      each_more (Safe ix p.tolerance) _ (λ q s. own_cut q (subst (λ (t : Float). Safe ix t q) e s)) (pieces_on ix p axis) l.kept

  -- ---- the answer, and what is promised beside it
  module _ (k : ℕ) (e : k ≡ refusal_of bytes ix marks table tolerance) where
    pub look_refused : (k ≡ 0 → ⊥) → ended (record { refusal = k; verdict = Unsaid }) marks ≡ look_over_of bytes ix marks table tolerance
    unfolding look_over_of
    look_refused n = rw (← e) (left _ _ _ _ (ne_eqb k 0 n) refl)

    pub look_judged : (v : Verdict) (m : List ℕ) → k ≡ 0 → v ≡ verdict_of bytes ix table tolerance → m ≡ replicate (length marks) 0
        → ended (record { refusal = 0; verdict = v }) m ≡ look_over_of bytes ix marks table tolerance
    unfolding look_over_of
    look_judged v m z p q = rw (← e) (taken _ _ _ _ (eq-eqb k 0 z) (rw (p, q)))
