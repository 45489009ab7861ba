-- The plan along an axis that C gives by its number, and how its answer is laid out.
use Rattle.std.specs.Prelude.{Err}
use mathlib.Core.Bool.{cond}
use mathlib.Core.List.{List, [], ◌∷◌}
use mathlib.Core.Path.{◌≡◌, ap, sym, ◌∙◌}
use Prim.Native.Nat.{ℕ}
use native.Mathlib.Omega.{arith}
use lib.Dec.{eqb}
use lib.Ieee.{Float}
use borrow.Author.Tests.{eq-eqb, ne_eqb}
use Rattle.rules.proofs.Branches.{taken, left}
use Rattle.grid.specs.Index.{Index, BuiltFrom}
use Rattle.grid.specs.Boxes.{is_boxed}
use Rattle.rules.specs.Ladder.{demand}
use Rattle.query.specs.Asked.{is_marked}
use Rattle.rows.specs.declared.Axis.{Axis}
use Rattle.rows.specs.declared.Axis.TheVariants.{X, Y}
use Rattle.parameters.specs.declared.Parameters.{Parameters}
use Rattle.refusals.specs.declared.Refusal.{Refusal}
use Rattle.refusals.specs.Numbers.{number_of}
use Rattle.refusals.proofs.Named.{not_zero}
use Rattle.plan.specs.Plan.{Planned, told, Outcome, outcome, refused_by, plan_of, NeverSeven}
use Rattle.plan.proofs.Answering.{rung, either_way, planned_seven}
use Rattle.plan.specs.Lost.{NothingLost}
use Rattle.desk_plan.specs.Plans.{axis_from, plan_along, narrowed, plan_left, plan_left_by}

module _ (ix : Index) (marks : List ℕ) (levels runs : List Float) (p : Parameters) (axis : ℕ) where
  pub along_x : (o : Outcome) → axis ≡ 0 → o ≡ plan_of ix marks levels runs p X → o ≡ plan_along ix marks levels runs p axis
  unfolding plan_along
  along_x o e q = taken (eqb axis 0) _ _ _ (eq-eqb axis 0 e) q

  pub along_y : (o : Outcome) → (axis ≡ 0 → ⊥) → axis ≡ 1 → o ≡ plan_of ix marks levels runs p Y → o ≡ plan_along ix marks levels runs p axis
  unfolding plan_along
  along_y o n e q = left (eqb axis 0) _ _ _ (ne_eqb axis 0 n) (taken (eqb axis 1) _ _ _ (eq-eqb axis 1 e) q)

  pub along_none : (r : Refusal) → (axis ≡ 0 → ⊥) → (axis ≡ 1 → ⊥) → number_of r ≡ demand (is_marked ix.mesh marks) 1
      (demand (is_boxed ix.mesh ix.boxes) 23 9) → outcome (told (Err r)) levels runs marks ≡ plan_along ix marks levels runs p axis
  unfolding told plan_along
  along_none r n m e =
      left (eqb axis 0) _ _ _ (ne_eqb axis 0 n)
      (left (eqb axis 1) _ _ _ (ne_eqb axis 1 m)
      (ap (λ (k : ℕ). outcome (refused_by k) levels runs marks) e))

  -- never 7 over the index built from its mesh
  along_seven : BuiltFrom ix → (plan_along ix marks levels runs p axis).answer.refusal ≡ 7 → ⊥
  unfolding plan_along
  along_seven b =
      let none = outcome (refused_by (demand (is_marked ix.mesh marks) 1 (demand (is_boxed ix.mesh ix.boxes) 23 9))) levels runs marks in
      either_way (eqb axis 0) (plan_of ix marks levels runs p X) (cond (eqb axis 1) (plan_of ix marks levels runs p Y) none)
      (planned_seven ix marks levels runs p X b)
      (either_way (eqb axis 1) (plan_of ix marks levels runs p Y) none
      (planned_seven ix marks levels runs p Y b)
      (λ e. let z = rung _ 23 9 (λ z. omega arith) (rung (is_marked ix.mesh marks) 1 _ (λ z. omega arith) e) in omega arith))

  pub along_never : (o : Outcome) → o ≡ plan_along ix marks levels runs p axis → NeverSeven ix o.answer.refusal
  along_never o e b s = along_seven b (sym (ap (λ (o : Outcome). o.answer.refusal) e) ∙ s)

-- what a plan along an axis promises of its pieces
module _ (ix : Index) (p : Parameters) (axis : ℕ) (a : Planned) where
  pub lost_x : axis ≡ 0 → (a.refusal ≡ 0 → NothingLost ix p X a) → a.refusal ≡ 0 → NothingLost ix p (axis_from axis) a
  lost_x e f z = rw e (f z)

  pub lost_y : axis ≡ 1 → (a.refusal ≡ 0 → NothingLost ix p Y a) → a.refusal ≡ 0 → NothingLost ix p (axis_from axis) a
  lost_y e f z = rw e (f z)

pub lost_none : (ix : Index) (p : Parameters) (axis : Axis) (r : Refusal) → (told (Err r)).refusal ≡ 0 → NothingLost ix p axis (told (Err r))
unfolding told
lost_none ix p axis r z = absurd (not_zero r z)

module _ (ix : Index) (p : Parameters) (axis : Axis) (a : Planned) where
  -- only the refusal and the dropped length count
  pub lost_laid : (b : Planned) → a.refusal ≡ b.refusal → a.dropped ≡ b.dropped → (a.refusal ≡ 0 → NothingLost ix p axis a) → b.refusal ≡ 0
      → NothingLost ix p axis b
  lost_laid b r d f z =
      let n = f (r ∙ z) in
      record { pieces = n.pieces; chained = n.chained; kept = n.kept; dropped = sym d ∙ n.dropped; joined = n.joined; runs = n.runs }

pub laid : (o : Outcome) (a b c : ℕ) → a ≡ narrowed o.answer.levels → b ≡ narrowed o.answer.rows → c ≡ narrowed o.answer.runs
    → plan_left o.answer.refusal o.levels o.runs o.marks (o.answer.cut ∷ o.answer.dropped ∷ []) (a ∷ b ∷ c ∷ []) ≡ plan_left_by o
unfolding plan_left_by
laid o a b c p q r = rw (p, q, r)
