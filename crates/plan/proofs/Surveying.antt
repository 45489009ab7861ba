-- Levels written to a table are tested there as they are tested in a list.
use Rattle.std.specs.Prelude.{Result, Ok, Err, IfOk}
use mathlib.Core.Bool.{true, false}
use mathlib.Core.List.{List, map}
use mathlib.Core.Logic.{⊎_elim}
use mathlib.Core.Path.{◌≡◌, refl, ap, ◌∙◌}
use Prim.Native.Nat.{ℕ, ◌≤◌}
use borrow.Author.Tests.{ltb-false}
use lib.Dec.{ltb, lit<}
use lib.Ieee.{Float}
use lib.ListN.{length, replicate}
use Rattle.rules.specs.Ladder.{refuse}
use Rattle.rules.proofs.Ladder.{refused_not}
use Rattle.sort.proofs.Counts.{on_or_off}
use Rattle.fives.specs.Tables.{room_of, written}
use Rattle.fives.proofs.Writing.{written_length}
use Rattle.levels.specs.declared.Level.{Level}
use Rattle.levels.specs.Levels.{five_of}
use Rattle.rows.specs.declared.Axis.{Axis}
use Rattle.parameters.specs.declared.Parameters.{Parameters}
use Rattle.parameters.specs.Terms.{too_deep, too_fine, any_of, refusal_of_levels}
use Rattle.parameters.specs.Inside.{refusal_of_count}
use Rattle.parameters.proofs.Testing.{levels_read}
use Rattle.refusals.specs.declared.Refusal.{Refusal}
use Rattle.refusals.specs.Numbers.{number_of, code_of}
use Rattle.plan.specs.Inside.{Surveys}

module _ (t : List Float) (ls : List Level) (p : Parameters) (axis : Axis) (r : Float) where
  abbrev table : List Float
  table = written (map five_of ls) t

  -- 11, 10 and 12
  pub survey_refused : (count : ℕ) → count ≡ length ls → refusal_of_count table count p axis r ≡ refusal_of_levels (room_of t) p axis r ls
  unfolding refusal_of_count refusal_of_levels refuse
  survey_refused count e =
      rw (e, written_length five_of (λ _. refl) ls t)
      (⊎_elim
      (λ (b : ltb (room_of t) (length ls) ≡ true). (rw b))
      (λ (b : ltb (room_of t) (length ls) ≡ false). (rw (b, levels_read t ls (ltb-false (room_of t) (length ls) b))))
      (on_or_off (ltb (room_of t) (length ls))))

  -- the levels found, the marks wiped, and the tests made
  module _ (t' : List Float) (m₀ m m' : List ℕ) (count : ℕ) (a : t' ≡ table) (b : count ≡ length ls) (l : length m ≡ length m₀) (w : m' ≡ replicate (length m) 0) where
    surveyed : (s : Result ℕ Refusal) → IfOk s (λ n. n ≡ length ls) → code_of s ≡ refusal_of_count t' count p axis r → Surveys ls p axis r t m₀ t' m' s
    surveyed s i e =
        record {
          table = a;
          clean = w ∙ ap (λ (n : ℕ). replicate n 0) l;
          count = i;
          refusal = e ∙ ap (λ (x : List Float). refusal_of_count x count p axis r) a ∙ survey_refused count b;
        }

    pub surveyed_refused : (s : Result ℕ Refusal) (k : Refusal) → s ≡ Err k → number_of k ≡ refusal_of_count t' count p axis r → Surveys ls p axis r t m₀ t' m' s
    unfolding code_of
    surveyed_refused s k q e = rw q (surveyed (Err k) tt e)

    pub surveyed_passed : 0 ≡ refusal_of_count t' count p axis r → Surveys ls p axis r t m₀ t' m' (Ok count)
    unfolding code_of
    surveyed_passed e = surveyed (Ok count) b e

  -- what levels that are not refused are
  pub record Taken : Type 0 where
    pub room : length ls ≤ room_of t
    pub coarse : any_of (too_fine p axis r) ls ≡ false

  pub survey_taken : refusal_of_levels (room_of t) p axis r ls ≡ 0 → Taken
  unfolding refusal_of_levels
  survey_taken z =
      let a = refused_not (ltb (room_of t) (length ls)) 11 _ (lit< tt) z in
      let b = refused_not (any_of (too_deep p) ls) 10 _ (lit< tt) a.1 in
      let c = refused_not (any_of (too_fine p axis r) ls) 12 _ (lit< tt) b.1 in
      record { room = ltb-false (room_of t) (length ls) a.0; coarse = c.0 }
