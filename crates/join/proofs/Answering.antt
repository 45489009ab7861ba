-- What `join` answers: refused, and joined.
use Rattle.std.specs.Prelude.{Result, Ok, Err}
use mathlib.Core.Bool.{true, false}
use mathlib.Core.List.{List, map, ◌++◌}
use mathlib.Core.Path.{◌≡◌, refl, sym, ◌∙◌}
use Prim.Native.Nat.{ℕ, ◌*◌, ◌≤◌}
use native.Mathlib.Omega.{arith}
use borrow.Author.Tests.{eq-eqb, ne_eqb, eqb-false}
use lib.Dec.{eqb}
use lib.Ieee.{Float}
use lib.ListN.{length, take, drop, length-replicate}
use Rattle.numbers.specs.Reals.{f0}
use Rattle.rules.proofs.Branches.{taken, left, by_test}
use Rattle.fives.specs.Tables.{room_of, written, zeroed}
use Rattle.runs.specs.Runs.{joined_of, five_of}
use Rattle.refusals.specs.declared.Refusal.{Refusal}
use Rattle.refusals.specs.Numbers.{number_of, code_of}
use Rattle.refusals.proofs.Named.{not_zero}
use Rattle.join.specs.Join.{Outcome, outcome, refusal_of, runs_of, told, join_of}
use Rattle.join.specs.Law.{WheneverJoined, HandedOn}
use Rattle.join.proofs.Whenever.{whenever, joined_few}
use Rattle.join.proofs.Tables.{read_back, cleared}
use Rattle.join.proofs.Taking.{in-length}

module _ (t : List Float) where
  -- the joined runs have room where the runs had
  pub fit : length (joined_of (runs_of t)) * 5 ≤ length t
  fit = omega (arith, joined_few (runs_of t), in-length t 0 (room_of t))

  pub refused : (a : Result ℕ Refusal) (r : Refusal) → a ≡ Err r → number_of r ≡ refusal_of t → outcome (told a) t ≡ join_of t
  unfolding told join_of
  refused a r p e = rw (p, ← e) (left _ _ _ _ (ne_eqb (number_of r) 0 (not_zero r)) refl)

  pub joined : (n : ℕ) (t₁ t₂ : List Float) → 0 ≡ refusal_of t → t₁ ≡ written (map five_of (joined_of (runs_of t))) t → n ≡ length (joined_of (runs_of t)) →
      t₂ ≡ take (n * 5) t₁ ++ zeroed (drop (n * 5) t₁) → outcome (told (Ok n)) t₂ ≡ join_of t
  unfolding told join_of
  joined n t₁ t₂ e p q r =
      let c = cleared (joined_of (runs_of t)) t fit in
      taken _ _ _ _ (eq-eqb (refusal_of t) 0 (sym e)) (rw (r, p, q, c))

  handed : (o : Outcome) → o ≡ join_of t → HandedOn t o
  unfolding join_of
  handed o e =
      rw e
      (by_test (eqb (refusal_of t) 0)
      (λ (p : eqb (refusal_of t) 0 ≡ true).
      rw p (λ _. read_back (zeroed t) (joined_of (runs_of t)) (omega (arith, fit, length-replicate (length t) f0))))
      (λ (p : eqb (refusal_of t) 0 ≡ false). rw p (λ (z : refusal_of t ≡ 0). absurd (eqb-false (refusal_of t) 0 p z))))

  -- all that `join` promises of its answer
  pub promised : (o : Outcome) → o ≡ join_of t → (o ≡ join_of t) × (HandedOn t o × WheneverJoined)
  promised o e = (e, (handed o e, whenever))
