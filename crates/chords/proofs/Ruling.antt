-- What a chord question promises follows from what it answers.
use mathlib.Core.Bool.{Bool, true, false, cond}
use mathlib.Core.List.{List, [], ◌∷◌}
use mathlib.Core.Path.{◌≡◌, refl, ap, sym, ◌∙◌, subst}
use Prim.Native.Nat.{ℕ, ◌+◌, ◌≤◌}
use native.Mathlib.Omega.{arith}
use borrow.Author.Tests.{eqb-true, eq-eqb}
use lib.Dec.{eqb}
use lib.Ieee.{Float}
use lib.ListN.{length}
use Rattle.rules.proofs.Branches.{by_test}
use Rattle.walk.specs.Walk.{Walk, chased, up_to, clear_of, next_stamp}
use Rattle.grid.specs.Index.{Index, BuiltFrom}
use Rattle.query.specs.declared.Patch.{Patch}
use Rattle.query.specs.Looked.{within, looked_in}
use Rattle.query.specs.Patch.{patch_of}
use Rattle.query.proofs.Patches.{patch_inside}
use Rattle.ask.specs.Ask.{Ruling}
use Rattle.ask.specs.Ask.{Finding}
use Rattle.ask.specs.Ask.{Clear, Blocked}
use Rattle.ask.specs.Ask.{refusal_of, begun, Outcome, ended, refused_chord, blocked_early, ruled_by, ruling_of, asked_chord}
use Rattle.ask.specs.Demand.{LookedAll}
use Rattle.ask.proofs.Demands.{good_is_accepted, counted}
use Rattle.chords.specs.Demand.{LookedTo, ChordPromise}

-- where none of what was looked at blocks, the walk was not cut short
clear_whole : (blocks : ℕ → Bool) (is : List ℕ) → clear_of blocks (up_to blocks is) ≡ true → up_to blocks is ≡ is
unfolding up_to clear_of
clear_whole blocks [] e = refl
clear_whole blocks (i ∷ is) e = by_blocks (blocks i) (clear_whole blocks is) e
  where
    by_blocks : (b : Bool) → (clear_of blocks (up_to blocks is) ≡ true → up_to blocks is ≡ is) → cond b false (clear_of blocks (cond b [] (up_to blocks is))) ≡ true
        → ◌≡◌ {A = List ℕ} (i ∷ cond b [] (up_to blocks is)) (i ∷ is)
    by_blocks true more p = let z : ◌≡◌ {A = ℕ} 0 1 = cc in absurd (omega arith)
    by_blocks false more p = ap (λ (l : List ℕ). i ∷ l) (more p)

clear_is : (b : Bool) → cond b Clear Blocked ≡ Clear → b ≡ true
clear_is true e = refl
clear_is false e = let z : ◌≡◌ {A = ℕ} 0 1 = cc in absurd (omega arith)

differ : (f : Finding) → f ≡ Blocked → f ≡ Clear → ⊥
differ f p q = let z : ◌≡◌ {A = ℕ} 0 1 = cc in omega arith

module _ (numbers tool : Bool) (ix : Index) (marks : List ℕ) (stamp : ℕ) (p : Patch) (right : p.x1 ≤ ix.header.columns) (top : p.y1 ≤ ix.header.rows)
    (early : Bool) (blocks : ℕ → Bool) (a : Ruling) (m : List ℕ) (e : ended a m ≡ asked_chord numbers tool early blocks ix marks stamp p) where
  abbrev refusal : ℕ
  refusal = refusal_of numbers tool ix marks stamp p

  abbrev chase : Walk Bool
  chase = chased (next_stamp stamp) blocks (begun marks stamp true) (within ix p)

  -- refused, blocked early, or the verdict of its walk
  chord_refused : eqb refusal 0 ≡ false → ended a m ≡ ended (refused_chord refusal stamp) marks
  unfolding asked_chord ruling_of
  chord_refused t = rw t at e

  chord_early : eqb refusal 0 ≡ true → early ≡ true → ended a m ≡ ended (blocked_early stamp) marks
  unfolding asked_chord ruling_of
  chord_early t s = rw s at (rw t at e)

  chord_chased : eqb refusal 0 ≡ true → early ≡ false → ended a m ≡ ended (ruled_by chase (next_stamp stamp)) chase.marks
  unfolding asked_chord ruling_of
  chord_chased t s = rw s at (rw t at e)

  chord_refusal : a.refusal ≡ refusal
  chord_refusal =
      by_test (eqb refusal 0)
      (λ t.
      by_test early
      (λ s. ap (λ (o : Outcome Ruling). o.answer.refusal) (chord_early t s) ∙ sym (eqb-true _ _ t))
      (λ s. ap (λ (o : Outcome Ruling). o.answer.refusal) (chord_chased t s) ∙ sym (eqb-true _ _ t)))
      (λ t. ap (λ (o : Outcome Ruling). o.answer.refusal) (chord_refused t))

  -- the walk of a chord that was neither refused nor blocked early
  chased_looks : BuiltFrom ix → refusal ≡ 0 → ended a m ≡ ended (ruled_by chase (next_stamp stamp)) chase.marks
      → LookedTo ix p (looked_in ix marks stamp p) early blocks a
  unfolding chased looked_in
  chased_looks b z f =
      let is = looked_in ix marks stamp p in
      let n : a.count ≡ 0 + length (up_to blocks is) = ap (λ (o : Outcome Ruling). o.answer.count) f in
      let v : a.finding ≡ cond (clear_of blocks (up_to blocks is)) Clear Blocked = ap (λ (o : Outcome Ruling). o.answer.finding) f in
      record {
        clear = λ c.
            let w = clear_whole blocks is (clear_is _ (sym v ∙ c)) in (
              w,
              subst (λ (l : List ℕ). LookedAll ix p l a.count) (sym w)
                  (counted numbers tool ix marks stamp p right top a.count b z (omega (arith, n, ap length w))),
            );
        blocked = λ c t. omega (arith, n);
      }

  pub chord_promise : ChordPromise numbers tool early blocks ix marks stamp p a
  chord_promise =
      record {
        accepted = good_is_accepted numbers tool ix marks stamp p right top a.refusal chord_refusal;
        looked = λ b z.
            let r : refusal ≡ 0 = sym chord_refusal ∙ z in
            let t = eq-eqb refusal 0 r in
            by_test early
            (λ s.
            let v : a.finding ≡ Blocked = ap (λ (o : Outcome Ruling). o.answer.finding) (chord_early t s) in
            record { clear = λ c. absurd (differ _ v c); blocked = λ c k. let q : ◌≡◌ {A = ℕ} 0 1 = cc in absurd (omega arith) })
            (λ s. chased_looks b r (chord_chased t s));
      }

-- a question that says which cells it covers, answered over the cells p and by the tests a and b that its code found
module _ (numbers tool : Bool) (ix : Index) (marks : List ℕ) (stamp : ℕ) (px py qx qy reach : Float) (m : List ℕ) where
  abbrev cells : Patch
  cells = patch_of ix.header px py qx qy reach

  module _ (early : Bool) (blocks : ℕ → Bool) (c : Ruling) where
    pub chord_demand : ended c m ≡ asked_chord numbers tool early blocks ix marks stamp cells → ChordPromise numbers tool early blocks ix marks stamp cells c
    chord_demand e = let i = patch_inside ix.header px py qx qy reach in chord_promise numbers tool ix marks stamp cells i.0 i.1 early blocks c m e

    pub chord_told : (p : Patch) (a b : Bool) → p ≡ cells → a ≡ numbers → b ≡ tool → ended c m ≡ asked_chord a b early blocks ix marks stamp p
        → (ended c m ≡ asked_chord numbers tool early blocks ix marks stamp cells) × ChordPromise numbers tool early blocks ix marks stamp cells c
    chord_told p a b e f g i = let o = rw (e, f, g) at i in (o, chord_demand o)
