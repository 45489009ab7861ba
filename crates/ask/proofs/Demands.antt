-- What a question promises follows from what it answers.
use mathlib.Core.Bool.{Bool}
use mathlib.Core.List.{List}
use mathlib.Core.Path.{◌≡◌, ap, sym, ◌∙◌}
use Prim.Native.Nat.{ℕ, ◌≤◌}
use native.Mathlib.Omega.{arith}
use borrow.Author.Tests.{eqb-true, eq-eqb}
use lib.Dec.{eqb}
use lib.Ieee.{Float}
use lib.ListN.{length}
use Rattle.rules.proofs.Branches.{by_test}
use Rattle.plane.specs.declared.Best.{Best}
use Rattle.walk.specs.Walk.{Walk, walked, next_stamp}
use Rattle.grid.specs.Index.{Index, BuiltFrom}
use Rattle.grid.proofs.Indexing.{index_sound}
use Rattle.query.specs.declared.Patch.{Patch}
use Rattle.query.specs.Looked.{within, looked_in}
use Rattle.query.specs.Patch.{patch_of}
use Rattle.query.proofs.Looks.{looks_once}
use Rattle.query.proofs.Patches.{patch_inside}
use Rattle.ask.specs.Ask.{Answer}
use Rattle.ask.specs.Ask.{refusal_of, at_floor, begun, Outcome, ended, refused_by, answered_by, answer_of, asked_height}
use Rattle.ask.specs.Demand.{GoodAccepted, LookedAll, HeightPromise}
use Rattle.ask.proofs.Answers.{passed, good_passes}

module _ (numbers tool : Bool) (ix : Index) (marks : List ℕ) (stamp : ℕ) (p : Patch) (right : p.x1 ≤ ix.header.columns)
    (top : p.y1 ≤ ix.header.rows) where
  abbrev refusal : ℕ
  refusal = refusal_of numbers tool ix marks stamp p

  -- a good question is accepted
  pub good_is_accepted : (n : ℕ) → n ≡ refusal → GoodAccepted numbers tool ix marks stamp n
  good_is_accepted n e b g = e ∙ good_passes numbers tool ix marks stamp p (index_sound ix b) g right top

  -- an accepted question looks at a list of the right triangles, so a count of them all is enough
  pub counted : (count : ℕ) → BuiltFrom ix → refusal ≡ 0 → count ≡ length (looked_in ix marks stamp p) → LookedAll ix p (looked_in ix marks stamp p) count
  counted count b z e =
      let a = passed _ _ _ _ _ _ z in
      record { looks = looks_once ix marks stamp p (index_sound ix b) a.index_stands a.marked.nine right top; all = e }

  -- an answer with refusal 0 is that of its walk
  module _ (step : Best → ℕ → Best) (a : Answer) (m : List ℕ) (e : ended a m ≡ asked_height numbers tool step ix marks stamp p) where
    abbrev found : Walk Best
    found = walked (next_stamp stamp) step (begun marks stamp (at_floor ix.header.floor)) (within ix p)

    height_refusal : a.refusal ≡ refusal
    unfolding asked_height answer_of
    height_refusal =
        by_test (eqb refusal 0)
        (λ t. let f : ended a m ≡ ended (answered_by found (next_stamp stamp)) found.marks = rw t at e in
        ap (λ (o : Outcome Answer). o.answer.refusal) f ∙ sym (eqb-true _ _ t))
        (λ t. let f : ended a m ≡ ended (refused_by refusal stamp) marks = rw t at e in ap (λ (o : Outcome Answer). o.answer.refusal) f)

    pub height_walked : a.refusal ≡ 0 → (refusal ≡ 0) × (ended a m ≡ ended (answered_by found (next_stamp stamp)) found.marks)
    unfolding asked_height answer_of
    height_walked z =
        let r : refusal ≡ 0 = sym height_refusal ∙ z in
        (r, rw (eq-eqb refusal 0 r) at e)

    pub height_promise : HeightPromise numbers tool ix marks stamp p a
    unfolding walked looked_in
    height_promise =
        record {
          accepted = good_is_accepted a.refusal height_refusal;
          looked = λ b z.
              let w = height_walked z in
              counted a.count b w.0 (omega (arith, ap (λ (o : Outcome Answer). o.answer.count) w.1));
        }

-- a question that says which cells it covers, answered over the cells p and by the tests a and b that its code found
module _ (numbers tool : Bool) (ix : Index) (marks : List ℕ) (stamp : ℕ) (px py qx qy reach : Float) (m : List ℕ) where
  abbrev cells : Patch
  cells = patch_of ix.header px py qx qy reach

  module _ (step : Best → ℕ → Best) (c : Answer) where
    pub height_demand : ended c m ≡ asked_height numbers tool step ix marks stamp cells → HeightPromise numbers tool ix marks stamp cells c
    height_demand e = let i = patch_inside ix.header px py qx qy reach in height_promise numbers tool ix marks stamp cells i.0 i.1 step c m e

    pub height_told : (p : Patch) (a b : Bool) → p ≡ cells → a ≡ numbers → b ≡ tool → ended c m ≡ asked_height a b step ix marks stamp p
        → (ended c m ≡ asked_height numbers tool step ix marks stamp cells) × HeightPromise numbers tool ix marks stamp cells c
    height_told p a b e f g i = let o = rw (e, f, g) at i in (o, height_demand o)
