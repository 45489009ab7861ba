-- Looking at a triangle a second time changes nothing, so a walk's best is that of its list taken one after the other, marks or not; and triangles whose tops
-- are not above the best change nothing.
use Rattle.std.specs.Prelude.{None, Option, Some}
use mathlib.Core.Bool.{true, false}
use mathlib.Core.List.{List, [], ◌∷◌}
use mathlib.Core.Logic.{◌⊎◌, inl, inr, ⊎_elim}
use mathlib.Core.Path.{◌≡◌, refl, ap, sym, ◌∙◌, subst}
use Prim.Native.Nat.{ℕ, suc, ◌<◌}
use native.Mathlib.Omega.{arith}
use borrow.Author.Tests.{eqb-true, eqb-false, ltb-true, ltb-false}
use lib.Dec.{T, eqb, ltb}
use lib.Ieee.{Float, nan, inf, fin, lt, le, eq, is_nan}
use lib.Ieee.Bits.{is_true}
use lib.ListN.{length, get_or}
use lib.Seq.{get_or-set_same, get_or-set_other, set_out}
use Rattle.rules.proofs.Branches.{by_test, either, no}
use Rattle.order.proofs.Order.{le_trans}
use Rattle.order.proofs.Extremes.{lt_le}
use Rattle.plane.specs.declared.Touch.{Touch}
use Rattle.plane.specs.declared.Best.{Best}
use Rattle.plane.specs.declared.Contact.{Contact}
use Rattle.plane.specs.Contacts.{exceeds_of, raised_to, raised_by, at_height}
use Rattle.plane.proofs.Higher.{same_waits, still_waits}
use Rattle.capsule.specs.declared.Capsule.{Capsule}
use Rattle.walk.specs.Walk.{Walk, fold}
use Rattle.walk.specs.Inside.{look, struck}
use Rattle.grid.specs.Boxes.{box_at}
use Rattle.height.specs.Sweep.{height_of, disk_step}
use Rattle.crests.specs.Inside.{Fair}

le_passes : (x y z : Float) → le x y ≡ true → le y z ≡ true → le x z ≡ true
le_passes x y z p q = is_true _ (le_trans x y z (subst T (sym p) tt) (subst T (sym q) tt))

le_number : (x y : Float) → le x y ≡ true → is_nan y ≡ false
unfolding le lt eq is_nan
le_number nan nan h = absurd (no h)
le_number (inf s) nan h = absurd (no h)
le_number (fin s m e) nan h = absurd (no h)
le_number x (inf s) h = refl
le_number x (fin s m e) h = refl

exceeds_over : (b z : Float) → is_nan b ≡ false → exceeds_of z b ≡ true → le b z ≡ true
unfolding exceeds_of
exceeds_over b z n e = is_true _ (lt_le b z (sym (rw n) ∙ e))

-- ---- one triangle, taken by its contact
module _ (mesh boxes : List Float) (q : Capsule) where
  abbrev step : Best → ℕ → Best
  step = disk_step mesh boxes q

  -- a top that is not above leaves the best
  pub step_low : (b : Best) (i : ℕ) → le (box_at boxes i).top b.height ≡ true → step b i ≡ b
  unfolding disk_step
  step_low b i e = rw e

  step_takes : (b : Best) (i : ℕ) → le (box_at boxes i).top b.height ≡ false → step b i ≡ raised_by (height_of mesh q i) i b
  unfolding disk_step
  step_takes b i e = rw e

  -- a contact taken twice
  raised_again : (k : Option Contact) (i : ℕ) (b : Best) → raised_by k i (raised_by k i b) ≡ raised_by k i b
  unfolding raised_by raised_to
  raised_again None i b = refl
  raised_again (Some m) i b = by_test (exceeds_of m.height b.height) (λ e. rw (e, same_waits m.height)) (λ e. rw (e, e))

  step_again : (b : Best) (i : ℕ) → step (step b i) i ≡ step b i
  step_again b i =
      by_test (le (box_at boxes i).top b.height)
      (λ e. let s = step_low b i e in ap (λ (v : Best). step v i) s)
      (λ e.
      let s = step_takes b i e in
      let c = raised_by (height_of mesh q i) i b in
      let d : step c i ≡ c =
      by_test (le (box_at boxes i).top c.height) (λ f. step_low c i f) (λ f. step_takes c i f ∙ raised_again (height_of mesh q i) i b) in
      ap (λ (v : Best). step v i) s ∙ (d ∙ sym s))

  -- ---- a best that is left by one triangle is left by it after another
  raised_rises : (k : Option Contact) (i : ℕ) (b : Best) → (raised_by k i b ≡ b) ⊎ (exceeds_of (raised_by k i b).height b.height ≡ true)
  unfolding raised_by raised_to
  raised_rises None i b = inl refl
  raised_rises (Some m) i b = by_test (exceeds_of m.height b.height) (λ e. inr (rw e e)) (λ e. inl (rw e))

  step_rises : (b : Best) (i : ℕ) → (step b i ≡ b) ⊎ (exceeds_of (step b i).height b.height ≡ true)
  step_rises b i =
      by_test (le (box_at boxes i).top b.height)
      (λ e. inl (step_low b i e))
      (λ e. rw (step_takes b i e) (raised_rises (height_of mesh q i) i b))

  left_waits : (z : Float) (t : Touch) (j : ℕ) (b : Best) → raised_by (at_height z t) j b ≡ b → exceeds_of z b.height ≡ false
  unfolding raised_by raised_to
  left_waits z t j b p =
      by_test (exceeds_of z b.height)
      (λ e.
      let h : z ≡ b.height = ap (λ (v : Best). v.height) (rw e at p) in
      rw h (same_waits b.height))
      (λ e. e)

  raised_left_lem : (k : Option Contact) (j : ℕ) (b c : Best) → raised_by k j b ≡ b → exceeds_of c.height b.height ≡ true → raised_by k j c ≡ c
  unfolding raised_by
  raised_left_lem None j b c p l = refl
  raised_left_lem (Some m) j b c p l =
      unfold raised_to in rw (still_waits b.height m.height c.height (left_waits m.height m.touch j b p) l)

  higher_left : (j : ℕ) (b c : Best) → step b j ≡ b → exceeds_of c.height b.height ≡ true → step c j ≡ c
  higher_left j b c p l =
      by_test (le (box_at boxes j).top b.height)
      (λ e. step_low c j (le_passes _ b.height c.height e (exceeds_over b.height c.height (le_number _ b.height e) l)))
      (λ e. by_test (le (box_at boxes j).top c.height) (λ f. step_low c j f)
      (λ f. step_takes c j f ∙ raised_left_lem (height_of mesh q j) j b c (sym (step_takes b j e) ∙ p) l))

  step_stays : (b : Best) (i j : ℕ) → step b j ≡ b → step (step b i) j ≡ step b i
  step_stays b i j p =
      ⊎_elim (λ (e : step b i ≡ b). ap (λ (v : Best). step v j) e ∙ (p ∙ sym e)) (λ l. higher_left j b (step b i) p l) (step_rises b i)

  -- ---- a walk that is fair: its best is that of the list, one after the other
  module _ (stamp : ℕ) where
    struck_fair : (w : Walk Best) (i : ℕ) → Fair stamp step w → Fair stamp step (struck stamp step w i)
    struck_fair w i f =
        record {
          settled = λ j e.
              by_test (eqb j i)
              (λ t. let k : j ≡ i = eqb-true j i t in rw k (step_again w.value i))
              (λ t. step_stays w.value i j (f.settled j (sym (get_or-set_other w.marks i j stamp 0 (eqb-false j i t)) ∙ e)));
          below = λ j.
              by_test (eqb j i)
              (λ t.
              let k : j ≡ i = eqb-true j i t in
              by_test (ltb i (length w.marks))
              (λ l. rw (k, get_or-set_same w.marks i stamp 0 (ltb-true i _ l)) (omega arith))
              (λ l. rw (set_out w.marks i stamp (ltb-false i _ l)) (f.below j)))
              (λ t. rw (get_or-set_other w.marks i j stamp 0 (eqb-false j i t)) (f.below j));
        }

    look_fair : (w : Walk Best) (i : ℕ) → Fair stamp step w → ((look stamp step w i).value ≡ step w.value i) × Fair stamp step (look stamp step w i)
    unfolding look
    look_fair w i f =
        either (λ (u : Walk Best). (u.value ≡ step w.value i) × Fair stamp step u) (eqb (get_or w.marks i 0) stamp) w (struck stamp step w i)
        (λ e. (sym (f.settled i (eqb-true _ _ e)), f))
        (λ e. (refl, struck_fair w i f))

    pub fold_fair : (ms : List ℕ) (w : Walk Best) → Fair stamp step w → ((fold (look stamp step) w ms).value ≡ fold step w.value ms)
        × Fair stamp step (fold (look stamp step) w ms)
    unfolding fold
    fold_fair [] w f = (refl, f)
    fold_fair (i ∷ ms) w f =
        let l = look_fair w i f in
        let r = fold_fair ms (look stamp step w i) l.1 in
        (r.0 ∙ ap (λ (v : Best). fold step v ms) l.0, r.1)

  -- ---- a list whose tops are not above the best
  pub fold_low : (ms : List ℕ) (b : Best) → ((k : ℕ) → k < length ms → le (box_at boxes (get_or ms k 0)).top b.height ≡ true) → fold step b ms ≡ b
  unfolding fold
  fold_low [] b h = refl
  fold_low (i ∷ ms) b h =
      let s = step_low b i (h 0 (omega arith)) in
      ap (λ (v : Best). fold step v ms) s ∙ fold_low ms b (λ k l. h (suc k) (omega arith))
