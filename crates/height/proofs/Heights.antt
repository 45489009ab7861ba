-- The best of a walk: it rises from the floor, to the height of the triangle that it names, and past none that is left above it.
use Rattle.std.proofs.lemmas.Option.{same_Some}
use Rattle.std.specs.Prelude.{None, Option, Some}
use mathlib.Core.Bool.{Bool, true, false}
use mathlib.Core.List.{List, [], ◌∷◌}
use mathlib.Core.Logic.{◌⊎◌, inl, inr, ⊎_elim}
use mathlib.Core.Path.{◌≡◌, refl, ap, sym, ◌∙◌}
use Prim.Native.Nat.{ℕ, ◌<◌}
use native.Mathlib.Omega.{arith}
use borrow.Author.Tests.{eq-eqb, eqb-true}
use lib.Dec.{eqb}
use lib.Ieee.{Float, nan, inf, fin, lt, le, eq, is_nan}
use Rattle.numbers.specs.Reals.{abs_of}
use Rattle.rules.proofs.Branches.{by_test, no}
use Rattle.order.proofs.Strict.{lt_goes_on, lt_never_same, lt_number, le_not_lt}
use Rattle.plane.specs.Ranges.{is_coordinate}
use Rattle.rules.specs.Every.{times}
use Rattle.plane.specs.declared.Touch.{Touch}
use Rattle.plane.specs.declared.Contact.{Contact}
use Rattle.plane.specs.Contacts.{exceeds_of, raised_to, raised_by, at_height}
use Rattle.plane.specs.declared.Best.{Best}
use Rattle.grid.specs.Boxes.{box_at}
use Rattle.walk.specs.Walk.{fold}
use Rattle.capsule.specs.declared.Capsule.{Capsule}
use Rattle.height.specs.Sweep.{height_of, disk_step}

abbrev pub Real : Best → Type 0
Real b = is_nan b.height ≡ false

pub coordinate_real : (x : Float) → is_coordinate x ≡ true → is_nan x ≡ false
unfolding is_coordinate abs_of le lt eq is_nan
coordinate_real nan e = absurd (no e)
coordinate_real (inf s) e = refl
coordinate_real (fin s m e) p = refl

-- a is b, or above it
abbrev Rises : Best → Best → Type 0
Rises b a = (a ≡ b) ⊎ (lt b.height a.height ≡ true)

under : (b a : Best) (z : Float) → Rises b a → lt a.height z ≡ true → lt b.height z ≡ true
under b a z r l = ⊎_elim (λ e. rw e at l) (λ m. lt_goes_on b.height a.height z m l) r

rises_trans : (x y z : Best) → Rises x y → Rises y z → Rises x z
rises_trans x y z r s = ⊎_elim (λ e. rw e r) (λ m. inr (under x y z.height r m)) s

height_is : (y z : Float) (s t : Touch) → ◌≡◌ {A = Option Contact} (at_height y s) (at_height z t) → y ≡ z
height_is y z s t g = ap (λ (c : Contact). c.height) (same_Some _ _ g)

-- beside a number the order decides
beside : (z : Float) (b : Best) (e : Bool) → Real b → lt b.height z ≡ e → exceeds_of z b.height ≡ e
unfolding exceeds_of
beside z b e n l = rw (n, l)

module _ (mesh boxes : List Float) (q : Capsule) where
  -- a triangle that is skipped, or has no contact, or one that is not above, leaves the best; else the best is its contact, and names it
  record Skipped (b : Best) (i : ℕ) : Type 0 where
    same : disk_step mesh boxes q b i ≡ b
    why : (z : Float) (t : Touch) → height_of mesh q i ≡ at_height z t → (le (box_at boxes i).top b.height ≡ true) ⊎ (lt b.height z ≡ false)

  record Raised (b : Best) (i : ℕ) : Type 0 where
    height : Float
    touch : Touch
    met : height_of mesh q i ≡ at_height height touch
    new : disk_step mesh boxes q b i ≡ record { height = height; triangle = i; kind = touch.kind; which = touch.which }
    above : lt b.height height ≡ true

  by_contact : (b : Best) (i : ℕ) (k : Option Contact) → Real b → height_of mesh q i ≡ k → disk_step mesh boxes q b i ≡ raised_by k i b → Skipped b i ⊎ Raised b i
  unfolding raised_by raised_to
  by_contact b i None n e f = inl (record { same = f; why = λ z t g. absurd (none z t (sym e ∙ g)) })
    where
      none : (z : Float) (t : Touch) → ◌≡◌ {A = Option Contact} None (at_height z t) → ⊥
      none z t g = let k : ◌≡◌ {A = ℕ} 0 1 = cc in omega arith
  by_contact b i (Some m) n e f =
      by_test (lt b.height m.height)
      (λ l. inr (record { height = m.height; touch = m.touch; met = e; new = rw (beside m.height b true n l) at f; above = l }))
      (λ l. inl (record { same = rw (beside m.height b false n l) at f; why = λ y s g. inr (rw (height_is y m.height s m.touch (sym g ∙ e)) l) }))

  step_is : (b : Best) (i : ℕ) → Real b → Skipped b i ⊎ Raised b i
  unfolding disk_step
  step_is b i n =
      by_test (le (box_at boxes i).top b.height)
      (λ e. inl (record { same = rw e; why = λ z t g. inl e }))
      (λ e. by_contact b i (height_of mesh q i) n refl (rw e))

  step_rises : (b : Best) (i : ℕ) → Real b → Rises b (disk_step mesh boxes q b i) × Real (disk_step mesh boxes q b i)
  step_rises b i n =
      ⊎_elim (λ s. (inl s.same, rw s.same n)) (λ r. (inr (rw r.new r.above), rw r.new (lt_number b.height _ r.above))) (step_is b i n)

  fold_rises : (is : List ℕ) (b : Best) → Real b → Rises b (fold (disk_step mesh boxes q) b is)
  unfolding fold
  fold_rises [] b n = inl refl
  fold_rises (i ∷ is) b n =
      let s = step_rises b i n in
      rises_trans b (disk_step mesh boxes q b i) _ s.0 (fold_rises is (disk_step mesh boxes q b i) s.1)

  -- once above a limit, it stays above
  pub stays_above : (is : List ℕ) (b : Best) (limit : Float) → lt limit b.height ≡ true → lt limit (fold (disk_step mesh boxes q) b is).height ≡ true
  stays_above is b limit l =
      ⊎_elim (λ e. ap (λ (v : Best). lt limit v.height) e ∙ l) (λ m. lt_goes_on limit b.height _ l m) (fold_rises is b (lt_number limit b.height l))

  -- where it ends: at the floor, or above it at the contact of a triangle of the list, which it names
  pub record One (is : List ℕ) (b v : Best) : Type 0 where
    pub above : lt b.height v.height ≡ true
    pub looked : 0 < times v.triangle is
    pub computed : height_of mesh q v.triangle ≡ at_height v.height (record { kind = v.kind; which = v.which })

  one_of : (i : ℕ) (is : List ℕ) (b : Best) → Raised b i → (v : Best) → v ≡ disk_step mesh boxes q b i → One (i ∷ is) b v
  unfolding times
  one_of i is b r v e =
      let f = e ∙ r.new in
      rw f (record { above = r.above; looked = rw (eq-eqb i i refl) (omega arith); computed = r.met })

  pub fold_is : (is : List ℕ) (b : Best) → Real b → (fold (disk_step mesh boxes q) b is ≡ b) ⊎ One is b (fold (disk_step mesh boxes q) b is)
  unfolding fold times
  fold_is [] b n = inl refl
  fold_is (i ∷ is) b n =
      let r = step_rises b i n in
      ⊎_elim
      (λ e. ⊎_elim (λ s. inl (e ∙ s.same)) (λ s. inr (one_of i is b s _ e)) (step_is b i n))
      (λ o. inr (record { above = under b (disk_step mesh boxes q b i) _ r.0 o.above; looked = omega (arith, o.looked); computed = o.computed }))
      (fold_is is (disk_step mesh boxes q b i) r.1)

  -- the triangle that was just looked at: its top or its height is not above what the walk ends at
  last_none : (is : List ℕ) (b : Best) → Real b → (i : ℕ) (z : Float) (t : Touch) → height_of mesh q i ≡ at_height z t
      → lt (fold (disk_step mesh boxes q) (disk_step mesh boxes q b i) is).height (box_at boxes i).top ≡ true
      → lt (fold (disk_step mesh boxes q) (disk_step mesh boxes q b i) is).height z ≡ true → ⊥
  last_none is b n i z touch g above higher =
      let r = step_rises b i n in
      let f = fold_rises is (disk_step mesh boxes q b i) r.1 in
      ⊎_elim
      (λ s.
      ⊎_elim (λ t. le_not_lt _ b.height t (under b _ _ r.0 (under _ _ _ f above)))
      (λ t. no (sym t ∙ under b _ z r.0 (under _ _ z f higher)))
      (s.why z touch g))
      (λ s. lt_never_same z (rw (s.new, height_is _ z _ touch (sym s.met ∙ g)) at (under _ _ z f higher)))
      (step_is b i n)

  pub fold_none : (is : List ℕ) (b : Best) → Real b → (i : ℕ) → 0 < times i is → (z : Float) (touch : Touch) → height_of mesh q i ≡ at_height z touch
      → lt (fold (disk_step mesh boxes q) b is).height (box_at boxes i).top ≡ true → lt (fold (disk_step mesh boxes q) b is).height z ≡ true → ⊥
  unfolding fold times
  fold_none [] b n i t z touch g above higher = absurd (omega arith)
  fold_none (j ∷ is) b n i t z touch g above higher =
      by_test (eqb i j)
      (λ e.
      let k : j ≡ i = sym (eqb-true i j e) in
      last_none is b n i z touch g (rw k at above) (rw k at higher))
      (λ e. fold_none is (disk_step mesh boxes q b j) (step_rises b j n).1 i (omega (arith, rw e at t)) z touch g above higher)
