-- A walk of a cutter that begins above the floor follows the walk from the floor, lifted to where it began, or is lost. Once it is raised both are the same.
use Rattle.std.specs.Prelude.{None, Option, Some}
use mathlib.Core.Bool.{true, false, cond}
use mathlib.Core.List.{List, [], ◌∷◌}
use mathlib.Core.Logic.{◌⊎◌, inl, inr, ⊎_elim}
use mathlib.Core.Path.{◌≡◌, refl, ap, sym, ◌∙◌}
use Prim.Native.Nat.{ℕ, ◌+◌}
use lib.Dec.{T}
use lib.Ieee.{Float, nan, inf, fin, binary64, div, lt, le, fits, is_nan, of_bits}
use lib.ListN.{length}
use lib.Ieee.Bits.{is_true}
use Rattle.numbers.specs.Reals.{◌⊘◌, f0, f1}
use Rattle.rules.proofs.Branches.{either, by_test, no}
use Rattle.order.proofs.Strict.{le_not_lt}
use Rattle.plane.specs.declared.Triangle.{Triangle}
use Rattle.plane.specs.declared.Contact.{Contact}
use Rattle.plane.specs.Contacts.{exceeds_of, raised_to, raised_by}
use Rattle.plane.proofs.Higher.{same_waits}
use Rattle.above.specs.Above.{so_far}
use Rattle.above.proofs.Above.{passes, rises}
use Rattle.order.proofs.Extremes.{le_self}
use Rattle.tops.specs.Inside.{is_parted}
use Rattle.bull.specs.declared.Bull.{Bull}
use Rattle.bull.specs.Bull.{bull_contact_above}
use Rattle.bull.specs.Inside.{base_of}
use Rattle.ahead.proofs.Under.{Begun, ff, number}
use Rattle.ahead.proofs.Same.{under_from}
use Rattle.ahead.proofs.Parted.{parted_under, parted_same}
use Rattle.plane.specs.declared.Best.{Best}
use Rattle.walk.specs.declared.Seen.{Seen}
use Rattle.walk.specs.Walk.{Walk, looked, marked, fold, walked}
use Rattle.walk.specs.Inside.{seen, look}
use Rattle.walk.proofs.Lists.{walk_is}
use Rattle.ask.specs.Ask.{at_floor}
use Rattle.above.proofs.Beside.{raised_beside}
use Rattle.tips.specs.declared.Sight.{Sight}
use Rattle.tips.specs.Contact.{bull_raised, bull_step}
use Rattle.tips.specs.Inside.{lost, first_raised, from_raised, from_step}

-- ---- a walk that is lost stays so
never_over : (z : Float) → exceeds_of z (f1 ⊘ f0) ≡ false
unfolding exceeds_of of_bits div is_nan lt
never_over nan = refl
never_over (inf s) = refl
never_over (fin s m e) = refl

lost_raised : (p : Option Contact) (i : ℕ) → raised_by p i lost ≡ lost
unfolding raised_by raised_to
lost_raised None i = refl
lost_raised (Some m) i = rw (never_over m.height)

lost_stays : (t : Triangle) (top : Float) (i : ℕ) (k : Bull) → bull_raised t top i k lost ≡ lost
unfolding bull_raised
lost_stays t top i k = either (λ (x : Best). x ≡ lost) (le top (f1 ⊘ f0)) lost _ (λ e. refl) (λ e. lost_raised _ i)

module _ (f : Float) (b : Begun f) where
  abbrev start : Best
  start = at_floor f

  abbrev lifted : Best → Best
  lifted x = cond (exceeds_of x.height f) x start

  le_same : le f f ≡ true
  le_same = is_true _ (le_self f (ff f b))

  -- ---- one contact
  lift_raised : (p : Option Contact) (i : ℕ) (x : Best) → exceeds_of x.height f ≡ false → lifted (raised_by p i x) ≡ raised_by p i start
  unfolding raised_by raised_to
  lift_raised None i x h = rw h
  lift_raised (Some m) i x h =
      by_test (exceeds_of m.height f)
      (λ g.
      let o : exceeds_of m.height x.height ≡ true = by_test (exceeds_of m.height x.height) (λ j. j) (λ j. absurd (no (sym h ∙ passes f m.height x.height g j))) in
      rw (o, g))
      (λ g. by_test (exceeds_of m.height x.height) (λ j. rw (j, g)) (λ j. rw (j, h, g)))

  stays_up : (p : Option Contact) (i : ℕ) (x : Best) → exceeds_of x.height f ≡ true → exceeds_of (raised_by p i x).height f ≡ true
  unfolding raised_by raised_to
  stays_up None i x h = h
  stays_up (Some m) i x h = by_test (exceeds_of m.height x.height) (λ j. rw j (rises f x.height m.height h j)) (λ j. rw j h)

  start_waits : (i : ℕ) → raised_by (so_far f) i start ≡ start
  unfolding raised_by raised_to
  start_waits i = rw (same_waits f)

  above_not : (v : Float) → exceeds_of v f ≡ true → le v f ≡ false
  unfolding exceeds_of
  above_not v h = by_test (le v f) (λ l. absurd (le_not_lt v f l (rw (number f b) at h))) (λ l. l)

  -- ---- one triangle
  module _ (k : Bull) (level : le f0 (base_of k) ≡ true) (fit : T (fits binary64 k.rc)) where
    abbrev sight : Sight
    sight = record { nose = k; limit = f }

    follows : (t : Triangle) (top : Float) (i : ℕ) (x : Best) → is_parted f top t ≡ true → exceeds_of x.height f ≡ false
        → bull_raised t top i k start ≡ lifted (bull_raised t top i k x)
    unfolding bull_raised
    follows t top i x q h =
        by_test (le top f)
        (λ u.
        let p = bull_contact_above t k x.height in
        either (λ (y : Best). cond (le top f) start (raised_by (bull_contact_above t k f) i start) ≡ lifted y) (le top x.height) x (raised_by p i x)
        (λ e. rw (u, h))
        (λ e. rw u (sym (lift_raised p i x h ∙ sym (raised_beside p i start)
        ∙ ap (λ (c : Option Contact). raised_by c i start) (parted_under f b k level fit t top q u x.height) ∙ start_waits i))))
        (λ u.
        let p = bull_contact_above t k x.height in
        let c = bull_contact_above t k f in
        let e : le top x.height ≡ false =
        by_test (le top x.height) (λ l. absurd (no (sym u ∙ under_from f (number f b) top x.height h l))) (λ l. l) in
        rw (u, e)
        (sym (lift_raised p i x h ∙ sym (raised_beside p i start)
        ∙ ap (λ (d : Option Contact). raised_by d i start) (parted_same f b k level fit t top q u x.height h) ∙ raised_beside c i start)))

    -- once above f a best stays there
    keeps : (t : Triangle) (top : Float) (i : ℕ) (x : Best) → exceeds_of x.height f ≡ true → exceeds_of (bull_raised t top i k x).height f ≡ true
    unfolding bull_raised
    keeps t top i x h = either (λ (y : Best). exceeds_of y.height f ≡ true) (le top x.height) x _ (λ e. h) (λ e. stays_up _ i x h)

    -- ---- one step of each walk
    up_step : (t : Triangle) (top : Float) (i : ℕ) (x : Best) → exceeds_of x.height f ≡ true → from_raised t top i sight x ≡ bull_raised t top i k x
    unfolding from_raised
    up_step t top i x h = rw (above_not x.height h)

    low_step : (t : Triangle) (top : Float) (i : ℕ) → is_parted f top t ≡ true → from_raised t top i sight start ≡ bull_raised t top i k start
    unfolding from_raised first_raised
    low_step t top i q = rw (le_same, q)

    low_lost : (t : Triangle) (top : Float) (i : ℕ) → is_parted f top t ≡ false → from_raised t top i sight start ≡ lost
    unfolding from_raised first_raised
    low_lost t top i q = rw (le_same, q)

    lost_step : (t : Triangle) (top : Float) (i : ℕ) → from_raised t top i sight lost ≡ lost
    unfolding from_raised first_raised
    lost_step t top i =
        either (λ (y : Best). y ≡ lost) (le (f1 ⊘ f0) f) _ _
        (λ g. either (λ (y : Best). y ≡ lost) (is_parted f top t) _ lost (λ q. lost_stays t top i k) (λ q. refl)) (λ g. lost_stays t top i k)

    abbrev Tied : Best → Best → Type 0
    Tied x c = (c ≡ lifted x) ⊎ (c ≡ lost)

    lifted_up : (x : Best) → exceeds_of x.height f ≡ true → lifted x ≡ x
    lifted_up x h = rw h

    lifted_low : (x : Best) → exceeds_of x.height f ≡ false → lifted x ≡ start
    lifted_low x h = rw h

    tied_step : (t : Triangle) (top : Float) (i : ℕ) (x c : Best) → Tied x c → Tied (bull_raised t top i k x) (from_raised t top i sight c)
    tied_step t top i x c (inr e) = inr (ap (from_raised t top i sight) e ∙ lost_step t top i)
    tied_step t top i x c (inl e) =
        by_test (exceeds_of x.height f)
        (λ h. inl (ap (from_raised t top i sight) (e ∙ lifted_up x h) ∙ up_step t top i x h ∙ sym (lifted_up (bull_raised t top i k x) (keeps t top i x h))))
        (λ h.
        let o = ap (from_raised t top i sight) (e ∙ lifted_low x h) in
        by_test (is_parted f top t) (λ q. inl (o ∙ low_step t top i q ∙ follows t top i x q h)) (λ q. inr (o ∙ low_lost t top i q)))

    -- ---- the walks
    module _ (mesh boxes : List Float) where
      tied_fold : (is : List ℕ) (x c : Best) → Tied x c → Tied (fold (bull_step mesh boxes k) x is) (fold (from_step mesh boxes sight) c is)
      unfolding fold bull_step from_step
      tied_fold [] x c e = e
      tied_fold (i ∷ is) x c e = tied_fold is _ _ (tied_step _ _ i x c e)

      found : (is : List ℕ) (floor : Float) (c : Best) → exceeds_of floor f ≡ false → c ≡ fold (from_step mesh boxes sight) start is → (c.kind ≡ 0 → ⊥)
          → fold (from_step mesh boxes sight) start is ≡ fold (bull_step mesh boxes k) (at_floor floor) is
      found is floor c h e n =
          let v = fold (from_step mesh boxes sight) start is in
          let x = fold (bull_step mesh boxes k) (at_floor floor) is in
          ⊎_elim
          (λ q. by_test (exceeds_of x.height f) (λ g. q ∙ lifted_up x g) (λ g. absurd (n (ap (λ (y : Best). y.kind) (e ∙ q ∙ lifted_low x g)))))
          (λ q. absurd (n (ap (λ (y : Best). y.kind) (e ∙ q))))
          (tied_fold is (at_floor floor) start (inl (sym (lifted_low (at_floor floor) h))))

      -- a walk that was raised found what the walk from the floor finds
      pub found_from : (stamp : ℕ) (ms m m' : List ℕ) (r : Seen Best) (floor : Float) → exceeds_of floor f ≡ false → (r.best.kind ≡ 0 → ⊥)
          → seen m' r ≡ fold (look stamp (from_step mesh boxes sight)) (seen m (record { count = 0; best = start })) ms
          → seen m' r ≡ fold (look stamp (bull_step mesh boxes k)) (seen m (record { count = 0; best = at_floor floor })) ms
      unfolding walked
      found_from stamp ms m m' r floor h n e =
          let is = looked stamp m ms in
          let a = e ∙ walk_is stamp (from_step mesh boxes sight) ms (seen m (record { count = 0; best = start })) in
          let s = found is floor r.best h (ap (λ (w : Walk Best). w.value) a) n in
          a ∙ ap (λ (v : Best). record { marks = marked stamp m is; count = 0 + length is; value = v }) s
          ∙ sym (walk_is stamp (bull_step mesh boxes k) ms (seen m (record { count = 0; best = at_floor floor })))
