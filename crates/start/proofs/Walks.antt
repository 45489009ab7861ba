-- A walk that begins at `from` and one that begins lower end at the same height, or both at most at `from`: what only one of them leaves out is not above it.
use Rattle.std.specs.Prelude.{None, Option, Some}
use mathlib.Core.Bool.{true, false}
use mathlib.Core.List.{List, [], ◌∷◌}
use mathlib.Core.Logic.{◌⊎◌, inl, inr, ⊎_elim}
use mathlib.Core.Path.{◌≡◌, refl, sym, ap, ◌∙◌, subst}
use Prim.Native.Nat.{ℕ}
use lib.Dec.{T}
use lib.Ieee.{Float, nan, inf, fin, lt, le, eq, is_nan, of_bits}
use lib.Ieee.Bits.{is_true}
use lib.ListN.{replicate}
use Rattle.numbers.specs.Reals.{◌⊖◌}
use Rattle.rules.proofs.Branches.{either, by_test, no}
use Rattle.order.proofs.Strict.{le_not_lt, lt_number}
use Rattle.order.proofs.Ranges.{finite_between}
use Rattle.order.proofs.Extremes.{le_self, not_below_lem}
use Rattle.order.proofs.Order.{le_trans}
use Rattle.plane.specs.declared.Touch.{Touch}
use Rattle.plane.specs.declared.Contact.{Contact}
use Rattle.plane.specs.Contacts.{exceeds_of, raised_to, raised_by, at_height}
use Rattle.plane.specs.Mesh.{triangle_of}
use Rattle.capsule.specs.declared.Capsule.{Capsule}
use Rattle.plane.specs.declared.Best.{Best}
use Rattle.walk.specs.Walk.{looked, fold, walked, next_stamp, ready_marks}
use Rattle.grid.specs.declared.Header.{Header}
use Rattle.grid.specs.Boxes.{box_at}
use Rattle.grid.specs.Index.{index_of}
use Rattle.query.specs.Patch.{patch_of}
use Rattle.query.specs.Looked.{within}
use Rattle.ask.specs.Ask.{at_floor}
use Rattle.height.specs.Sweep.{sweep, patch_for, capsule_for, height_of, disk_step, capsule_walk, sweep_walk}
use Rattle.runs.specs.declared.Run.{Run}
use Rattle.probe.specs.Probe.{height_under}
use Rattle.tops.specs.Inside.{margin, lowest_start, highest_start, lies_low}
use Rattle.start.specs.Inside.{Apart, with_floor}
use Rattle.start.proofs.Peaks.{Topped, met, peak}

-- ---- the order of numbers
le_numbers : (x y : Float) → le x y ≡ true → (is_nan x ≡ false) × (is_nan y ≡ false)
unfolding le lt eq is_nan
le_numbers nan y e = absurd (no e)
le_numbers (inf s) nan e = absurd (no e)
le_numbers (inf s) (inf t) e = (refl, refl)
le_numbers (inf s) (fin t n d) e = (refl, refl)
le_numbers (fin s m k) nan e = absurd (no e)
le_numbers (fin s m k) (inf t) e = (refl, refl)
le_numbers (fin s m k) (fin t n d) e = (refl, refl)

not_lt : (x y : Float) → is_nan x ≡ false → is_nan y ≡ false → lt x y ≡ false → T (le y x)
not_lt nan y p q l = absurd (no (sym (unfold is_nan in p)))
not_lt (inf s) nan p q l = absurd (no (sym (unfold is_nan in q)))
not_lt (inf true) (inf true) p q l = unfold le lt eq in tt
not_lt (inf true) (inf false) p q l = absurd (no (sym (unfold lt in l)))
not_lt (inf false) (inf true) p q l = unfold le lt eq in tt
not_lt (inf false) (inf false) p q l = unfold le lt eq in tt
not_lt (inf true) (fin t n d) p q l = absurd (no (sym (unfold lt in l)))
not_lt (inf false) (fin t n d) p q l = unfold le lt eq in tt
not_lt (fin s m k) nan p q l = absurd (no (sym (unfold is_nan in q)))
not_lt (fin s m k) (inf true) p q l = unfold le lt eq in tt
not_lt (fin s m k) (inf false) p q l = absurd (no (sym (unfold lt in l)))
not_lt (fin s m k) (fin t n d) p q l = not_below_lem (fin s m k) (fin t n d) tt tt l

pub le_goes_on : (x y z : Float) → le x y ≡ true → le y z ≡ true → le x z ≡ true
le_goes_on x y z p q = is_true _ (le_trans x y z (subst T (sym p) tt) (subst T (sym q) tt))

le_lt : (x y z : Float) → le x y ≡ true → lt y z ≡ true → lt x z ≡ true
le_lt x y z p q =
    by_test (lt x z)
    (λ e. e)
    (λ e. absurd (le_not_lt z y (le_goes_on z x y (is_true _ (not_lt x z (le_numbers x y p).0 (lt_number y z q) e)) p) q))

-- ---- one triangle
module _ (mesh boxes : List Float) (q : Capsule) (from : Float) (F : T (le lowest_start from)) (L : T (le from highest_start)) (apart : (i : ℕ)
    → Apart mesh boxes from i) where
  -- the same best, or two that are at most `from`
  abbrev Agree : Best → Best → Type 0
  Agree b c = (b ≡ c) ⊎ ((le b.height from ≡ true) × (le c.height from ≡ true))

  raised_low : (k : Option Contact) (i : ℕ) (b : Best) → Topped from k → le b.height from ≡ true → le (raised_by k i b).height from ≡ true
  unfolding raised_by raised_to
  raised_low None i b t l = l
  raised_low (Some n) i b (met _ _ m) l =
      either (λ (v : Best). le v.height from ≡ true) (exceeds_of n.height b.height) (record { height = n.height; triangle = i; kind = n.touch.kind; which = n.touch.which }) b
      (λ e. is_true _ m) (λ e. l)

  stays : (z : Float) (s : Touch) (i : ℕ) (b : Best) → le b.height from ≡ true → lt from z ≡ false → le (raised_by (at_height z s) i b).height from ≡ true
  unfolding raised_by raised_to exceeds_of
  stays z s i b l e =
      by_test (lt b.height z)
      (λ g. rw ((le_numbers b.height from l).0, g) (is_true _ (not_lt from z (le_numbers b.height from l).1 (lt_number b.height z g) e)))
      (λ g. rw ((le_numbers b.height from l).0, g) l)

  rises : (z : Float) (s : Touch) (i : ℕ) (b : Best) → le b.height from ≡ true → lt from z ≡ true
      → raised_by (at_height z s) i b ≡ record { height = z; triangle = i; kind = s.kind; which = s.which }
  unfolding raised_by raised_to exceeds_of
  rises z s i b l e = rw ((le_numbers b.height from l).0, le_lt b.height from z l e)

  -- not above `from`, or above both
  raised_agree : (k : Option Contact) (i : ℕ) (b c : Best) → le b.height from ≡ true → le c.height from ≡ true → Agree (raised_by k i b) (raised_by k i c)
  raised_agree None i b c l m = inr (unfold raised_by in (l, m))
  raised_agree (Some n) i b c l m =
      by_test (lt from n.height)
      (λ e. inl (rises n.height n.touch i b l e ∙ sym (rises n.height n.touch i c m e)))
      (λ e. inr (stays n.height n.touch i b l e, stays n.height n.touch i c m e))

  topped : (i : ℕ) → lies_low (from ⊖ margin) (triangle_of mesh i) ≡ true → Topped from (height_of mesh q i)
  unfolding height_of of_bits
  topped i e = peak from F L (triangle_of mesh i) e q

  step_low : (i : ℕ) (b : Best) → Topped from (height_of mesh q i) → le b.height from ≡ true → le (disk_step mesh boxes q b i).height from ≡ true
  unfolding disk_step
  step_low i b t l =
      either (λ (v : Best). le v.height from ≡ true) (le (box_at boxes i).top b.height) b (raised_by (height_of mesh q i) i b) (λ e. l)
      (λ e. raised_low (height_of mesh q i) i b t l)

  step_looks : (i : ℕ) (b : Best) → le (box_at boxes i).top from ≡ false → le b.height from ≡ true
      → disk_step mesh boxes q b i ≡ raised_by (height_of mesh q i) i b
  unfolding disk_step
  step_looks i b t l =
      by_test (le (box_at boxes i).top b.height)
      (λ e. absurd (no (sym t ∙ le_goes_on (box_at boxes i).top b.height from e l)))
      (λ e. rw e)

  step_agree : (i : ℕ) (b c : Best) → Agree b c → Agree (disk_step mesh boxes q b i) (disk_step mesh boxes q c i)
  step_agree i b c g =
      ⊎_elim
      (λ (e : b ≡ c). inl (ap (λ (v : Best). disk_step mesh boxes q v i) e))
      (λ (p : (le b.height from ≡ true) × (le c.height from ≡ true)).
      ⊎_elim
      (λ t. rw (step_looks i b t p.0, step_looks i c t p.1) (raised_agree (height_of mesh q i) i b c p.0 p.1))
      (λ t. inr (step_low i b (topped i t) p.0, step_low i c (topped i t) p.1))
      (apart i))
      g

  fold_agree : (is : List ℕ) (b c : Best) → Agree b c → Agree (fold (disk_step mesh boxes q) b is) (fold (disk_step mesh boxes q) c is)
  unfolding fold
  fold_agree [] b c g = g
  fold_agree (i ∷ is) b c g = fold_agree is _ _ (step_agree i b c g)

-- ---- the heights under a run, over the floor and over `from`
same : (x : Float) → T (le lowest_start x) → T (le x highest_start) → le x x ≡ true
unfolding of_bits
same x f l = is_true _ (le_self x (finite_between lowest_start x highest_start tt tt f l))

module _ (mesh : List Float) (h : Header) (starts members : List ℕ) (boxes : List Float) where
  -- what a walk looks at does not turn on where it begins
  abbrev seen : Run → List ℕ
  seen r = looked (next_stamp 0) (ready_marks (replicate h.n 0) 0)
      (within (index_of mesh h starts members boxes) (patch_for h (sweep r.ax r.ay r.bx r.by h.r)))

  abbrev round : Run → Capsule
  round r = capsule_for h (sweep r.ax r.ay r.bx r.by h.r)

  abbrev other : Float → Run → Float
  other z = height_under (index_of mesh (with_floor h z) starts members boxes)

  walked_from : (z : Float) (r : Run) → other z r ≡ (fold (disk_step mesh boxes (round r)) (at_floor z) (seen r)).height
  unfolding height_under sweep_walk capsule_walk walked patch_of
  walked_from z r = refl

  module _ (from : Float) (F : T (le lowest_start from)) (L : T (le from highest_start)) (apart : (i : ℕ) → Apart mesh boxes from i)
      (over : le h.floor from ≡ true) where
    pub heights_agree : (r : Run) → (other from r ≡ other h.floor r) ⊎ ((le (other from r) from ≡ true) × (le (other h.floor r) from ≡ true))
    heights_agree r =
        ⊎_elim
        (λ e. inl (walked_from from r ∙ ap (λ (v : Best). v.height) e ∙ sym (walked_from h.floor r)))
        (λ p. inr (rw (walked_from from r, walked_from h.floor r) p))
        (fold_agree mesh boxes (round r) from F L apart (seen r) (at_floor from) (at_floor h.floor) (inr (same from F L, over)))
