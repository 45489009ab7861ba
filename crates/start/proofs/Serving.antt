-- Walks that begin at a number under the level decide what walks from the floor decide.
use mathlib.Core.Bool.{true, false}
use mathlib.Core.List.{List}
use mathlib.Core.Logic.{◌⊎◌, ⊎_elim}
use mathlib.Core.Path.{◌≡◌, refl, sym, ap, ◌∙◌, subst}
use Prim.Native.Nat.{ℕ}
use lib.Dec.{T}
use lib.Ieee.{Float, nan, inf, fin, binary64, sub, add, neg, lt, le, eq}
use lib.Ieee.Scale.{finite}
use Rattle.numbers.specs.Reals.{◌⊕◌, ◌⊖◌, abs_of, three_million}
use Rattle.rules.proofs.Branches.{no, both_true}
use Rattle.order.proofs.Ranges.{sub_mono}
use Rattle.order.proofs.Order.{neg_finite, neg_neg, neg_turns}
use Rattle.bound.proofs.Along.{sub_parts}
use Rattle.tops.specs.Inside.{lowest_start, highest_start, is_start}
use Rattle.grid.specs.declared.Header.{Header}
use Rattle.grid.specs.Index.{index_of}
use Rattle.runs.specs.declared.Run.{Run}
use Rattle.probe.specs.declared.Aim.{Aim}
use Rattle.probe.specs.Probe.{height_under, clear}
use Rattle.probe.proofs.Deciding.{finite_of_lem, infinite_not, far_off}
use Rattle.start.specs.Inside.{Apart, UnderLevel, Begins, with_floor, Serves}
use Rattle.start.proofs.Walks.{le_goes_on, heights_agree}

-- ---- numbers under a level
abs_neg : (x : Float) → abs_of (neg x) ≡ abs_of x
unfolding abs_of neg
abs_neg nan = refl
abs_neg (inf s) = refl
abs_neg (fin s m e) = refl

off_at : (x d t : Float) → T (finite (neg d)) → lt t (neg d) ≡ true → T (le x d) → le (abs_of x) t ≡ false
off_at nan d t f p h = absurd (unfold le lt eq in h)
off_at (inf s) d t f p h = unfold abs_of in infinite_not t (neg d) f p
off_at (fin s m e) d t f p h =
    let g : T (finite d) = subst (λ (v : Float). T (finite v)) (neg_neg d) (neg_finite (neg d) f) in
    ap (λ (v : Float). le v t) (sym (abs_neg (fin s m e))) ∙ far_off t (neg d) (neg (fin s m e)) f p (neg_turns (fin s m e) d tt g h)

under_at : (level t from v : Float) → T (finite level) → T (finite from) → T (finite (neg (from ⊖ level))) → lt t (neg (from ⊖ level)) ≡ true → le v from ≡ true
    → le (abs_of (v ⊖ level)) t ≡ false
under_at nan t from v f g i p h = absurd f
under_at (inf s) t from v f g i p h = absurd f
under_at (fin s m e) t from nan f g i p h = absurd (no (unfold le lt eq in h))
under_at (fin s m e) t from (inf u) f g i p h = unfold sub add neg abs_of in infinite_not t (neg (from ⊖ fin s m e)) i p
under_at (fin s m e) t from (fin u n d) f g i p h =
    off_at (fin u n d ⊖ fin s m e) (from ⊖ fin s m e) t i p (sub_mono binary64 (fin u n d) from (fin s m e) tt g tt (subst T (sym h) tt))

pub under_is : (level t from : Float) → lt t (neg (from ⊖ level)) ≡ true → le (neg (from ⊖ level)) three_million ≡ true → UnderLevel level t from
under_is level t from p q v h =
    let f = finite_of_lem t (neg (from ⊖ level)) p q in
    let g = sub_parts from level (subst (λ (x : Float). T (finite x)) (neg_neg (from ⊖ level)) (neg_finite (neg (from ⊖ level)) f)) in
    under_at level t from v g.1 g.0 f p h

-- ---- what is decided
module _ (mesh : List Float) (h : Header) (starts members : List ℕ) (boxes : List Float) (a : Aim) (z from : Float) (b : Begins h.floor a z from)
    (apart : (i : ℕ) → Apart mesh boxes from i) where
  abbrev under : Run → Float
  under = height_under (index_of mesh h starts members boxes)

  abbrev other : Run → Float
  other = height_under (index_of mesh (with_floor h from) starts members boxes)

  ends : (le lowest_start from ≡ true) × (le from highest_start ≡ true)
  unfolding is_start
  ends = both_true (le lowest_start from) (le from highest_start) b.start

  agree : (r : Run) → (other r ≡ under r) ⊎ ((le (other r) from ≡ true) × (le (under r) from ≡ true))
  agree r = heights_agree mesh h starts members boxes from (subst T (sym ends.0) tt) (subst T (sym ends.1) tt) apart b.over r

  cleared : (v : Float) (r : Run) → r.z ≡ z → le v from ≡ true → le v (r.z ⊕ a.tolerance) ≡ true
  cleared v r e l = le_goes_on v from (r.z ⊕ a.tolerance) l (ap (λ (x : Float). le from (x ⊕ a.tolerance)) e ∙ b.clears)

  pub serves : Serves under other a z
  unfolding clear
  serves =
      record {
        on = λ r. ⊎_elim (λ e. ap (λ (x : Float). le (abs_of (x ⊖ a.level)) a.level_tolerance) e) (λ p. b.off (other r) p.0
            ∙ sym (b.off (under r) p.1)) (agree r);
        clears = λ r e. ⊎_elim (λ q. ap (λ (x : Float). le x (r.z ⊕ a.tolerance)) q) (λ p. cleared (other r) r e p.0
            ∙ sym (cleared (under r) r e p.1)) (agree r);
      }

pub serves_itself : (under : Run → Float) (a : Aim) (z : Float) → Serves under under a z
serves_itself under a z = record { on = λ r. refl; clears = λ r e. refl }

-- the header that is handed on
module _ (mesh : List Float) (h : Header) (boxes : List Float) (a : Aim) (z : Float) where
  abbrev Handed : Header → Type 0
  Handed g =
      (g ≡ with_floor h g.floor)
      × ((starts members : List ℕ) → Serves (height_under (index_of mesh h starts members boxes)) (height_under (index_of mesh g starts members boxes)) a z)

  pub handed_raised : (from : Float) (g : Header) → g ≡ with_floor h from → Begins h.floor a z from × ((i : ℕ) → Apart mesh boxes from i) → Handed g
  handed_raised from g e p = subst Handed (sym e) (refl, λ starts members. serves mesh h starts members boxes a z from p.0 p.1)

  pub handed_same : Handed h
  handed_same = (refl, λ starts members. serves_itself _ a z)
