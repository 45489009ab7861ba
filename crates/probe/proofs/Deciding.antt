-- A height above a limit decides a test as every height above it does.
use mathlib.Core.Bool.{Bool, true, false, ◌&&◌, ◌||◌}
use mathlib.Core.Logic.{⊎_elim}
use mathlib.Core.Path.{◌≡◌, refl, ap, sym, ◌∙◌, subst}
use Prim.Native.Nat.{ℕ, zero, suc, ◌+◌, ◌*◌}
use native.Mathlib.Omega.{arith}
use borrow.Author.Tests.{lt-ltb}
use lib.Dec.{T, eqb, ltb}
use lib.IntN.{ℤ}
use lib.Ieee.{Float, nan, inf, fin, binary64, of_bits, up, down, add, sub, neg, lt, le, eq}
use lib.Ieee.Bits.{is_true}
use lib.Ieee.Scale.{finite}
use Rattle.numbers.specs.Reals.{◌⊕◌, ◌⊖◌, abs_of, three_million}
use Rattle.rules.proofs.Branches.{by_test, no}
use Rattle.order.proofs.Strict.{le_not_lt}
use Rattle.order.proofs.Ranges.{sub_mono}
use Rattle.order.proofs.Extremes.{le_self, lt_le}
use Rattle.order.proofs.Order.{le_trans}
use Rattle.bound.proofs.Along.{sub_parts}
use Rattle.runs.specs.declared.Run.{Run}
use Rattle.rows.specs.declared.Lane.{Lane}
use Rattle.rows.specs.Lanes.{between}
use Rattle.probe.specs.declared.Aim.{Aim}
use Rattle.probe.specs.Probe.{on_level, clear}
use Rattle.probe.specs.Inside.{Decides, BeyondLevel}

-- ---- a run
not_under : (x y : Float) → lt y x ≡ true → le x y ≡ false
not_under x y l = by_test (le x y) (λ e. absurd (le_not_lt x y e l)) (λ e. e)

pub decided_run : (under : Run → Float) (a : Aim) (r : Run) (h : Float) → Decides (r.z ⊕ a.tolerance) (under r) h
    → le h (r.z ⊕ a.tolerance) ≡ clear under a r
unfolding clear
decided_run under a r h d =
    let limit = r.z ⊕ a.tolerance in
    ⊎_elim (λ e. ap (λ (x : Float). le x limit) e) (λ p. not_under h limit p.0 ∙ sym (not_under (under r) limit p.1)) d

-- ---- a sample
pub decided_sample : (under : Run → Float) (a : Aim) (l : Lane) (k : ℕ) (limit h z : Float) (r : Run) → r ≡ between l k k
    → BeyondLevel a.level a.level_tolerance limit → Decides limit (under r) h → z ≡ abs_of (h ⊖ a.level)
    → le z a.level_tolerance ≡ on_level under a l k
unfolding on_level
decided_sample under a l k limit h z r e b d q =
    let test : Float → Bool = λ x. le (abs_of (x ⊖ a.level)) a.level_tolerance in
    ap (λ (x : Float). le x a.level_tolerance) q
    ∙ (⊎_elim (λ i. ap test i) (λ p. b h p.0 ∙ sym (b (under r) p.1)) d ∙ ap (λ (s : Run). test (under s)) e)

-- ---- limits over a level
-- no height is above infinity
none_above : (x : Float) → lt (inf false) x ≡ true → ⊥
unfolding lt
none_above nan h = no h
none_above (inf s) h = no h
none_above (fin s m e) h = no h

pub beyond_none : (level tolerance : Float) → BeyondLevel level tolerance (of_bits binary64 0x7ff0_0000_0000_0000)
unfolding of_bits
beyond_none level tolerance v h = absurd (none_above v h)

pub finite_of_lem : (t d : Float) → lt t d ≡ true → le d three_million ≡ true → T (finite d)
unfolding lt le eq of_bits
finite_of_lem t (fin s m e) p q = tt
finite_of_lem t (inf false) p q = absurd (no q)
finite_of_lem t nan p q = absurd (no q)
finite_of_lem nan (inf true) p q = absurd (no p)
finite_of_lem (inf true) (inf true) p q = absurd (no p)
finite_of_lem (inf false) (inf true) p q = absurd (no p)
finite_of_lem (fin s m e) (inf true) p q = absurd (no p)

-- infinity is not within a tolerance that is below a number
pub infinite_not : (t d : Float) → T (finite d) → lt t d ≡ true → le (inf false) t ≡ false
unfolding lt le eq
infinite_not nan d f p = refl
infinite_not (inf true) d f p = refl
infinite_not (inf false) nan f p = absurd f
infinite_not (inf false) (inf s) f p = absurd f
infinite_not (inf false) (fin s m e) f p = absurd (no p)
infinite_not (fin s m e) d f p = refl

-- a number is at most its magnitude
at_most_size : (s : Bool) (m : ℕ) (e : ℤ) → T (le (fin s m e) (fin false m e))
unfolding lt le eq
at_most_size false m e = le_self (fin false m e) tt
at_most_size true m e = by (m * up e * down e)
  where
    by : (a : ℕ) → T (ltb 0 (a + a) || (eqb a a && (false || eqb a 0)))
    by zero = tt
    by (suc a) = rw (lt-ltb 0 (suc a + suc a) (omega arith)) tt

pub far_off : (t d x : Float) → T (finite d) → lt t d ≡ true → T (le d x) → le (abs_of x) t ≡ false
unfolding abs_of
far_off t d nan f p h = unfold lt le eq in refl
far_off t d (inf s) f p h = infinite_not t d f p
far_off t d (fin s m e) f p h =
    by_test (le (fin false m e) t)
    (λ g. absurd (le_not_lt d t
    (is_true _ (le_trans d (fin false m e) t (le_trans d (fin s m e) (fin false m e) h (at_most_size s m e)) (subst T (sym g) tt))) p))
    (λ g. g)

-- what is above l is farther from the level than l is
beyond_at : (level t l v : Float) → T (finite level) → T (finite l) → T (finite (l ⊖ level)) → lt t (l ⊖ level) ≡ true → lt l v ≡ true
    → le (abs_of (v ⊖ level)) t ≡ false
beyond_at nan t l v f g i p h = absurd f
beyond_at (inf s) t l v f g i p h = absurd f
beyond_at (fin s m e) t l nan f g i p h = unfold sub add neg abs_of lt le eq in refl
beyond_at (fin s m e) t l (inf u) f g i p h = unfold sub add neg abs_of in infinite_not t (l ⊖ fin s m e) i p
beyond_at (fin s m e) t l (fin u n d) f g i p h =
    far_off t (l ⊖ fin s m e) (fin u n d ⊖ fin s m e) i p (sub_mono binary64 l (fin u n d) (fin s m e) g tt tt (lt_le l (fin u n d) h))

pub beyond_is : (level t l : Float) → lt t (l ⊖ level) ≡ true → le (l ⊖ level) three_million ≡ true → BeyondLevel level t l
beyond_is level t l p q v h =
    let f = finite_of_lem t (l ⊖ level) p q in
    let g = sub_parts l level f in
    beyond_at level t l v g.1 g.0 f p h
