-- A search that runs to an end: the fences of two heights tell which of them is larger, and the bracket goes on as the search's does.
use mathlib.Core.Bool.{Bool, true, false}
use mathlib.Core.Logic.{⊎_elim}
use mathlib.Core.Path.{◌≡◌, refl, ap, sym, ◌∙◌, subst}
use Prim.Native.Nat.{ℕ, zero, suc, ◌+◌, ◌≤◌}
use native.Mathlib.Omega.{arith}
use native.Mathlib.Numerals.{add-one}
use lib.Dec.{T}
use lib.Ieee.{Float, binary64, lt, le, fits, is_nan}
use lib.Ieee.Scale.{finite}
use lib.Ieee.Bits.{is_true}
use Rattle.numbers.specs.Reals.{◌⊕◌, ◌⊖◌, ◌⊗◌, ◌⊘◌, f0, min_of}
use Rattle.roots.specs.Hypot.{hypot_of}
use Rattle.rules.proofs.Branches.{by_test, no, holds}
use Rattle.golden.specs.declared.Golden.{Golden}
use Rattle.golden.specs.Search.{rises, probe_of, narrowed_of, start_of, golden_start, golden_step, golden_at}
use Rattle.cutters.specs.declared.Edge.{Edge}
use Rattle.cutters.specs.Touch.{along, distance_at}
use Rattle.plane.specs.Ranges.{is_coordinate, is_radius}
use Rattle.order.proofs.Ranges.{finite_between}
use Rattle.order.proofs.Order.{O, le_trans, sub_turns}
use Rattle.order.proofs.Strict.{le_not_lt, lt_never_same}
use Rattle.order.proofs.Extremes.{lt_le, min_up}
use Rattle.bound.specs.Inside.{Within, Beyond}
use Rattle.bound.proofs.Small.{M, small, small_finite, small_radius}
use Rattle.caps.proofs.Places.{not_less, number_of}
use Rattle.section.specs.declared.Section.{Section}
use Rattle.section.specs.declared.slide.Fence.{Fence}
use Rattle.section.specs.declared.slide.Loose.{Loose}
use Rattle.section.specs.Section.{profile_of, height_over, section_at}
use Rattle.section.specs.Inside.{Firm, over_of, Around, Held, valued_at, loose_of, Loosely, goes_of}
use Rattle.section.proofs.Capping.{Valid, valid_parts, height_all, least_far, f_top, f1'}
use Rattle.section.proofs.Ends.{surface_up, no_number}

-- ---- which of two heights is larger
rises_from_lem : (v w h l : Float) → T (le v h) → lt h l ≡ true → T (le l w) → lt v w ≡ true
rises_from_lem v w h l p q r =
    by_test (lt v w) (λ e. e)
    (λ e. absurd (le_not_lt l h (is_true _ (le_trans l v h (le_trans l w v r (not_less v w (number_of _ _ p).0 (number_of _ _ r).1 e)) p)) q))

falls_from : (v w h l : Float) → T (le w h) → le h l ≡ true → T (le l v) → lt v w ≡ false
falls_from v w h l p q r =
    by_test (lt v w) (λ e. absurd (le_not_lt w v (is_true _ (le_trans w h v p (le_trans h l v (holds _ q) r))) e)) (λ e. e)

at_itself : (v : Float) → is_nan v ≡ false → T (le v v)
at_itself v n = not_less v v n n (by_test (lt v v) (λ e. absurd (lt_never_same v e)) (λ e. e))

own : (v : Float) → Held (record { low = v; high = v }) v
own v = record { at_least = at_itself v; at_most = at_itself v }

module _ (f : Float → Float) where
  turn : (l : Bool) (g : Golden) (v : Float) → rises (valued_at f g) ≡ l → valued_at f (narrowed_of l g (probe_of l g) v) ≡ golden_step rises f (valued_at f g)
  unfolding golden_step
  turn true g v e = rw e (unfold narrowed_of probe_of valued_at in refl)
  turn false g v e = rw e (unfold narrowed_of probe_of valued_at in refl)

  from_values : (g q : Golden) → valued_at f g ≡ g → valued_at f g ≡ q → Loosely f q (loose_of g)
  unfolding loose_of
  from_values g q h e =
      record {
        spots = e;
        first = subst (λ (v : Float). Held (record { low = g.f1; high = g.f1 }) v) (sym (one g h)) (own g.f1);
        second = subst (λ (v : Float). Held (record { low = g.f2; high = g.f2 }) v) (sym (two g h)) (own g.f2);
      }
    where
      one : (g : Golden) → valued_at f g ≡ g → f g.x1 ≡ g.f1
      one g h = unfold valued_at in ap (λ (k : Golden). k.f1) h

      two : (g : Golden) → valued_at f g ≡ g → f g.x2 ≡ g.f2
      two g h = unfold valued_at in ap (λ (k : Golden). k.f2) h

  turned : (q : Golden) → valued_at f q ≡ q → valued_at f (golden_step rises f q) ≡ golden_step rises f q
  turned q h = took ∙ ap (golden_step rises f) h
    where
      took : valued_at f (golden_step rises f q) ≡ golden_step rises f (valued_at f q)
      took = unfold golden_step in turn (rises q) q (f (probe_of (rises q) q)) (ap rises h)

  -- the values are those at the inner points
  values : (lo hi : Float) (n : ℕ) → valued_at f (golden_at rises f lo hi n) ≡ golden_at rises f lo hi n
  unfolding golden_at
  values lo hi zero = unfold golden_start start_of valued_at in refl
  values lo hi (suc n) = turned (golden_at rises f lo hi n) (values lo hi n)

  pub begun : (lo hi : Float) (n : ℕ) (g : Golden) (w : Loose) → g ≡ golden_at rises f lo hi n → w ≡ loose_of g → Loosely f (golden_at rises f lo hi n) w
  begun lo hi n g w e p = subst (λ (q : Loose). Loosely f (golden_at rises f lo hi n) q) (sym p) (from_values g (golden_at rises f lo hi n) (here ∙ sym e) here)
    where
      here : valued_at f g ≡ golden_at rises f lo hi n
      here = ap (valued_at f) e ∙ values lo hi n

  pub stands : (lo hi : Float) (n k : ℕ) (g : Golden) → n ≤ k → k ≤ n → g ≡ golden_at rises f lo hi n → g ≡ golden_at rises f lo hi k
  stands lo hi n k g below done h = let e : n ≡ k = omega arith in h ∙ ap (golden_at rises f lo hi) e

  pub again : (lo hi : Float) (n : ℕ) (w : Loose) → Loosely f (golden_step rises f (golden_at rises f lo hi n)) w → Loosely f (golden_at rises f lo hi (n + 1)) w
  unfolding golden_at
  again lo hi n w l = rw (add-one n) l

  -- ---- a step that the fences tell
  module _ (w : Loose) (u : Float) (v : Fence) (q : Golden) (l : Loosely f q w) where
    right_on : goes_of true w ≡ true → Held v (f (probe_of true w.g))
        → Loosely f (golden_step rises f q) (record { g = narrowed_of true w.g (probe_of true w.g) u; one = w.two; two = v })
    unfolding goes_of
    right_on h k =
        let n = number_of _ _ (lt_le _ _ h) in
        let r = rises_from_lem _ _ _ _ (l.first.at_most n.0) h (l.second.at_least n.1) in
        record {
          spots = turn true w.g u (unfold valued_at in r) ∙ ap (golden_step rises f) l.spots;
          first = unfold narrowed_of in l.second;
          second = unfold narrowed_of in k;
        }

    left_on : goes_of false w ≡ true → Held v (f (probe_of false w.g))
        → Loosely f (golden_step rises f q) (record { g = narrowed_of false w.g (probe_of false w.g) u; one = v; two = w.one })
    unfolding goes_of
    left_on h k =
        let n = number_of _ _ (holds _ h) in
        let r = falls_from _ _ _ _ (l.second.at_most n.0) h (l.first.at_least n.1) in
        record {
          spots = turn false w.g u (unfold valued_at in r) ∙ ap (golden_step rises f) l.spots;
          first = unfold narrowed_of in k;
          second = unfold narrowed_of in l.first;
        }

  -- as the code has it
  module _ (left : Bool) (w : Loose) (p u : Float) (g : Golden) (v : Fence) (h : goes_of left w ≡ true)
      (e₁ : p ≡ probe_of left w.g) (e₂ : g ≡ narrowed_of left w.g p u) (k : Held v (f p)) where
    pub goes_right : left ≡ true → (q : Golden) → Loosely f q w → Loosely f (golden_step rises f q) (record { g = g; one = w.two; two = v })
    goes_right t q l = rw (e₂, e₁, t) (right_on w u v q l (rw t at h) (rw (e₁, t) at k))

    pub goes_left : left ≡ false → (q : Golden) → Loosely f q w → Loosely f (golden_step rises f q) (record { g = g; one = v; two = w.one })
    goes_left t q l = rw (e₂, e₁, t) (left_on w u v q l (rw t at h) (rw (e₁, t) at k))

-- ---- a distance by its square
pub around : (z near far p q b w : Float) → is_coordinate z ≡ true → is_radius near ≡ true → is_radius far ≡ true
    → T (fits binary64 p) → T (fits binary64 q) → Beyond near b → Within far w
    → le b (p ⊗ p ⊕ q ⊗ q) ≡ true → le (p ⊗ p ⊕ q ⊗ q) w ≡ true → Around z near far (hypot_of p q)
around z near far p q b w cz cn cf fp fq out in' h k =
    let d = hypot_of p q in
    let m = in'.near p q k in
    let o = out.out p q fp fq h in
    let l = by_test (lt d near) (λ e. absurd (no (sym o ∙ is_true _ (lt_le d near e)))) (λ e. e) in
    record { height = cz; small = cn; large = cf; low = not_less d near (number_of _ _ m).0 (number_of _ _ (small_radius near cn).0).1 l; high = m }

-- ---- the fence of a height
module _ (s : Section) (low x y : Float) (e : Edge) (t : Float) where
  abbrev z : Float
  z = along e.az e.bz t

  abbrev d : Float
  d = hypot_of (along e.ax e.bx t ⊖ x) (along e.ay e.by t ⊖ y)

  abbrev H : Float → Float
  H c = height_over (profile_of s c)

  module _ (firm : Firm s low) (u : le f0 low ≡ true) where
    valid : Valid s × T (fits binary64 s.z0)
    valid = ⊎_elim (λ n. absurd (no (sym (number_of _ _ (holds _ u)).1 ∙ n))) (λ n. (valid_parts s n.0, n.2)) firm

    fine : (c : Float) → T (le c s.r1) → T (finite (H c))
    fine c m = height_all s valid.0 valid.1 (λ h. T (finite h)) (λ h a b. f_top s valid.0 valid.1 h a b) c m

    under : (c c' : Float) → is_coordinate z ≡ true → T (le c c') → T (le c' s.r1) → T (le (z ⊖ H c') (z ⊖ H c))
    under c c' a k m =
        sub_turns binary64 (H c) (H c') z (fine c (le_trans c c' s.r1 k m)) (fine c' m) (small_finite z (small z a))
        (surface_up s valid.0 valid.1 c c' k m)

    pub held : (near far l h : Float) → Around z near far d → l ≡ over_of s z (min_of far s.r1) → h ≡ over_of s z (min_of near s.r1)
        → Held (record { low = l; high = h }) (section_at s x y e t)
    unfolding over_of section_at distance_at
    held near far l h a p q =
        let r = s.r1 in
        let fr = f1' s valid.0 valid.1 in
        let n = small_radius near a.small in
        let m = small_radius far a.large in
        let fn = finite_between O near M tt tt n.0 n.1 in
        let fd = finite_between O d M tt tt (le_trans O near d n.0 a.low) (le_trans d far M a.high m.1) in
        record {
          at_least = λ _. subst (λ (b : Float). T (le b (z ⊖ H (min_of d r)))) (sym p)
              (under (min_of d r) (min_of far r) a.height (min_up d far r fd fr a.high) (least_far s valid.0 valid.1 far));
          at_most = λ _. subst (λ (b : Float). T (le (z ⊖ H (min_of d r)) b)) (sym q)
              (under (min_of near r) (min_of d r) a.height (min_up near d r fn fr a.low) (least_far s valid.0 valid.1 d));
        }

pub held_none : (v : Float) → Held (record { low = f0 ⊘ f0; high = f0 ⊘ f0 }) v
held_none v = record { at_least = λ n. absurd (no_number n); at_most = λ n. absurd (no_number n) }
