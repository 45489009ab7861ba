-- A walk over marks that another walk under another stamp has left. Both mark the same triangles, so it does what it does over the marks before.
use mathlib.Core.Bool.{Bool, true, false, cond}
use mathlib.Core.List.{List, [], ◌∷◌}
use mathlib.Core.Logic.{◌⊎◌, inl, inr, ⊎_elim}
use mathlib.Core.Path.{◌≡◌, refl, ap, sym, ◌∙◌, subst}
use Prim.Native.Nat.{ℕ, zero, suc, ◌+◌, ◌<◌}
use native.Mathlib.Omega.{arith}
use borrow.Author.Tests.{eqb-true, eqb-false, eq-eqb, ne_eqb}
use lib.Dec.{eqb}
use lib.ListN.{length, get_or, set, length-set}
use lib.Seq.{get_or-set_same, get_or-set_other}
use Rattle.rules.proofs.Branches.{either, by_test}
use Rattle.rules.specs.Every.{times, weight}
use Rattle.walk.specs.Walk.{Walk, fold}
use Rattle.plane.specs.declared.Best.{Best}
use Rattle.walk.specs.declared.Seen.{Seen}
use Rattle.walk.specs.Inside.{seen, look, struck}
use Rattle.tips.specs.Inside.{Fresh, Besides}

-- ---- what a walk does to the marks
module _ {A : Type 0} (stamp : ℕ) (step : A → ℕ → A) where
  pub as_many : (ms : List ℕ) (w : Walk A) → length (fold (look stamp step) w ms).marks ≡ length w.marks
  unfolding fold look
  as_many [] w = refl
  as_many (x ∷ ms) w =
      either (λ (u : Walk A). length (fold (look stamp step) u ms).marks ≡ length w.marks) (eqb (get_or w.marks x 0) stamp) w (struck stamp step w x)
      (λ b. as_many ms w) (λ b. as_many ms (struck stamp step w x) ∙ length-set w.marks x stamp)

  set_stays : (m : List ℕ) (x i : ℕ) → i < length m → get_or m i 0 ≡ stamp → get_or (set m x stamp) i 0 ≡ stamp
  set_stays m x i l e =
      by_test (eqb i x)
      (λ b. let q : i ≡ x = eqb-true i x b in rw q (get_or-set_same m x stamp 0 (rw q at l)))
      (λ b. get_or-set_other m x i stamp 0 (eqb-false i x b) ∙ e)

  stays : (ms : List ℕ) (w : Walk A) (i : ℕ) → i < length w.marks → get_or w.marks i 0 ≡ stamp → get_or (fold (look stamp step) w ms).marks i 0 ≡ stamp
  unfolding fold look
  stays [] w i l e = e
  stays (x ∷ ms) w i l e =
      either (λ (u : Walk A). get_or (fold (look stamp step) u ms).marks i 0 ≡ stamp) (eqb (get_or w.marks x 0) stamp) w (struck stamp step w x)
      (λ b. stays ms w i l e)
      (λ b. stays ms (struck stamp step w x) i (rw (length-set w.marks x stamp) l) (set_stays w.marks x i l e))

  -- each triangle that stands in the list has the stamp, each other the mark that it had
  pub at : (ms : List ℕ) (w : Walk A) (i : ℕ) → i < length w.marks → 0 < times i ms → get_or (fold (look stamp step) w ms).marks i 0 ≡ stamp
  unfolding fold look times
  at [] w i l t = absurd (omega arith)
  at (x ∷ ms) w i l t =
      by_test (eqb i x)
      (λ q.
      let e : i ≡ x = eqb-true i x q in
      either (λ (u : Walk A). get_or (fold (look stamp step) u ms).marks i 0 ≡ stamp) (eqb (get_or w.marks x 0) stamp) w (struck stamp step w x)
      (λ b. stays ms w i l (rw e (eqb-true _ _ b)))
      (λ b. stays ms (struck stamp step w x) i (rw (length-set w.marks x stamp) l) (rw e (get_or-set_same w.marks x stamp 0 (rw e at l)))))
      (λ q.
      let r : 0 < times i ms = omega (arith, rw q at t) in
      either (λ (u : Walk A). get_or (fold (look stamp step) u ms).marks i 0 ≡ stamp) (eqb (get_or w.marks x 0) stamp) w (struck stamp step w x)
      (λ b. at ms w i l r) (λ b. at ms (struck stamp step w x) i (rw (length-set w.marks x stamp) l) r))

  pub off : (ms : List ℕ) (w : Walk A) (i : ℕ) → times i ms ≡ 0 → get_or (fold (look stamp step) w ms).marks i 0 ≡ get_or w.marks i 0
  unfolding fold look times
  off [] w i t = refl
  off (x ∷ ms) w i t =
      by_test (eqb i x)
      (λ q. absurd (omega (arith, rw q at t)))
      (λ q.
      let r : times i ms ≡ 0 = omega (arith, t) in
      either (λ (u : Walk A). get_or (fold (look stamp step) u ms).marks i 0 ≡ get_or w.marks i 0) (eqb (get_or w.marks x 0) stamp) w (struck stamp step w x)
      (λ b. off ms w i r) (λ b. off ms (struck stamp step w x) i r ∙ get_or-set_other w.marks x i stamp 0 (eqb-false i x q)))

eqb_same : (x : ℕ) → eqb x x ≡ true
eqb_same x = eq-eqb x x refl

-- ---- two lists of marks between which a walk makes no difference: where they are not the same, it will look at a triangle that has its stamp in neither
pub record Stale (stamp : ℕ) (ms m m' : List ℕ) : Type 0 where
  pub size : length m' ≡ length m
  pub each : (i : ℕ) → i < length m → (get_or m' i 0 ≡ get_or m i 0) ⊎ ((0 < times i ms) × (get_or m i 0 ≡ stamp → ⊥) × (get_or m' i 0 ≡ stamp → ⊥))

same_list : (xs ys : List ℕ) → length xs ≡ length ys → ((i : ℕ) → i < length ys → get_or xs i 0 ≡ get_or ys i 0) → xs ≡ ys
same_list [] [] e h = refl
same_list [] (y ∷ ys) e h = absurd (omega arith)
same_list (x ∷ xs) [] e h = absurd (omega arith)
same_list (x ∷ xs) (y ∷ ys) e h =
    let q : xs ≡ ys = same_list xs ys (omega arith) (λ i l. h (suc i) (omega arith)) in
    let p : x ≡ y = h 0 (omega arith) in
    rw (p, q)

module _ {A : Type 0} (stamp : ℕ) (step : A → ℕ → A) where
  abbrev walk : List ℕ → ℕ → A → Walk A
  walk m c v = record { marks = m; count = c; value = v }

  -- the head is left out
  skipped : (x : ℕ) (ms m m' : List ℕ) → eqb (get_or m x 0) stamp ≡ true → Stale stamp (x ∷ ms) m m' → Stale stamp ms m m'
  unfolding times
  skipped x ms m m' b s =
      record {
        size = s.size;
        each = λ i l.
            ⊎_elim (λ e. inl e)
            (λ q.
            by_test (eqb i x)
            (λ t. let e : i ≡ x = eqb-true i x t in absurd (q.1 (rw e (eqb-true _ _ b))))
            (λ t. inr (omega (arith, rw t at q.0), q.1, q.2)))
            (s.each i l);
      }

  -- the head is looked at
  looked_at : (x : ℕ) (ms m m' : List ℕ) → x < length m → Stale stamp (x ∷ ms) m m' → Stale stamp ms (set m x stamp) (set m' x stamp)
  unfolding times
  looked_at x ms m m' h s =
      record {
        size = length-set m' x stamp ∙ s.size ∙ sym (length-set m x stamp);
        each = λ i l.
            by_test (eqb i x)
            (λ t.
            let e : i ≡ x = eqb-true i x t in
            inl (rw e (get_or-set_same m' x stamp 0 (omega (arith, h, s.size)) ∙ sym (get_or-set_same m x stamp 0 h))))
            (λ t.
            let n = eqb-false i x t in
            let p = get_or-set_other m x i stamp 0 n in
            let p' = get_or-set_other m' x i stamp 0 n in
            ⊎_elim (λ e. inl (p' ∙ e ∙ sym p))
            (λ q. inr (omega (arith, rw t at q.0), (λ z. q.1 (sym p ∙ z)), (λ z. q.2 (sym p' ∙ z))))
            (s.each i (rw (length-set m x stamp) at l)));
      }

  tests : (x : ℕ) (ms m m' : List ℕ) → x < length m → Stale stamp ms m m' → eqb (get_or m' x 0) stamp ≡ eqb (get_or m x 0) stamp
  tests x ms m m' h s = ⊎_elim (λ e. ap (λ (n : ℕ). eqb n stamp) e) (λ q. ne_eqb _ _ q.2 ∙ sym (ne_eqb _ _ q.1)) (s.each x h)

  pub again : (ms m m' : List ℕ) (c : ℕ) (v : A) → ((i : ℕ) → 0 < times i ms → i < length m) → Stale stamp ms m m'
      → fold (look stamp step) (walk m' c v) ms ≡ fold (look stamp step) (walk m c v) ms
  unfolding fold look times
  again [] m m' c v h s =
      ap (λ (l : List ℕ). walk l c v) (same_list m' m s.size (λ i l. ⊎_elim (λ e. e) (λ q. absurd (omega (arith, q.0))) (s.each i l)))
  again (x ∷ ms) m m' c v h s =
      let l : x < length m = h x (rw (eqb_same x) (omega arith)) in
      ap (λ (b : Bool). fold (look stamp step) (cond b (walk m' c v) (struck stamp step (walk m' c v) x)) ms) (tests x (x ∷ ms) m m' l s)
      ∙ by_head (eqb (get_or m x 0) stamp) refl (λ e. again ms m m' c v (λ i t. h i (more i t)) (skipped x ms m m' e s))
      (λ e. again ms (set m x stamp) (set m' x stamp) (c + 1) (step v x) (λ i t. rw (length-set m x stamp) (h i (more i t))) (looked_at x ms m m' l s))
    where
      more : (i : ℕ) → 0 < times i ms → 0 < weight (eqb i x) + times i ms
      more i t = omega arith

      by_head : (b : Bool) → eqb (get_or m x 0) stamp ≡ b → (eqb (get_or m x 0) stamp ≡ true
          → fold (look stamp step) (walk m' c v) ms ≡ fold (look stamp step) (walk m c v) ms) → (eqb (get_or m x 0) stamp ≡ false → fold (look stamp step)
          (struck stamp step (walk m' c v) x) ms ≡ fold (look stamp step) (struck stamp step (walk m c v) x) ms) → fold (look stamp step)
          (cond b (walk m' c v) (struck stamp step (walk m' c v) x)) ms ≡ fold (look stamp step) (cond b (walk m c v) (struck stamp step (walk m c v) x)) ms
      by_head true e p q = p e
      by_head false e p q = q e

-- ---- marks that a walk has left
besides : {A : Type 0} (stamp : ℕ) (step : A → ℕ → A) (ms m : List ℕ) (w : Walk A) → Besides ms m w.marks → Besides ms m (fold (look stamp step) w ms).marks
besides stamp step ms m w b = record { size = as_many stamp step ms w ∙ b.size; same = λ i t. off stamp step ms w i t ∙ b.same i t }

pub besides_own : (ms m : List ℕ) → Besides ms m m
besides_own ms m = record { size = refl; same = λ i t. refl }

-- under another stamp, over marks that are m but for what stands in the list
module _ (stamp other : ℕ) (apart : other ≡ stamp → ⊥) (ms m : List ℕ) (fresh : Fresh stamp m ms) {A : Type 0} (step : A → ℕ → A) (w : Walk A)
    (b : Besides ms m w.marks) where
  stale : Stale stamp ms m (fold (look other step) w ms).marks
  stale =
      record {
        size = as_many other step ms w ∙ b.size;
        each = λ i l.
            by_test (eqb (times i ms) 0)
            (λ t. let z = eqb-true (times i ms) 0 t in inl (off other step ms w i z ∙ b.same i z))
            (λ t.
            let p : 0 < times i ms = positive (times i ms) (eqb-false (times i ms) 0 t) in
            inr (p, (fresh i p).1, (λ q. apart (sym (at other step ms w i (rw b.size l) p) ∙ q))));
      }
    where
      positive : (k : ℕ) → (k ≡ 0 → ⊥) → 0 < k
      positive zero n = absurd (n refl)
      positive (suc k) n = omega arith

  fresh_again : Fresh stamp (fold (look other step) w ms).marks ms
  fresh_again i t =
      let l = (fresh i t).0 in
      (rw (as_many other step ms w, b.size) l, (λ q. apart (sym (at other step ms w i (rw b.size l) t) ∙ q)))

-- ---- as the code has it: a walk under another stamp left the marks m'
module _ (stamp other : ℕ) (apart : other ≡ stamp → ⊥) (ms m : List ℕ) (fresh : Fresh stamp m ms) (step : Best → ℕ → Best) (w : Walk Best)
    (b : Besides ms m w.marks) (m' : List ℕ) (s : Seen Best) (e : seen m' s ≡ fold (look other step) w ms) where
  abbrev marks_are : m' ≡ (fold (look other step) w ms).marks
  marks_are = ap (λ (u : Walk Best). u.marks) e

  pub left_fresh : Fresh stamp m' ms
  left_fresh = subst (λ (l : List ℕ). Fresh stamp l ms) (sym marks_are) (fresh_again stamp other apart ms m fresh step w b)

  -- a walk from there is one from m
  pub walked_again : (next : Best → ℕ → Best) (v : Best) (r : Walk Best) → r ≡ fold (look stamp next) (seen m' (record { count = 0; best = v })) ms
      → r ≡ fold (look stamp next) (seen m (record { count = 0; best = v })) ms
  walked_again next v r q =
      q ∙ again stamp next ms m m' 0 v (λ i t. (fresh i t).0)
      (subst (λ (l : List ℕ). Stale stamp ms m l) (sym marks_are) (stale stamp other apart ms m fresh step w b))

-- the marks that a walk under the stamp itself left
pub left_besides : (stamp : ℕ) (ms m m' : List ℕ) (step : Best → ℕ → Best) (s r : Seen Best) → seen m' r ≡ fold (look stamp step) (seen m s) ms → Besides ms m m'
left_besides stamp ms m m' step s r e =
    subst (λ (l : List ℕ). Besides ms m l) (sym (ap (λ (u : Walk Best). u.marks) e)) (besides stamp step ms m (seen m s) (besides_own ms m))
