-- One store, then each kind of step: nothing done, one entry done, two parts joined.
use mathlib.Core.Bool.{true}
use mathlib.Core.List.{List}
use mathlib.Core.Logic.{inl, inr, ⊎_elim}
use mathlib.Core.Path.{◌≡◌, refl, sym, ◌∙◌}
use Prim.Native.Nat.{ℕ, zero, suc, ◌+◌, ◌-◌, ◌≤◌, ◌<◌}
use native.Mathlib.Numerals.{add-one}
use native.Mathlib.Omega.{arith}
use borrow.Author.Tests.{eqb-true, eqb-false, eq-eqb}
use native.Mathlib.Nat.{zero-add}
use lib.Dec.{eqb}
use lib.ListN.{length, get_or, set, length-set}
use lib.Seq.{get_or-set_same, get_or-set_other}
use Rattle.cells.specs.Cover.{Cover, members_of}
use Rattle.rules.specs.Every.{weight}
use Rattle.cells.specs.Inside.{Set, Counted, CountedAll, Cleared, entry, sums, Summed, Open, Placed}
use Rattle.cells.proofs.Sets.{Split, by_lt, weight_on, weight_off, weight_le, weight_up, on_of_weight}
use Rattle.rules.proofs.Branches.{by_test}
use Rattle.cells.proofs.Members.{members_more}

-- ---- a store
pub stored_same : (s : List ℕ) (k v c : ℕ) → k < length s → c ≡ k → get_or (set s k v) c 0 ≡ v
stored_same s k v c h e = rw e (get_or-set_same s k v 0 h)

pub stored_other : (s : List ℕ) (k v c : ℕ) → (k ≡ c → ⊥) → get_or (set s k v) c 0 ≡ get_or s c 0
stored_other s k v c h = get_or-set_other s k c v 0 (λ e. h (sym e))

-- ---- counting
pub counted_one : (s : List ℕ) (k : ℕ) → k < length s → Counted (eqb k) s (set s k (get_or s k 0 + 1))
counted_one s k h =
    record {
      size = length-set s k _;
      each = λ c.
          by_test (eqb k c)
          (λ e. let p : k ≡ c = eqb-true k c e in stored_same s k _ c h (sym p) ∙ (rw (e, p) refl))
          (λ e. let q = stored_other s k (get_or s k 0 + 1) c (eqb-false k c e) in omega (arith, q, weight_off _ e));
    }

pub counted_none : (on : Set) (s : List ℕ) → ((c : ℕ) → weight (on c) ≡ 0) → Counted on s s
counted_none on s h = record { size = refl; each = λ c. omega (arith, h c) }

pub counted_join : (one two on : Set) (s s' s'' : List ℕ) → Split one two on → Counted one s s' → Counted two s' s'' → Counted on s s''
counted_join one two on s s' s'' d p q = record { size = q.size ∙ p.size; each = λ c. omega (arith, d c, p.each c, q.each c) }

pub counted_as : (on on' : Set) (s s' : List ℕ) → ((c : ℕ) → weight (on c) ≡ weight (on' c)) → Counted on s s' → Counted on' s s'
counted_as on on' s s' h p = record { size = p.size; each = λ c. omega (arith, h c, p.each c) }

-- ---- clearing
pub cleared_more : (s₀ s : List ℕ) (k : ℕ) → k < length s₀ → Cleared k s₀ s → Cleared (k + 1) s₀ (set s k 0)
cleared_more s₀ s k h p =
    let l : k < length s = omega (arith, p.size) in
    record {
      size = length-set s k 0 ∙ p.size;
      zeros = λ c lc. by_lt c k (λ m. stored_other s k 0 c (λ e. omega arith) ∙ p.zeros c m) (λ m. stored_same s k 0 c l (omega arith));
      rest = λ c lc. stored_other s k 0 c (λ e. omega arith) ∙ p.rest c (omega arith);
    }

pub cleared_none : (s : List ℕ) → Cleared 0 s s
cleared_none s = record { size = refl; zeros = λ c l. absurd (omega arith); rest = λ c l. refl }

pub cleared_as : (k k' : ℕ) (s s' : List ℕ) → k ≡ k' → Cleared k s s' → Cleared k' s s'
cleared_as k k' s s' e p = rw e at p

-- ---- all triangles counted
pub counted_all_none : (on : Cover) (s : List ℕ) → CountedAll on 0 s s
unfolding members_of
counted_all_none on s = record { size = refl; each = λ c. omega arith }

pub counted_all_more : (on : Cover) (i : ℕ) (s s' s'' : List ℕ) → CountedAll on i s s' → Counted (on i) s' s'' → CountedAll on (i + 1) s s''
counted_all_more on i s s' s'' p q = record { size = q.size ∙ p.size; each = λ c. omega (arith, p.each c, q.each c, members_more on i c) }

pub counted_all_as : (on : Cover) (i n : ℕ) (s s' : List ℕ) → i ≡ n → CountedAll on i s s' → CountedAll on n s s'
counted_all_as on i n s s' e p = rw e at p

-- ---- running sums
pub sums_more : (f : ℕ → ℕ) (k : ℕ) → sums f (k + 1) ≡ sums f k + f k
unfolding sums
sums_more f k = rw (add-one k)

pub sums_le : (f : ℕ → ℕ) (j d : ℕ) → sums f j ≤ sums f (j + d)
sums_le f j zero = let e : j + 0 ≡ j = omega arith in rw e (omega arith)
sums_le f j (suc d) = let e : j + suc d ≡ j + d + 1 = omega arith in rw e (omega (arith, sums_le f j d, sums_more f (j + d)))

pub sums_mono : (f : ℕ → ℕ) (j k : ℕ) → j ≤ k → sums f j ≤ sums f k
sums_mono f j k h = let e : j + (k - j) ≡ k = omega arith in rw e at (sums_le f j (k - j))

pub summed_none : (s : List ℕ) → Summed 1 s s
unfolding sums
summed_none s =
    record {
      size = refl;
      each = λ c h. let e : c ≡ 0 = omega arith in rw e (sym (zero-add (get_or s 0 0)));
      rest = λ c h. refl;
    }

pub summed_here : (s₀ s : List ℕ) (k : ℕ) → 0 < k → Summed k s₀ s → get_or s k 0 + get_or s (k - 1) 0 ≡ sums (entry s₀) (k + 1)
summed_here s₀ s k h p =
    let e : k - 1 + 1 ≡ k = omega arith in
    omega (arith, p.rest k (omega arith), rw e at (p.each (k - 1) (omega arith)), sums_more (entry s₀) k)

pub summed_more : (s₀ s : List ℕ) (k : ℕ) → 0 < k → k < length s₀ → Summed k s₀ s → Summed (k + 1) s₀ (set s k (get_or s k 0 + get_or s (k - 1) 0))
summed_more s₀ s k h l p =
    let v = get_or s k 0 + get_or s (k - 1) 0 in
    record {
      size = length-set s k v ∙ p.size;
      each = λ c lc.
          by_lt c k
          (λ m. stored_other s k v c (λ e. omega arith) ∙ p.each c m)
          (λ m. let e : c ≡ k = omega arith in stored_same s k v c (omega (arith, p.size)) e ∙ (rw e (summed_here s₀ s k h p)));
      rest = λ c lc. stored_other s k v c (λ e. omega arith) ∙ p.rest c (omega arith);
    }

-- ---- placing
pub placed_one : (i : ℕ) (s m : List ℕ) (k : ℕ) → k < length s → 0 < get_or s k 0 → get_or s k 0 ≤ length m
    → Placed (eqb k) i s m (set s k (get_or s k 0 - 1)) (set m (get_or s k 0 - 1) i)
placed_one i s m k h z r =
    let v = get_or s k 0 - 1 in
    let here : get_or (set s k v) k 0 ≡ v = stored_same s k v k h refl in
    record {
      cells = length-set s k v;
      size = length-set m v i;
      each = λ c.
          by_test (eqb k c)
          (λ e. let q : k ≡ c = eqb-true k c e in rw (← q) (omega (arith, here, weight_on _ (rw (← q) at e))))
          (λ e. omega (arith, stored_other s k v c (eqb-false k c e), weight_off _ e));
      put = λ c e. let q : k ≡ c = eqb-true k c e in rw (← q, here) (stored_same m v i v (omega arith) refl);
      either = λ p. by_test (eqb v p) (λ e. inl (stored_same m v i p (omega arith) (sym (eqb-true v p e)))) (λ e. inr (stored_other m v i p (eqb-false v p e)));
      rest = λ p g. stored_other m v i p (λ e. g k (eq-eqb k k refl) (here ∙ e));
    }

pub placed_none : (on : Set) (i : ℕ) (s m : List ℕ) → ((c : ℕ) → weight (on c) ≡ 0) → Placed on i s m s m
placed_none on i s m h =
    record {
      cells = refl;
      size = refl;
      each = λ c. omega (arith, h c);
      put = λ c e. absurd (omega (arith, h c, weight_on _ e));
      either = λ p. inr refl;
      rest = λ p g. refl;
    }

pub placed_join : (one two on : Set) (i : ℕ) (s m s' m' s'' m'' : List ℕ) → Split one two on
    → Placed one i s m s' m' → Placed two i s' m' s'' m'' → Placed on i s m s'' m''
placed_join one two on i s m s' m' s'' m'' d p q =
    record {
      cells = q.cells ∙ p.cells;
      size = q.size ∙ p.size;
      each = λ c. omega (arith, d c, p.each c, q.each c);
      put = λ c e.
          by_test (two c)
          (λ t. q.put c t)
          (λ f.
          let o : one c ≡ true = on_of_weight _ (omega (arith, d c, weight_on _ e, weight_off _ f)) in
          let k : get_or s'' c 0 ≡ get_or s' c 0 = omega (arith, q.each c, weight_off _ f) in
          ⊎_elim (λ y. y) (λ y. y ∙ (rw k (p.put c o))) (q.either (get_or s'' c 0)));
      either = λ x. ⊎_elim inl (λ y. ⊎_elim (λ z. inl (y ∙ z)) (λ z. inr (y ∙ z)) (p.either x)) (q.either x);
      rest = λ x g.
          q.rest x (λ c t. g c (on_of_weight _ (weight_up _ _ _ (d c) (weight_on _ t))))
          ∙ p.rest x
          (λ c o e.
          let f : weight (two c) ≡ 0 = omega (arith, d c, weight_on _ o, weight_le (on c)) in
          g c (on_of_weight _ (omega (arith, d c, weight_on _ o))) (omega (arith, q.each c)));
    }

pub placed_as : (on on' : Set) (i : ℕ) (s m s' m' : List ℕ) → ((c : ℕ) → weight (on c) ≡ weight (on' c)) → Placed on i s m s' m' → Placed on' i s m s' m'
placed_as on on' i s m s' m' h p =
    record {
      cells = p.cells;
      size = p.size;
      each = λ c. omega (arith, h c, p.each c);
      put = λ c e. p.put c (on_of_weight _ (omega (arith, h c, weight_on _ e)));
      either = p.either;
      rest = λ x g. p.rest x (λ c e. g c (on_of_weight _ (omega (arith, h c, weight_on _ e))));
    }

pub summed_as : (k k' : ℕ) (s s' : List ℕ) → k ≡ k' → Summed k s s' → Summed k' s s'
summed_as k k' s s' e p = rw e at p

-- cells that were not reached yet are still open
pub open_part : (on part done : Set) (i : ℕ) (s₀ m₀ s m : List ℕ) → ((c : ℕ) → part c ≡ true → (on c ≡ true) × (weight (done c) ≡ 0)) → Open on s₀ m₀
    → Placed done i s₀ m₀ s m → Open part s m
open_part on part done i s₀ m₀ s m h o p =
    record {
      inside = λ c e. omega (arith, o.inside c (h c e).0, p.cells);
      some = λ c e. omega (arith, o.some c (h c e).0, p.each c, (h c e).1);
      room = λ c e. omega (arith, o.room c (h c e).0, p.each c, p.size, (h c e).1);
    }
