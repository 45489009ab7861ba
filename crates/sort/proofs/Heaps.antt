-- Heaps over any strict order `less` of numbers.
use mathlib.Core.Bool.{Bool, true, false, not}
use mathlib.Core.List.{List}
use mathlib.Core.Logic.{⊎_elim}
use mathlib.Core.Path.{◌≡◌, refl, sym, ◌∙◌, ap}
use Prim.Native.Nat.{ℕ, zero, suc, ◌+◌, ◌*◌, ◌≤◌, ◌<◌}
use native.Mathlib.Omega.{arith}
use borrow.Author.Tests.{ltb-true, ltb-false}
use lib.Dec.{ltb}
use lib.ListN.{length, get_or}
use Rattle.sort.specs.Inside.{Rearranged, swapped, Heap, Within, later_of}
use Rattle.sort.proofs.Counts.{on_or_off, same_or_not, swapped_at_a, swapped_at_b, swapped_else, swap_rearranges, rearranged_twice}

-- what makes `less` a strict order of all numbers
pub record Strict (less : ℕ → ℕ → Bool) : Type 0 where
  pub never : (x : ℕ) → less x x ≡ false
  pub one_way : (x y : ℕ) → less x y ≡ true → less y x ≡ false
  pub through : (x y z : ℕ) → less y x ≡ false → less z y ≡ false → less z x ≡ false
  pub one : (x y : ℕ) → less x y ≡ false → less y x ≡ false → x ≡ y

-- d is under i, and nothing else under i comes after it
pub record Later (less : ℕ → ℕ → Bool) (l : List ℕ) (i e d : ℕ) : Type 0 where
  pub low : 2 * i < d
  pub high : d ≤ 2 * i + 2
  pub inside : d < e
  pub last : (j : ℕ) → 2 * i < j → j ≤ 2 * i + 2 → j < e → less (get_or l d 0) (get_or l j 0) ≡ false

-- entry i is on its way down: everywhere else the heap stands, and what is over i also stands over what is under i
pub record Sifting (less : ℕ → ℕ → Bool) (r e : ℕ) (l₀ l : List ℕ) (i : ℕ) : Type 0 where
  pub moved : Rearranged e l₀ l
  pub heap : (p j : ℕ) → r ≤ p → (p ≡ i → ⊥) → 2 * p < j → j ≤ 2 * p + 2 → j < e → less (get_or l p 0) (get_or l j 0) ≡ false
  pub across : (p j : ℕ) → r ≤ p → 2 * p < i → i ≤ 2 * p + 2 → 2 * i < j → j ≤ 2 * i + 2 → j < e → less (get_or l p 0) (get_or l j 0) ≡ false
  pub low : r ≤ i
  pub inside : i < e

-- the entries from t up to k come after all that stand before them
abbrev pub Tail : (ℕ → ℕ → Bool) → ℕ → ℕ → List ℕ → Type 0
Tail less t k l = (a b : ℕ) → a < b → t ≤ b → b < k → less (get_or l b 0) (get_or l a 0) ≡ false

module _ (less : ℕ → ℕ → Bool) (s : Strict less) where
  not_on : (b : Bool) → b ≡ false → not b ≡ true
  not_on b e = rw e

  not_off : (b : Bool) → not b ≡ true → b ≡ false
  not_off true e = sym e
  not_off false e = refl

  pub later_is : (l : List ℕ) (i e d : ℕ) → 2 * i + 1 < e → d ≡ later_of less l (2 * i + 1) e → Later less l i e d
  unfolding later_of
  later_is l i e d h eq =
      ⊎_elim
      (λ (t : ltb (2 * i + 1 + 1) e ≡ true).
      ⊎_elim
      (λ (u : less (get_or l (2 * i + 1) 0) (get_or l (2 * i + 1 + 1) 0) ≡ true).
      let w : d ≡ 2 * i + 1 + 1 = rw (t, u) at eq in
      let v : 2 * i + 1 + 1 < e = ltb-true _ _ t in
      record {
        low = omega arith;
        high = omega arith;
        inside = omega arith;
        last = λ j a b c.
            ⊎_elim
            (λ (n : j ≡ d). rw n (s.never _))
            (λ (n : j ≡ d → ⊥). let k : j ≡ 2 * i + 1 = omega arith in rw (k, w) (s.one_way _ _ u))
            (same_or_not j d);
      })
      (λ (u : less (get_or l (2 * i + 1) 0) (get_or l (2 * i + 1 + 1) 0) ≡ false).
      let w : d ≡ 2 * i + 1 = rw (t, u) at eq in
      record {
        low = omega arith;
        high = omega arith;
        inside = omega arith;
        last = λ j a b c.
            ⊎_elim
            (λ (n : j ≡ d). rw n (s.never _))
            (λ (n : j ≡ d → ⊥). let k : j ≡ 2 * i + 1 + 1 = omega arith in rw (k, w) u)
            (same_or_not j d);
      })
      (on_or_off _))
      (λ (t : ltb (2 * i + 1 + 1) e ≡ false).
      let w : d ≡ 2 * i + 1 = rw t at eq in
      let v : e ≤ 2 * i + 1 + 1 = ltb-false _ _ t in
      record {
        low = omega arith;
        high = omega arith;
        inside = omega arith;
        last = λ j a b c. let k : j ≡ d = omega arith in rw k (s.never _);
      })
      (on_or_off _)

  module _ (r e : ℕ) (l₀ : List ℕ) where
    pub sifting_starts : r < e → Heap less (r + 1) e l₀ → Rearranged e l₀ l₀ → Sifting less r e l₀ l₀ r
    sifting_starts h heap m =
        record {
          moved = m;
          heap = λ p j a n b c d. heap p j (omega arith) b c d;
          across = λ p j a b c d f g. absurd (omega arith);
          low = omega arith;
          inside = h;
        }

    -- entry i swapped with the later one under it
    module _ (l : List ℕ) (i d : ℕ) (room : e ≤ length l) (g : Sifting less r e l₀ l i) (t : Later less l i e d)
        (u : less (get_or l i 0) (get_or l d 0) ≡ true) where
      hi : i < length l
      hi = omega (arith, g.inside)

      hd : d < length l
      hd = omega (arith, t.inside)

      at_i : get_or (swapped l i d) i 0 ≡ get_or l d 0
      at_i = swapped_at_a l i d hi hd

      at_d : get_or (swapped l i d) d 0 ≡ get_or l i 0
      at_d = swapped_at_b l i d hi hd

      elsewhere : (p : ℕ) → (p ≡ i → ⊥) → (p ≡ d → ⊥) → get_or (swapped l i d) p 0 ≡ get_or l p 0
      elsewhere = swapped_else l i d hi hd

      under_i : (j : ℕ) → 2 * i < j → j ≤ 2 * i + 2 → j < e → less (get_or (swapped l i d) i 0) (get_or (swapped l i d) j 0) ≡ false
      under_i j a b c =
          rw at_i
          (⊎_elim
          (λ (n : j ≡ d). rw (n, at_d) (s.one_way _ _ u))
          (λ (n : j ≡ d → ⊥). rw (elsewhere j (λ m. omega arith) n) (t.last j a b c))
          (same_or_not j d))

      over_i : (p : ℕ) → r ≤ p → 2 * p < i → i ≤ 2 * p + 2 → less (get_or (swapped l i d) p 0) (get_or (swapped l i d) i 0) ≡ false
      over_i p a b c = rw (at_i, elsewhere p (λ m. omega arith) (λ m. omega (arith, t.low))) (g.across p d a b c t.low t.high t.inside)

      pub sifting_goes : Sifting less r e l₀ (swapped l i d) d
      sifting_goes =
          record {
            moved = rearranged_twice e l₀ l _ g.moved (swap_rearranges l i d hi hd e g.inside t.inside);
            heap = λ p j a n b c f.
                ⊎_elim
                (λ (m : p ≡ i). rw m (under_i j (omega arith) (omega arith) f))
                (λ (m : p ≡ i → ⊥).
                ⊎_elim
                (λ (k : j ≡ i). rw k (over_i p a (omega arith) (omega arith)))
                (λ (k : j ≡ i → ⊥).
                rw (elsewhere p m n, elsewhere j k (λ q. m (omega (arith, t.low, t.high))))
                (g.heap p j a m b c f))
                (same_or_not j i))
                (same_or_not p i);
            across = λ p j a b c f h k.
                let m : p ≡ i = omega (arith, t.low, t.high) in
                rw (m, at_i, elsewhere j (λ q. omega (arith, t.low)) (λ q. omega arith))
                (g.heap d j (omega (arith, t.low, g.low)) (λ q. omega (arith, t.low)) f h k);
            low = omega (arith, t.low, g.low);
            inside = t.inside;
          }

    pub sifting_rests : (l : List ℕ) (i d : ℕ) → Sifting less r e l₀ l i → Later less l i e d → less (get_or l i 0) (get_or l d 0) ≡ false → Heap less r e l
    sifting_rests l i d g t u p j a b c h =
        ⊎_elim
        (λ (m : p ≡ i). rw m (s.through _ _ _ (t.last j (omega arith) (omega arith) h) u))
        (λ (m : p ≡ i → ⊥). g.heap p j a m b c h)
        (same_or_not p i)

    pub sifting_ends : (l : List ℕ) (i : ℕ) → Sifting less r e l₀ l i → e ≤ 2 * i + 1 → Heap less r e l
    sifting_ends l i g u p j a b c h = g.heap p j a (λ m. omega arith) b c h

  -- every entry of a heap has one over it, so none comes after entry 0
  over : (j : ℕ) → (p : ℕ) × (2 * p < suc j) × (suc j ≤ 2 * p + 2)
  over zero = (0, omega arith, omega arith)
  over (suc zero) = (0, omega arith, omega arith)
  over (suc (suc j)) = let (p, a, b) = over j in (p + 1, omega arith, omega arith)

  -- below a bound m on the entries, so that the recursion goes by m
  top_below : (e : ℕ) (l : List ℕ) → Heap less 0 e l → (m j : ℕ) → j < m → j < e → less (get_or l 0 0) (get_or l j 0) ≡ false
  top_below e l h zero j a b = absurd (omega arith)
  top_below e l h (suc m) zero a b = s.never _
  top_below e l h (suc m) (suc j) a b =
      let (p, u, v) = over j in
      s.through _ _ _ (h p (suc j) (omega arith) u v b) (top_below e l h m p (omega arith) (omega arith))

  pub top_is_last : (e : ℕ) (l : List ℕ) → Heap less 0 e l → (j : ℕ) → j < e → less (get_or l 0 0) (get_or l j 0) ≡ false
  top_is_last e l h j b = top_below e l h (suc j) j (omega arith) b

  pub tail_kept : (e k : ℕ) (l l' : List ℕ) → Rearranged e l l' → Tail less e k l → Tail less e k l'
  tail_kept e k l l' r t a b x y z =
      rw (r.rest b y)
      (⊎_elim
      (λ (u : ltb a e ≡ true).
      not_off _ (r.inside (λ v. not (less (get_or l b 0) v)) (λ p h. not_on _ (t p b (omega arith) y z)) a (ltb-true a e u)))
      (λ (u : ltb a e ≡ false). rw (r.rest a (ltb-false a e u)) (t a b x y z))
      (on_or_off (ltb a e)))

  -- the last of a heap of m + 1 entries swapped with the first: it goes before the sorted end, and the rest is a heap but for its first
  module _ (m k : ℕ) (l : List ℕ) (room : m < length l) (h : Heap less 0 (m + 1) l) (t : Tail less (m + 1) k l) where
    swapped_all : Rearranged (m + 1) l (swapped l 0 m)
    swapped_all = swap_rearranges l 0 m (omega arith) room (m + 1) (omega arith) (omega arith)

    pub swap_tail : Tail less m k (swapped l 0 m)
    swap_tail a b x y z =
        ⊎_elim
        (λ (u : b ≡ m).
        rw (u, swapped_at_b l 0 m (omega arith) room)
        (not_off _ (swapped_all.inside (λ v. not (less (get_or l 0 0) v)) (λ p q. not_on _ (top_is_last (m + 1) l h p q)) a (omega arith))))
        (λ (u : b ≡ m → ⊥). tail_kept (m + 1) k l _ swapped_all t a b x (omega arith) z)
        (same_or_not b m)

    pub swap_heap : Heap less 1 m (swapped l 0 m)
    swap_heap p j a b c d =
        rw (
          swapped_else l 0 m (omega arith) room p (λ u. omega arith) (λ u. omega arith),
          swapped_else l 0 m (omega arith) room j (λ u. omega arith) (λ u. omega arith),
        )
        (h p j (omega arith) b c (omega arith))

pub within_kept : (n e : ℕ) (l l' : List ℕ) → Within n e l → Rearranged e l l' → Within n e l'
within_kept n e l l' w r = record { table = omega (arith, w.table, r.size); numbers = r.inside (λ v. ltb v n) w.numbers }

pub within_less : (n e m : ℕ) (l : List ℕ) → m ≤ e → Within n e l → Within n m l
within_less n e m l h w = record { table = omega (arith, w.table); numbers = λ p q. w.numbers p (omega arith) }

-- the first entries rearranged, among them fewer
pub rearranged_more : (e m : ℕ) (l l' : List ℕ) → m ≤ e → Rearranged m l l' → Rearranged e l l'
rearranged_more e m l l' h r =
    record {
      size = r.size;
      same = r.same;
      inside = λ P all p q.
          ⊎_elim
          (λ (u : ltb p m ≡ true). r.inside P (λ p' h'. all p' (omega arith)) p (ltb-true p m u))
          (λ (u : ltb p m ≡ false). ap P (r.rest p (ltb-false p m u)) ∙ all p q)
          (on_or_off (ltb p m));
      rest = λ p q. r.rest p (omega arith);
    }

-- a heap of the first e entries, and behind it, up to k, what has been sorted
pub record Sorting (less : ℕ → ℕ → Bool) (k : ℕ) (l₀ l : List ℕ) (e : ℕ) : Type 0 where
  pub moved : Rearranged k l₀ l
  pub heap : Heap less 0 e l
  pub tail : Tail less e k l
  pub few : e ≤ k

pub sorting_starts : (less : ℕ → ℕ → Bool) (k : ℕ) (l : List ℕ) → Heap less 0 k l → Rearranged k l l → Sorting less k l l k
sorting_starts less k l h r = record { moved = r; heap = h; tail = λ a b x y z. absurd (omega arith); few = omega arith }

-- the first of the heap put behind it, and the rest made a heap again
module _ (less : ℕ → ℕ → Bool) (s : Strict less) (n k : ℕ) (l₀ l l₁ : List ℕ) (e m : ℕ) (w : Within n k l₀) (g : Sorting less k l₀ l e) (q : e ≡ m + 1)
    (sw : l₁ ≡ swapped l 0 m) where
  inside : m < length l
  inside = omega (arith, g.few, g.moved.size, w.table)

  apart : Rearranged k l l₁
  apart = rw sw (swap_rearranges l 0 m (omega (arith, inside)) inside k (omega (arith, g.few)) (omega (arith, g.few)))

  heaped : Heap less 0 (m + 1) l
  heaped p j a b c d = g.heap p j a b c (omega arith)

  ended : Tail less (m + 1) k l
  ended a b x y z = g.tail a b x (omega arith) z

  pub sorting_ready : Within n m l₁ × Heap less 1 m l₁
  sorting_ready = (
    within_less n k m l₁ (omega (arith, g.few)) (within_kept n k l₀ l₁ w (rearranged_twice k l₀ l l₁ g.moved apart)),
    rw sw (swap_heap less s m k l inside heaped ended),
  )

  pub sorting_goes : (l' : List ℕ) → Rearranged m l₁ l' → Heap less 0 m l' → Sorting less k l₀ l' m
  sorting_goes l' r h =
      record {
        moved = rearranged_twice k l₀ l l' g.moved (rearranged_twice k l l₁ l' apart (rearranged_more k m l₁ l' (omega (arith, g.few)) r));
        heap = h;
        tail = tail_kept less s m k l₁ l' r (rw sw (swap_tail less s m k l inside heaped ended));
        few = omega (arith, g.few);
      }
