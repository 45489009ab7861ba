-- Crests and tops: what is at least a crest is at least what the crest caps.
use mathlib.Core.Bool.{true}
use mathlib.Core.List.{List}
use mathlib.Core.Path.{◌≡◌, ap, sym, ◌∙◌, subst}
use Prim.Native.Nat.{ℕ, ◌+◌, ◌*◌, ◌≤◌, ◌<◌}
use native.Mathlib.Omega.{arith}
use borrow.Author.Tests.{eqb-true, eqb-false}
use lib.Dec.{T, eqb}
use lib.Ieee.{Float, nan, lt, le, eq}
use lib.Ieee.Bits.{is_true}
use lib.ListN.{length, get_or, set}
use lib.Seq.{get_or-set_same, get_or-set_other}
use Rattle.numbers.specs.Reals.{num}
use Rattle.rules.proofs.Branches.{by_test, no}
use Rattle.order.proofs.Order.{le_trans}
use Rattle.order.proofs.Extremes.{lt_le}
use Rattle.plane.specs.declared.Bounds.{Bounds}
use Rattle.walk.specs.Walk.{cell}
use Rattle.walk.specs.Inside.{Below}
use Rattle.grid.specs.Boxes.{box_at}
use Rattle.crests.specs.Inside.{place_of, Caps, CapsAll, Boxed, Crested}

pub caps_under : (crest top : Float) → le top crest ≡ true → Caps crest top
caps_under crest top e v h = is_true _ (le_trans top crest v (subst T (sym e) tt) (subst T (sym h) tt))

pub caps_over : (crest top : Float) → lt crest top ≡ true → Caps top crest
caps_over crest top e v h = is_true _ (le_trans crest top v (lt_le crest top e) (subst T (sym h) tt))

pub caps_nan : (top : Float) → Caps nan top
unfolding le lt eq
caps_nan top v h = absurd (no h)

pub caps_on : (r c t : Float) → Caps r c → Caps c t → Caps r t
caps_on r c t p q v h = q v (p v h)

-- ---- a table of which one entry was raised
module _ (crests : List Float) (k : ℕ) (r : Float) (l : k < length crests) where
  pub set_caps : Caps r (num crests k) → (j : ℕ) → Caps (num (set crests k r) j) (num crests j)
  set_caps p j =
      by_test (eqb j k)
      (λ e. let i : j ≡ k = eqb-true j k e in rw (i, get_or-set_same crests k r nan l) p)
      (λ e. rw (get_or-set_other crests k j r nan (eqb-false j k e)) (λ v h. h))

  set_here : (p : ℕ) → k ≡ p → num (set crests k r) p ≡ r
  set_here p e = ap (num (set crests k r)) (sym e) ∙ get_or-set_same crests k r nan l

  pub set_all : (boxes : List Float) (ms : List ℕ) (p : ℕ) → k ≡ p → CapsAll boxes r ms → CapsAll boxes (num (set crests k r) p) ms
  set_all boxes ms p e g i m v h = g i m v (subst (λ (x : Float). le x v ≡ true) (set_here p e) h)

-- the boxes of triangles whose numbers are below n
pub boxed_is : (n : ℕ) (boxes : List Float) (part ms : List ℕ) → part ≡ ms → length boxes ≡ n * 5 → Below n ms → Boxed boxes part
boxed_is n boxes part ms e five b = rw e (λ k l. omega (arith, b k l))

-- ---- cells one after the other
module _ (starts members : List ℕ) (boxes : List Float) (columns : ℕ) where
  -- the rows in front of y, and in row y the cells in front of x
  pub record Rowed (y x : ℕ) (crests : List Float) : Type 0 where
    pub size : length crests ≡ 8192
    pub behind : (u v : ℕ) → u < columns → v < y → CapsAll boxes (num crests (place_of (v * columns + u))) (cell starts members (v * columns + u))
    pub beside : (u : ℕ) → u < x → CapsAll boxes (num crests (place_of (y * columns + u))) (cell starts members (y * columns + u))

  pub rowed_none : (crests : List Float) → length crests ≡ 8192 → Rowed 0 0 crests
  rowed_none crests s = record { size = s; behind = λ u v h l. absurd (omega arith); beside = λ u l. absurd (omega arith) }

  -- one cell more
  pub rowed_more : (y x : ℕ) (crests new : List Float) → Rowed y x crests → length new ≡ 8192 → ((j : ℕ) → Caps (num new j) (num crests j))
      → (part : List ℕ) → part ≡ cell starts members (y * columns + x) → CapsAll boxes (num new (place_of (y * columns + x))) part → Rowed y (x + 1) new
  rowed_more y x crests new g s up part q p =
      let here : CapsAll boxes (num new (place_of (y * columns + x))) (cell starts members (y * columns + x)) =
      subst (CapsAll boxes (num new (place_of (y * columns + x)))) q p in
      record {
        size = s;
        behind = λ u v h l k m. caps_on _ _ _ (up (place_of (v * columns + u))) (g.behind u v h l k m);
        beside = λ u l.
            by_test (eqb u x)
            (λ e. let i : u ≡ x = eqb-true u x e in rw i here)
            (λ e. λ k m. caps_on _ _ _ (up (place_of (y * columns + u))) (g.beside u (let n = eqb-false u x e in omega arith) k m));
      }

  -- a row more
  pub rowed_next : (y x : ℕ) (crests : List Float) → columns ≤ x → Rowed y x crests → Rowed (y + 1) 0 crests
  rowed_next y x crests h g =
      record {
        size = g.size;
        behind = λ u v l m.
            by_test (eqb v y)
            (λ e. let i : v ≡ y = eqb-true v y e in rw i (g.beside u (omega arith)))
            (λ e. g.behind u v l (let n = eqb-false v y e in omega arith));
        beside = λ u l. absurd (omega arith);
      }

  pub rowed_all : (y rows : ℕ) (crests : List Float) → rows ≤ y → Rowed y 0 crests → Crested starts members boxes columns rows crests
  rowed_all y rows crests h g = record { size = g.size; over = λ u v l m. g.behind u v l (omega arith) }

-- ---- the triangles of a cell one after the other
module _ (boxes : List Float) (part : List ℕ) (crest : Float) where
  pub record Capped (j : ℕ) (highest : Float) : Type 0 where
    pub first : Caps highest crest
    pub each : (k : ℕ) → k < j → Caps highest (box_at boxes (get_or part k 0)).top

  pub capped_none : Capped 0 crest
  capped_none = record { first = λ v h. h; each = λ k l. absurd (omega arith) }

  pub capped_more : (j : ℕ) (old new : Float) (b : Bounds) → Capped j old → b ≡ box_at boxes (get_or part j 0)
      → Caps new old × Caps new b.top → Capped (j + 1) new
  capped_more j old new b g e p =
      record {
        first = caps_on new old crest p.0 g.first;
        each = λ k l.
            by_test (eqb k j)
            (λ t. let i : k ≡ j = eqb-true k j t in rw (i, ← e) p.1)
            (λ t. caps_on new old _ p.0 (g.each k (let n = eqb-false k j t in omega arith)));
      }
