-- Placing from the last triangle back: the begin, one triangle more, and why no member placed earlier is overwritten.
use mathlib.Core.Bool.{true}
use mathlib.Core.List.{List}
use mathlib.Core.Path.{◌≡◌, refl, ap, sym, ◌∙◌}
use Prim.Native.Nat.{ℕ, ◌+◌, ◌≤◌, ◌<◌}
use native.Mathlib.Omega.{arith}
use lib.ListN.{length, get_or}
use Rattle.cells.specs.Cover.{Cover, members_of, start_of}
use Rattle.cells.specs.Inside.{Open, Placed, Ready, Filled}
use Rattle.cells.proofs.Sets.{by_lt, weight_on, weight_off}
use Rattle.rules.proofs.Branches.{by_test}
use Rattle.cells.proofs.Members.{members_more, members_mono, member_at, start_more, cell_before}

module _ (on : Cover) (n cells : ℕ) (s₀ m₀ : List ℕ) (ready : Ready on n cells s₀ m₀) where
  pub filled_none : Filled on n cells n s₀ m₀ s₀ m₀
  filled_none =
      record {
        cells' = refl;
        size = refl;
        each = λ c h. ready.each c h ∙ start_more on n c;
        past = λ c h. refl;
        put = λ c k h a b. absurd (omega arith);
        rest = λ p h. refl;
      }

  -- the next triangle finds its cells open
  pub filled_open : (j : ℕ) (s m : List ℕ) → j < n → Filled on n cells (j + 1) s₀ m₀ s m → Open (on j) s m
  filled_open j s m l p =
      record {
        inside = λ c e. omega (arith, ready.inside j c l e, ready.table, p.cells');
        some = λ c e. omega (arith, p.each c (ready.inside j c l e), members_more on j c, weight_on _ e);
        room = λ c e.
            omega (
              arith,
              p.each c (ready.inside j c l e),
              members_mono on (j + 1) n c (omega arith),
              cell_before on n c cells (ready.inside j c l e),
              ready.room,
              p.size,
            );
      }

  module _ (j : ℕ) (s m s' m' : List ℕ) (l : j < n) (p : Filled on n cells (j + 1) s₀ m₀ s m) (q : Placed (on j) j s m s' m') where
    -- where a start points afterwards
    moved : (c : ℕ) → c < cells → get_or s' c 0 ≡ start_of on n c + length (members_of on j c)
    moved c h = omega (arith, p.each c h, q.each c, members_more on j c)

    -- triangle j's place in a covered cell lies inside that cell's stretch
    taken : (c : ℕ) → on j c ≡ true → (c < cells) × (get_or s' c 0 ≡ start_of on n c + length (members_of on j c))
        × (length (members_of on j c) < length (members_of on n c))
    taken c e =
        let h = ready.inside j c l e in
        (h, moved c h, omega (arith, members_more on j c, members_mono on (j + 1) n c (omega arith), weight_on _ e))

    -- and nobody stood there
    not_taken : (c k d : ℕ) → c < cells → length (members_of on (j + 1) c) ≤ k → k < length (members_of on n c) → on j d ≡ true
        → get_or s' d 0 ≡ start_of on n c + k → ⊥
    not_taken c k d h a b e f =
        let t = taken d e in
        by_lt c d
        (λ u. omega (arith, t, cell_before on n c d u))
        (λ u.
        by_lt d c
        (λ v. omega (arith, t, cell_before on n d c v))
        (λ v.
        let z : d ≡ c = omega arith in
        let g : length (members_of on j d) ≡ length (members_of on j c) = ap (λ (x : ℕ). length (members_of on j x)) z in
        let g' : start_of on n d ≡ start_of on n c = ap (λ (x : ℕ). start_of on n x) z in
        let w : on j c ≡ true = rw z at e in
        omega (arith, t, members_more on j c, weight_on _ w)))

    pub filled_more : Filled on n cells j s₀ m₀ s' m'
    filled_more =
        record {
          cells' = q.cells ∙ p.cells';
          size = q.size ∙ p.size;
          each = moved;
          past = λ c h. by_test (on j c) (λ e. absurd (omega (arith, ready.inside j c l e))) (λ e. omega (arith, q.each c, p.past c h, weight_off _ e));
          put = λ c k h a b.
              by_lt k (length (members_of on (j + 1) c))
              (λ u.
              by_test (on j c)
              (λ e.
              let z : k ≡ length (members_of on j c) = omega (arith, members_more on j c, weight_on _ e) in
              rw (z, ← moved c h) (q.put c e ∙ sym (member_at on n j c l e)))
              (λ e. absurd (omega (arith, members_more on j c, weight_off _ e))))
              (λ u. q.rest (start_of on n c + k) (λ d e f. not_taken c k d h u b e f) ∙ p.put c k h u b);
          rest = λ x h. q.rest x (λ d e f. omega (arith, taken d e, cell_before on n d cells (taken d e).0)) ∙ p.rest x h;
        }

pub filled_as : (on : Cover) (n cells j j' : ℕ) (s₀ m₀ s m : List ℕ) → j ≡ j' → Filled on n cells j s₀ m₀ s m → Filled on n cells j' s₀ m₀ s m
filled_as on n cells j j' s₀ m₀ s m e p = rw e at p
