-- From step to step: after clearing there is room to count, after counting to sum, after summing to place, and at the end both tables are the definition's.
use mathlib.Core.Bool.{true}
use mathlib.Core.List.{List, [], ◌∷◌, ◌++◌}
use mathlib.Core.Path.{◌≡◌, refl, ap, sym, ◌∙◌}
use Prim.Native.Nat.{ℕ, zero, suc, ◌+◌, ◌-◌, ◌^◌, ◌≤◌, ◌<◌}
use native.Mathlib.Numerals.{add-one}
use native.Mathlib.Omega.{arith}
use lib.ListN.{length, get_or, drop, length-append, length-drop, get_or-append}
use lib.Seq.{ext_get_or, get_or-append-add, get_or-append_seam, get_or-drop}
use Rattle.cells.specs.Cover.{Cover, members_of, listed, start_of, entries, starts_of, members_table}
use Rattle.rules.specs.Every.{weight}
use Rattle.cells.specs.Inside.{entry, sums, Cleared, Room, CountedAll, Summed, Ready, Filled, Fits}
use Rattle.cells.proofs.Sets.{by_lt, weight_off}
use Rattle.rules.proofs.Branches.{by_test}
use Rattle.cells.proofs.Members.{members_suc, start_more, all_members}

-- ---- a table that is xs in front and the old one behind
pub front_is : (xs old t : List ℕ) → length xs ≤ length old → length t ≡ length old
    → ((p : ℕ) → p < length xs → get_or t p 0 ≡ get_or xs p 0) → ((p : ℕ) → length xs ≤ p → get_or t p 0 ≡ get_or old p 0)
    → t ≡ xs ++ drop (length xs) old
front_is xs old t h e f g =
    let k = length xs in
    ext_get_or 0 t (xs ++ drop k old) (omega (arith, length-append xs (drop k old), length-drop k old))
    (λ p l.
    by_lt p k
    (λ q. f p q ∙ sym (get_or-append xs (drop k old) 0 p q))
    (λ q.
    let d : k + (p - k) ≡ p = omega arith in
    g p q ∙ sym (ap (λ (x : ℕ). get_or (xs ++ drop k old) x 0) (sym d) ∙ get_or-append-add xs (drop k old) (p - k) 0 ∙ get_or-drop k old (p - k) 0
    ∙ ap (λ (x : ℕ). get_or old x 0) d)))

module _ (f : ℕ → ℕ) where
  pub entries_length : (k : ℕ) → length (entries f k) ≡ k
  unfolding entries
  entries_length zero = refl
  entries_length (suc k) = omega (arith, length-append (entries f k) (f k ∷ []), entries_length k)

  pub entries_at : (k c : ℕ) → c < k → get_or (entries f k) c 0 ≡ f c
  unfolding entries
  entries_at zero c h = absurd (omega arith)
  entries_at (suc k) c h =
      by_lt c k
      (λ l. get_or-append (entries f k) (f k ∷ []) 0 c (omega (arith, entries_length k)) ∙ entries_at k c l)
      (λ l. let e : c ≡ length (entries f k) = omega (arith, entries_length k) in (rw e (get_or-append_seam (entries f k) (f k) [] 0))
      ∙ ap f (sym (entries_length k) ∙ sym e))

  pub entries_are : (k : ℕ) (old t : List ℕ) → k ≤ length old → length t ≡ length old
      → ((c : ℕ) → c < k → get_or t c 0 ≡ f c) → ((c : ℕ) → k ≤ c → get_or t c 0 ≡ get_or old c 0) → t ≡ entries f k ++ drop k old
  entries_are k old t h e p q =
      let l = entries_length k in
      rw l at
      (front_is (entries f k) old t (omega arith) e (λ c b. p c (omega arith) ∙ sym (entries_at k c (omega arith))) (λ c b. q c (omega arith)))

-- ---- running sums of the counts are the starts
module _ (on : Cover) (n : ℕ) where
  sums_start : (f : ℕ → ℕ) (k : ℕ) → ((c : ℕ) → c < k → f c ≡ length (members_of on n c)) → sums f k ≡ start_of on n k
  unfolding sums start_of listed
  sums_start f zero h = refl
  sums_start f (suc k) h = omega (arith, sums_start f k (λ c l. h c (omega arith)), h k (omega arith), length-append (listed on n k) (members_of on n k))

members_none : (on : Cover) (n c : ℕ) → ((i : ℕ) → i < n → on i c ≡ true → ⊥) → length (members_of on n c) ≡ 0
members_none on zero c h = unfold members_of in refl
members_none on (suc n) c h =
    omega (
      arith,
      members_none on n c (λ i l. h i (omega arith)),
      members_suc on n c,
      by_test {A = weight (on n c) ≡ 0} (on n c) (λ e. absurd (h n (omega arith) e)) (weight_off (on n c)),
    )

module _ (on : Cover) (n cells : ℕ) (s₀ m₀ : List ℕ) (fits : Fits on n cells s₀ m₀) where
  past_none : (c : ℕ) → cells ≤ c → length (members_of on n c) ≡ 0
  past_none c h = members_none on n c (λ i l e. omega (arith, fits.inside i c l e))

  pub cleared_room : (s₁ : List ℕ) → Cleared (cells + 1) s₀ s₁ → Room on n s₁
  cleared_room s₁ p =
      record {
        inside = λ i c l e. omega (arith, fits.inside i c l e, fits.table, p.size);
        small = λ i c l e. p.zeros c (omega (arith, fits.inside i c l e));
      }

  module _ (s₁ s₂ : List ℕ) (p : Cleared (cells + 1) s₀ s₁) (q : CountedAll on n s₁ s₂) where
    count_at : (c : ℕ) → c < cells + 1 → entry s₂ c ≡ length (members_of on n c)
    count_at c h = omega (arith, q.each c, p.zeros c h)

    sum_at : (k : ℕ) → k ≤ cells + 1 → sums (entry s₂) k ≡ start_of on n k
    sum_at k h = sums_start on n (entry s₂) k (λ c l. count_at c (omega arith))

    total : sums (entry s₂) (cells + 1) ≡ start_of on n cells
    total = omega (arith, sum_at (cells + 1) (omega arith), start_more on n cells, past_none cells (omega arith))

    pub counted_sums : ((0 < cells + 1) × (cells + 1 ≤ length s₂)) × (sums (entry s₂) (cells + 1) < 2 ^ 32)
    counted_sums = omega (arith, fits.table, fits.small, p.size, q.size, total)

    module _ (s₃ : List ℕ) (r : Summed (cells + 1) s₂ s₃) where
      pub summed_ready : Ready on n cells s₃ m₀
      summed_ready =
          record {
            inside = fits.inside;
            table = omega (arith, fits.table, p.size, q.size, r.size);
            room = fits.room;
            each = λ c h. r.each c (omega arith) ∙ sum_at (c + 1) (omega arith);
          }

      module _ (s₄ m₄ : List ℕ) (t : Filled on n cells 0 s₃ m₀ s₄ m₄) where
        pub built_starts : s₄ ≡ starts_of on n cells s₀
        unfolding starts_of members_of
        built_starts =
            rw (← add-one cells)
            (entries_are (start_of on n) (cells + 1) s₀ s₄ fits.table (t.cells' ∙ r.size ∙ q.size ∙ p.size)
            (λ c h.
            by_lt c cells
            (λ l. omega (arith, t.each c l))
            (λ l. let e : c ≡ cells = omega arith in t.past c l ∙ r.each c h ∙ (rw e total)))
            (λ c h. t.past c (omega arith) ∙ r.rest c h ∙ omega (arith, q.each c, p.rest c h, past_none c (omega arith))))

        pub built_members : m₄ ≡ members_table on n cells m₀
        unfolding members_table start_of members_of
        built_members =
            front_is (listed on n cells) m₀ m₄ fits.room t.size
            (all_members on n cells m₄ (λ c i h l. t.put c i h (omega arith) l))
            (λ x h. t.rest x h)
