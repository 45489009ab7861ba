-- Numbers that rise, are below n and cover a cell are no more than the cell has members, and if they are as many, they are its members. So where every cell
-- holds such numbers and all together are as many as there should be, none is missing in any cell.
use mathlib.Core.Bool.{Bool, true, false, ◌&&◌}
use mathlib.Core.List.{List, [], ◌∷◌, ◌++◌, append-nil}
use mathlib.Core.Path.{◌≡◌, refl, ap, ap₂, sym, ◌∙◌}
use Prim.Native.Nat.{ℕ, zero, suc, ◌+◌, ◌-◌, ◌≤◌, ◌<◌}
use native.Mathlib.Numerals.{add-one}
use native.Mathlib.Omega.{arith}
use borrow.Author.Tests.{leb-true, ltb-true, le-leb, lt-leb, le-ltb, lt-ltb}
use lib.Dec.{leb, ltb}
use lib.ListN.{length, get_or, drop, length-drop, drop_of_length-le}
use lib.Seq.{drop-cons, append_snoc, length-take-le, get_or-take, get_or-drop}
use Rattle.rules.proofs.Branches.{and_off, both_true, by_test}
use Rattle.cells.specs.Cover.{Cover, members_of, listed, start_of, starts_of, members_table, stretch}
use Rattle.cells.proofs.Sets.{off_right, weight_on}
use Rattle.cells.proofs.Members.{members_suc, members_more, members_mono, start_more, all_members}
use Rattle.cells.proofs.Building.{front_is, entries_are}
use Rattle.cells.proofs.Reading.{start_at, cell_is, starts_rise, starts_within}
use Rattle.checked.specs.Inside.{rises_from, cell_holds}

-- ---- numbers that rise
module _ (on : ℕ → Bool) where
  -- one of them
  first : (n low i : ℕ) (xs : List ℕ) → rises_from on n low (i ∷ xs) ≡ true → (low ≤ i) × (i < n) × (on i ≡ true) × (rises_from on n (i + 1) xs ≡ true)
  unfolding rises_from
  first n low i xs e =
      let a = both_true (leb low i) (ltb i n && (on i && rises_from on n (i + 1) xs)) e in
      let b = both_true (ltb i n) (on i && rises_from on n (i + 1) xs) a.1 in
      let d = both_true (on i) (rises_from on n (i + 1) xs) b.1 in
      (leb-true low i a.0, ltb-true i n b.0, d.0, d.1)

  one_more : (n low i : ℕ) (xs : List ℕ) → low ≤ i → i < n → on i ≡ true → rises_from on n (i + 1) xs ≡ true → rises_from on n low (i ∷ xs) ≡ true
  unfolding rises_from
  one_more n low i xs h k o e = rw (le-leb low i h, lt-ltb i n k, o) e

  -- with a higher end
  higher : (n m low : ℕ) (xs : List ℕ) → m ≤ n → rises_from on m low xs ≡ true → rises_from on n low xs ≡ true
  higher n m low [] h e = unfold rises_from in refl
  higher n m low (i ∷ xs) h e = let a = first m low i xs e in one_more n low i xs a.0 (omega arith) a.2 (higher n m (i + 1) xs h a.3)

  -- the end itself put behind
  behind : (n i low : ℕ) (xs : List ℕ) → low ≤ i → i < n → on i ≡ true → rises_from on i low xs ≡ true → rises_from on n low (xs ++ (i ∷ [])) ≡ true
  behind n i low [] h k o e = one_more n low i [] h k o (unfold rises_from in refl)
  behind n i low (x ∷ xs) h k o e =
      let a = first i low x xs e in
      one_more n low x (xs ++ (i ∷ [])) a.0 (omega arith) a.2 (behind n i (x + 1) xs (omega arith) k o a.3)

-- the next number decides, or the rest does
module _ (on : ℕ → Bool) (n low j : ℕ) (part : List ℕ) (l : j < length part) where
  cut : rises_from on n low (drop j part)
      ≡ (leb low (get_or part j 0) && (ltb (get_or part j 0) n && (on (get_or part j 0) && rises_from on n (get_or part j 0 + 1) (drop (j + 1) part))))
  unfolding rises_from
  cut = ap (rises_from on n low) (drop-cons part j 0 l) ∙ ap (λ (k : ℕ). rises_from on n low (get_or part j 0 ∷ drop k part)) (sym (add-one j))

  pub too_low_lem : get_or part j 0 < low → false ≡ rises_from on n low (drop j part)
  too_low_lem h = and_off _ _ _ (lt-leb _ _ h) refl ∙ sym cut

  pub too_high : n ≤ get_or part j 0 → false ≡ rises_from on n low (drop j part)
  too_high h = sym (cut ∙ off_right (leb low (get_or part j 0)) _ (sym (and_off _ _ _ (le-ltb _ _ h) refl)))

  pub outside : on (get_or part j 0) ≡ false → false ≡ rises_from on n low (drop j part)
  outside h = sym (cut ∙ off_right (leb low (get_or part j 0)) _ (off_right (ltb (get_or part j 0) n) _ (sym (and_off _ _ _ h refl))))

  pub goes_on : low ≤ get_or part j 0 → get_or part j 0 < n → on (get_or part j 0) ≡ true
      → rises_from on n (get_or part j 0 + 1) (drop (j + 1) part) ≡ rises_from on n low (drop j part)
  goes_on a b c = sym (cut ∙ (rw (le-leb low (get_or part j 0) a, lt-ltb (get_or part j 0) n b, c) refl))

pub at_end : (on : ℕ → Bool) (n low j : ℕ) (part : List ℕ) → length part ≤ j → true ≡ rises_from on n low (drop j part)
unfolding rises_from
at_end on n low j part h = rw (drop_of_length-le part {i = j} h) refl

-- sets that say the same of every number below n
pub rises_as : (on on' : ℕ → Bool) (n : ℕ) → ((i : ℕ) → i < n → on i ≡ on' i) → (low : ℕ) (xs : List ℕ) → rises_from on n low xs ≡ rises_from on' n low xs
unfolding rises_from
rises_as on on' n h low [] = refl
rises_as on on' n h low (i ∷ xs) =
    by_test (ltb i n)
    (λ t. let z = rises_as on on' n h (i + 1) xs in rw (h i (ltb-true i n t), z) refl)
    (λ t. rw t refl)

-- ---- the numbers of one cell
module _ (on : Cover) (c : ℕ) where
  abbrev here : ℕ → Bool
  here i = on i c

  -- as many members below j + d as below j: the same members
  same_up : (j d : ℕ) → length (members_of on (j + d) c) ≡ length (members_of on j c) → members_of on (j + d) c ≡ members_of on j c
  same_up j zero e = let q : j + 0 ≡ j = omega arith in rw q refl
  same_up j (suc d) e =
      let q : j + suc d ≡ suc (j + d) = omega arith in
      let e' : length (members_of on (suc (j + d)) c) ≡ length (members_of on j c) = rw q at e in
      let m = members_mono on j (j + d) c (omega arith) in
      let w = members_suc on (j + d) c in
      rw q
      (by_test (on (j + d) c)
      (λ t. absurd (omega (arith, e', m, w, weight_on _ t)))
      (λ t. last t ∙ same_up j d (omega (arith, e', m, w))))
    where
      last : on (j + d) c ≡ false → members_of on (suc (j + d)) c ≡ members_of on (j + d) c
      last t = unfold members_of in rw t (append-nil (members_of on (j + d) c))

  same_below : (j n : ℕ) → j ≤ n → length (members_of on n c) ≡ length (members_of on j c) → members_of on n c ≡ members_of on j c
  same_below j n h e = let q : j + (n - j) ≡ n = omega arith in rw q at (same_up j (n - j) (rw q e))

  with_one : (i : ℕ) → on i c ≡ true → members_of on (i + 1) c ≡ members_of on i c ++ (i ∷ [])
  unfolding members_of
  with_one i t = rw (add-one i, t) refl

  -- not more than the members from low on, and if as many, they are them
  few : (n low : ℕ) (xs : List ℕ) → low ≤ n → rises_from here n low xs ≡ true
      → (length (members_of on low c) + length xs ≤ length (members_of on n c))
      × (length (members_of on low c) + length xs ≡ length (members_of on n c) → members_of on low c ++ xs ≡ members_of on n c)
  few n low [] h e =
      (omega (arith, members_mono on low n c h), λ q. append-nil (members_of on low c) ∙ sym (same_below low n h (omega arith)))
  few n low (i ∷ xs) h e =
      let a = first here n low i xs e in
      let r = few n (i + 1) xs (omega arith) a.3 in
      let m = members_mono on low i c a.0 in
      let w = members_more on i c in
      let o = weight_on _ a.2 in (
        omega (arith, r.0, m, w, o),
        λ q.
            let v = same_below low i a.0 (omega (arith, q, r.0, m, w, o)) in
            ap (λ (l : List ℕ). l ++ (i ∷ xs)) (sym v) ∙ sym (append_snoc (members_of on i c) i xs) ∙ ap (λ (l : List ℕ). l ++ xs) (sym (with_one i a.2))
            ∙ r.1 (omega (arith, q, r.0, m, w, o)),
      )

  -- the members themselves rise
  rises_members : (n : ℕ) → rises_from here n 0 (members_of on n c) ≡ true
  unfolding members_of
  rises_members zero = unfold rises_from in refl
  rises_members (suc n) =
      by_test (on n c)
      (λ t. rw t (behind here (suc n) n 0 (members_of on n c) (omega arith) (omega arith) t (rises_members n)))
      (λ t. rw (t, append-nil (members_of on n c)) (higher here (suc n) n 0 (members_of on n c) (omega arith) (rises_members n)))

-- ---- both tables
module _ (on : Cover) (n cells : ℕ) (s m : List ℕ) where
  pub record Held (c : ℕ) : Type 0 where
    pub rise : get_or s c 0 ≤ get_or s (c + 1) 0
    pub within : get_or s (c + 1) 0 ≤ length m
    pub rises : rises_from (λ i. on i c) n 0 (stretch s m c) ≡ true

  pub held : (c : ℕ) → cell_holds on n s m c ≡ true → Held c
  unfolding cell_holds
  held c e =
      let r : Bool = rises_from (λ i. on i c) n 0 (stretch s m c) in
      let a = both_true (leb (get_or s c 0) (get_or s (c + 1) 0)) (leb (get_or s (c + 1) 0) (length m) && r) e in
      let b = both_true (leb (get_or s (c + 1) 0) (length m)) r a.1 in
      record { rise = leb-true _ _ a.0; within = leb-true _ _ b.0; rises = b.1 }

  long : (c : ℕ) → Held c → length (stretch s m c) ≡ get_or s (c + 1) 0 - get_or s c 0
  long c h = length-take-le _ _ (omega (arith, h.rise, h.within, length-drop (get_or s c 0) m))

  none_yet : (c : ℕ) → length (members_of on 0 c) ≡ 0
  unfolding members_of
  none_yet c = refl

  not_more : (c : ℕ) → Held c → get_or s (c + 1) 0 ≤ get_or s c 0 + length (members_of on n c)
  not_more c h = omega (arith, (few on c n 0 (stretch s m c) (omega arith) h.rises).0, long c h, h.rise, none_yet c)

  module _ (zeroth : get_or s 0 0 ≡ 0) (each : (c : ℕ) → c < cells → Held c) where
    under : (c : ℕ) → c ≤ cells → get_or s c 0 ≤ start_of on n c
    under zero h = omega (arith, zeroth)
    under (suc c) h =
        let q : suc c ≡ c + 1 = omega arith in
        rw q (omega (arith, under c (omega arith), not_more c (each c (omega arith)), start_more on n c))

    module _ (end : get_or s cells 0 ≡ start_of on n cells) where
      back : (d c : ℕ) → c + d ≡ cells → get_or s c 0 ≡ start_of on n c
      back zero c e = let q : c ≡ cells = omega arith in rw q end
      back (suc d) c e =
          omega (arith, back d (c + 1) (omega arith), under c (omega arith), not_more c (each c (omega arith)), start_more on n c)

      exact : (c : ℕ) → c ≤ cells → get_or s c 0 ≡ start_of on n c
      exact c h = back (cells - c) c (omega arith)

      -- none is missing
      stretch_is : (c : ℕ) → c < cells → stretch s m c ≡ members_of on n c
      unfolding members_of
      stretch_is c h =
          let k = each c h in
          (few on c n 0 (stretch s m c) (omega arith) k.rises).1
          (omega (arith, long c k, none_yet c, exact c (omega arith), exact (c + 1) (omega arith), start_more on n c))

      entry_is : (c i : ℕ) → c < cells → i < length (members_of on n c) → get_or m (start_of on n c + i) 0 ≡ get_or (members_of on n c) i 0
      entry_is c i h l =
          let e = stretch_is c h in
          let w : i < get_or s (c + 1) 0 - get_or s c 0 = omega (arith, long c (each c h), ap length e) in
          ap (λ (k : ℕ). get_or m (k + i) 0) (sym (exact c (omega arith))) ∙ sym (get_or-drop (get_or s c 0) m i 0)
          ∙ sym (get_or-take (get_or s (c + 1) 0 - get_or s c 0) (drop (get_or s c 0) m) i 0 w) ∙ ap (λ (l : List ℕ). get_or l i 0) e

      pub starts_are : cells + 1 ≤ length s → s ≡ starts_of on n cells s
      unfolding starts_of
      starts_are h = entries_are (start_of on n) (suc cells) s s (omega arith) refl (λ c l. exact c (omega arith)) (λ c l. refl)

      pub members_are : start_of on n cells ≤ length m → m ≡ members_table on n cells m
      unfolding members_table start_of
      members_are h = front_is (listed on n cells) m m h refl (all_members on n cells m entry_is) (λ p l. refl)

  -- and the other way: what the builder leaves is found so
  module _ (es : s ≡ starts_of on n cells s) (em : m ≡ members_table on n cells m) where
    pub begins : get_or s 0 0 ≡ 0
    begins = ap (λ (t : List ℕ). get_or t 0 0) es ∙ start_at on n cells s m 0 (omega arith) ∙ (unfold start_of listed in refl)

    pub ends : get_or s cells 0 ≡ start_of on n cells
    ends = ap (λ (t : List ℕ). get_or t cells 0) es ∙ start_at on n cells s m cells (omega arith)

    pub holds : (c : ℕ) → c < cells → cell_holds on n s m c ≡ true
    unfolding cell_holds
    holds c h =
        let r = starts_rise on n cells s m c h in
        let w = starts_within on n cells s m (c + 1) (omega arith) in
        let e₀ = ap (λ (t : List ℕ). get_or t c 0) es in
        let e₁ = ap (λ (t : List ℕ). get_or t (c + 1) 0) es in
        let z : stretch s m c ≡ members_of on n c = ap₂ (λ (a b : List ℕ). stretch a b c) es em ∙ cell_is on n cells s m c h in
        let a : leb (get_or s c 0) (get_or s (c + 1) 0) ≡ true = le-leb (get_or s c 0) (get_or s (c + 1) 0) (omega (arith, r, e₀, e₁)) in
        let b : leb (get_or s (c + 1) 0) (length m) ≡ true = le-leb (get_or s (c + 1) 0) (length m) (omega (arith, w, e₁, ap length em)) in
        rw (a, b) (ap (rises_from (λ i. on i c) n 0) z ∙ rises_members on c n)
