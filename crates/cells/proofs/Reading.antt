-- Read back: the stretch between two starts is the cell's list, in which a triangle stands once if it covers the cell and else not at all.
use mathlib.Core.Bool.{true, cond}
use mathlib.Core.List.{List, [], ◌∷◌, ◌++◌, append_assoc, append-nil}
use mathlib.Core.Path.{◌≡◌, refl, ap, ◌∙◌}
use Prim.Native.Nat.{ℕ, zero, suc, ◌+◌, ◌-◌, ◌≤◌, ◌<◌}
use native.Mathlib.Omega.{arith}
use borrow.Author.Tests.{eq-eqb, ne_eqb}
use lib.ListN.{length, get_or, drop, length-append, get_or-append}
use lib.Seq.{take_at, drop_at, get_or-append_seam}
use Rattle.rules.proofs.Times.{times_append}
use Rattle.cells.specs.Cover.{Cover, members_of, listed, start_of, entries, starts_of, members_table, stretch}
use Rattle.rules.specs.Every.{weight, times}
use Rattle.cells.proofs.Sets.{by_lt}
use Rattle.rules.proofs.Branches.{by_test}
use Rattle.cells.proofs.Members.{start_more, start_mono}
use Rattle.cells.proofs.Building.{entries_length, entries_at}

regroup : (a b t d : List ℕ) → (a ++ (b ++ t)) ++ d ≡ a ++ (b ++ (t ++ d))
regroup a b t d = simp append_assoc

module _ (on : Cover) (n : ℕ) where
  -- the list of all members is cut at cell c
  around : (k c : ℕ) → c < k → (t : List ℕ) × (listed on n k ≡ listed on n c ++ (members_of on n c ++ t))
  unfolding listed
  around zero c h = absurd (omega arith)
  around (suc k) c h =
      by_lt c k
      (λ l.
      let r = around k c l in
      (r.0 ++ members_of on n k, ap (λ (x : List ℕ). x ++ members_of on n k) r.1 ∙ regroup (listed on n c) (members_of on n c) r.0 (members_of on n k)))
      (λ l.
      let e : c ≡ k = omega arith in
      ([], rw (e, append-nil) refl))

  module _ (cells : ℕ) (s m : List ℕ) where
    pub start_at : (c : ℕ) → c ≤ cells → get_or (starts_of on n cells s) c 0 ≡ start_of on n c
    unfolding starts_of
    start_at c h =
        get_or-append (entries (start_of on n) (suc cells)) (drop (suc cells) s) 0 c (omega (arith, entries_length (start_of on n) (suc cells)))
        ∙ entries_at (start_of on n) (suc cells) c (omega arith)

    pub cell_is : (c : ℕ) → c < cells → stretch (starts_of on n cells s) (members_table on n cells m) c ≡ members_of on n c
    unfolding members_table
    cell_is c h =
        let r = around cells c h in
        let d = drop (start_of on n cells) m in
        let x = members_of on n c in
        let e : listed on n cells ++ d ≡ listed on n c ++ (x ++ (r.0 ++ d)) =
        ap (λ (y : List ℕ). y ++ d) r.1 ∙ regroup (listed on n c) x r.0 d in
        let k : start_of on n (c + 1) - start_of on n c ≡ length x = omega (arith, start_more on n c) in
        rw (
          start_at (c + 1) (omega arith),
          start_at c (omega arith),
          k,
          e,
          drop_at (listed on n c) (x ++ (r.0 ++ d)) (start_of on n c) (unfold start_of in refl),
        )
        (take_at x (r.0 ++ d) (length x) refl)

    -- there is a start for each cell and one for the end; they rise, and end within the members
    pub starts_room : cells + 1 ≤ length (starts_of on n cells s)
    unfolding starts_of
    starts_room = omega (arith, length-append (entries (start_of on n) (suc cells)) (drop (suc cells) s), entries_length (start_of on n) (suc cells))

    pub starts_rise : (c : ℕ) → c < cells → get_or (starts_of on n cells s) c 0 ≤ get_or (starts_of on n cells s) (c + 1) 0
    starts_rise c h = omega (arith, start_at c (omega arith), start_at (c + 1) (omega arith), start_mono on n c (c + 1) (omega arith))

    pub starts_within : (c : ℕ) → c ≤ cells → get_or (starts_of on n cells s) c 0 ≤ length (members_table on n cells m)
    unfolding members_table start_of
    starts_within c h = omega (arith, start_at c h, start_mono on n c cells h, length-append (listed on n cells) (drop (length (listed on n cells)) m))

-- how often triangle i stands in a cell's list
module _ (on : Cover) (c : ℕ) where
  last_other : (i n : ℕ) → (i ≡ n → ⊥) → times i (cond (on n c) (n ∷ []) []) ≡ 0
  unfolding times
  last_other i n h = by_test (on n c) (λ e. rw (e, ne_eqb i n h) refl) (λ e. rw e refl)

  last_same : (i : ℕ) → times i (cond (on i c) (i ∷ []) []) ≡ weight (on i c)
  unfolding times
  last_same i = by_test (on i c) (λ e. rw (e, eq-eqb i i refl) refl) (λ e. rw e refl)

  pub not_yet : (n i : ℕ) → n ≤ i → times i (members_of on n c) ≡ 0
  unfolding members_of times
  not_yet zero i h = refl
  not_yet (suc n) i h =
      omega (arith, times_append i (members_of on n c) (cond (on n c) (n ∷ []) []), not_yet n i (omega arith), last_other i n (λ e. omega arith))

  pub once : (n i : ℕ) → i < n → times i (members_of on n c) ≡ weight (on i c)
  unfolding members_of
  once zero i h = absurd (omega arith)
  once (suc n) i h =
      by_lt i n
      (λ l. omega (arith, times_append i (members_of on n c) (cond (on n c) (n ∷ []) []), once n i l, last_other i n (λ e. omega arith)))
      (λ l.
      let e : i ≡ n = omega arith in
      let p : times i (members_of on n c) ≡ 0 = not_yet n i (omega arith) in
      let q : times i (cond (on n c) (n ∷ []) []) ≡ weight (on i c) = rw (← e) (last_same i) in
      omega (arith, times_append i (members_of on n c) (cond (on n c) (n ∷ []) []), p, q))

  -- what stands in a cell's list is a triangle, and covers the cell
  pub member_of : (n j : ℕ) → j < length (members_of on n c) → (get_or (members_of on n c) j 0 < n) × (on (get_or (members_of on n c) j 0) c ≡ true)
  unfolding members_of
  member_of zero j h = absurd (omega arith)
  member_of (suc n) j h =
      let xs = members_of on n c in
      by_lt j (length xs)
      (λ l. rw (get_or-append xs (cond (on n c) (n ∷ []) []) 0 j l) (omega (arith, (member_of n j l).0), (member_of n j l).1))
      (λ l.
      by_test (on n c)
      (λ e. let z : j ≡ length xs = omega (arith, rw e at h, length-append xs (n ∷ [])) in rw (z, e, get_or-append_seam xs n [] 0) (omega arith, e))
      (λ e. absurd (omega (arith, rw (e, append-nil) at h))))
