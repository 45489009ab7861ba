-- A cell's members: their number grows with the triangles, and each stands behind those with a lower number.
use mathlib.Core.Bool.{true, cond}
use mathlib.Core.List.{List, [], ◌∷◌}
use mathlib.Core.Path.{◌≡◌, sym, ◌∙◌}
use Prim.Native.Nat.{ℕ, zero, suc, ◌+◌, ◌-◌, ◌≤◌, ◌<◌}
use native.Mathlib.Numerals.{add-one}
use native.Mathlib.Omega.{arith}
use lib.ListN.{length, get_or, length-append, get_or-append}
use lib.Seq.{get_or-append_seam, get_or-append-add}
use Rattle.cells.specs.Cover.{Cover, members_of, listed, start_of}
use Rattle.rules.specs.Every.{weight}
use Rattle.cells.proofs.Sets.{by_lt, weight_le, weight_on}
use Rattle.rules.proofs.Branches.{by_test}

module _ (on : Cover) where
  -- one more triangle
  pub members_suc : (j c : ℕ) → length (members_of on (suc j) c) ≡ length (members_of on j c) + weight (on j c)
  unfolding members_of
  members_suc j c = length-append (members_of on j c) (cond (on j c) (j ∷ []) []) ∙ by_test (on j c) (λ e. rw e) (λ e. rw e)

  pub members_more : (j c : ℕ) → length (members_of on (j + 1) c) ≡ length (members_of on j c) + weight (on j c)
  members_more j c = rw (add-one j) (members_suc j c)

  pub members_le : (j c : ℕ) → length (members_of on j c) ≤ j
  members_le zero c = unfold members_of in omega arith
  members_le (suc j) c = omega (arith, members_suc j c, members_le j c, weight_le (on j c))

  members_up : (j d c : ℕ) → length (members_of on j c) ≤ length (members_of on (j + d) c)
  members_up j zero c = let e : j + 0 ≡ j = omega arith in rw e (omega arith)
  members_up j (suc d) c = let e : j + suc d ≡ suc (j + d) = omega arith in rw e (omega (arith, members_up j d c, members_suc (j + d) c))

  pub members_mono : (j n c : ℕ) → j ≤ n → length (members_of on j c) ≤ length (members_of on n c)
  members_mono j n c h = let e : j + (n - j) ≡ n = omega arith in rw e at (members_up j (n - j) c)

  -- the place of triangle j is the number of members below it
  pub member_at : (n j c : ℕ) → j < n → on j c ≡ true → get_or (members_of on n c) (length (members_of on j c)) 0 ≡ j
  unfolding members_of
  member_at zero j c h e = absurd (omega arith)
  member_at (suc n) j c h e =
      by_lt j n
      (λ l.
      let m : length (members_of on j c) < length (members_of on n c) = omega (arith, members_more j c, members_mono (j + 1) n c (omega arith), weight_on _ e) in
      get_or-append (members_of on n c) (cond (on n c) (n ∷ []) []) 0 (length (members_of on j c)) m ∙ member_at n j c l e)
      (λ l.
      let p : j ≡ n = omega arith in
      rw (← p, e) (get_or-append_seam (members_of on j c) j [] 0))

  -- ---- the starts rise
  start_suc : (n c : ℕ) → start_of on n (suc c) ≡ start_of on n c + length (members_of on n c)
  unfolding start_of listed
  start_suc n c = length-append (listed on n c) (members_of on n c)

  pub start_more : (n c : ℕ) → start_of on n (c + 1) ≡ start_of on n c + length (members_of on n c)
  start_more n c = rw (add-one c) (start_suc n c)

  start_up : (n c d : ℕ) → start_of on n c ≤ start_of on n (c + d)
  start_up n c zero = let e : c + 0 ≡ c = omega arith in rw e (omega arith)
  start_up n c (suc d) = let e : c + suc d ≡ suc (c + d) = omega arith in rw e (omega (arith, start_up n c d, start_suc n (c + d)))

  pub start_mono : (n c c' : ℕ) → c ≤ c' → start_of on n c ≤ start_of on n c'
  start_mono n c c' h = let e : c + (c' - c) ≡ c' = omega arith in rw e at (start_up n c (c' - c))

  -- cells do not overlap
  pub cell_before : (n c c' : ℕ) → c < c' → start_of on n c + length (members_of on n c) ≤ start_of on n c'
  cell_before n c c' h = omega (arith, start_more n c, start_mono n (c + 1) c' (omega arith))

  -- if every cell's stretch is right, the whole front of the table is
  pub all_members : (n k : ℕ) (m : List ℕ) → ((c i : ℕ) → c < k → i < length (members_of on n c) → get_or m (start_of on n c + i) 0 ≡ get_or (members_of on n c) i 0)
      → (p : ℕ) → p < start_of on n k → get_or m p 0 ≡ get_or (listed on n k) p 0
  unfolding start_of listed
  all_members n zero m h p l = absurd (omega arith)
  all_members n (suc k) m h p l =
      let xs = listed on n k in
      let ys = members_of on n k in
      by_lt p (length xs)
      (λ q. all_members n k m (λ c i hc hi. h c i (omega arith) hi) p q ∙ sym (get_or-append xs ys 0 p q))
      (λ q.
      let e : p ≡ length xs + (p - length xs) = omega arith in
      let b : p - length xs < length ys = omega (arith, length-append xs ys) in
      rw e (h k (p - length xs) (omega arith) b ∙ sym (get_or-append-add xs ys (p - length xs) 0)))
