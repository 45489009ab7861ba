-- Runs in a table whose front was written over, and the table once the numbers behind them are cleared.
use mathlib.Core.Bool.{true, false}
use mathlib.Core.List.{List, [], ◌∷◌, ◌++◌, map, append_assoc, append-nil}
use mathlib.Core.Path.{◌≡◌, refl, ap, ◌∙◌}
use Prim.Native.Nat.{ℕ, suc, ◌+◌, ◌*◌, ◌-◌, ◌≤◌, ◌<◌}
use native.Mathlib.Omega.{arith}
use borrow.Author.Tests.{le-leb}
use lib.Dec.{leb}
use lib.Ieee.{Float, nan}
use lib.ListN.{length, get_or, take, drop, length-append, length-drop, length-replicate}
use lib.Seq.{get_or-append-add, get_or-drop, take-append-add, drop-append-add, take_all, drop-length}
use borrow.Rule.Slice.PartMut.{mid_of, put_mid, Post-is}
use Rattle.numbers.specs.Reals.{f0, num}
use Rattle.rules.proofs.Branches.{by_test}
use Rattle.fives.specs.Tables.{written, zeroed}
use Rattle.fives.proofs.Writing.{written_at}
use Rattle.runs.specs.Runs.{five_of}
use Rattle.runs.specs.declared.Run.{Run}
use Rattle.join.specs.Join.{run_in, runs_in}

-- behind what was written the table is as it was
past : (rs : List Run) (t : List Float) (i : ℕ) → length rs * 5 ≤ i → num (written (map five_of rs) t) i ≡ num t i
unfolding written
past [] t i h = refl
past (r ∷ rs) t i h =
    let rest = past rs (drop 5 t) (i - 5) (omega arith) in
    let n : i ≡ length (five_of r) + (i - 5) = omega arith in
    let m : 5 + (i - 5) ≡ i = omega arith in
    by_test (leb 5 (length t))
    (λ (p : leb 5 (length t) ≡ true). rw p (ap (λ (k : ℕ). get_or (five_of r ++ written (map five_of rs) (drop 5 t)) k nan) n
    ∙ get_or-append-add (five_of r) (written (map five_of rs) (drop 5 t)) (i - 5) nan ∙ rest ∙ get_or-drop 5 t (i - 5) nan ∙ ap (num t) m))
    (λ (p : leb 5 (length t) ≡ false). rw p)

pub run_past : (rs : List Run) (t : List Float) (m : ℕ) → length rs ≤ m → run_in (written (map five_of rs) t) m ≡ run_in t m
run_past rs t m h =
    rw (
      past rs t (m * 5) (omega arith),
      past rs t (m * 5 + 1) (omega arith),
      past rs t (m * 5 + 2) (omega arith),
      past rs t (m * 5 + 3) (omega arith),
      past rs t (m * 5 + 4) (omega arith),
    )

-- what was written is read back
module _ (t : List Float) where
  run_at : (xs ys : List Run) (r : Run) → length xs * 5 + 5 ≤ length t → run_in (written (map five_of (xs ++ r ∷ ys)) t) (length xs) ≡ r
  run_at xs ys r h =
      let at : (k : ℕ) → k < 5 → num (written (map five_of (xs ++ r ∷ ys)) t) (length xs * 5 + k) ≡ num (five_of r) k =
      λ k l. written_at five_of (λ _. refl) xs ys r t k nan h l in
      let z : length xs * 5 ≡ length xs * 5 + 0 = omega arith in
      let first = ap (num (written (map five_of (xs ++ r ∷ ys)) t)) z ∙ at 0 (omega arith) in
      rw (first, at 1 (omega arith), at 2 (omega arith), at 3 (omega arith), at 4 (omega arith))

  back : (xs ys : List Run) → length (xs ++ ys) * 5 ≤ length t → runs_in (written (map five_of (xs ++ ys)) t) (length xs) (length ys) ≡ ys
  unfolding runs_in
  back xs [] h = refl
  back xs (y ∷ ys) h =
      let e : (xs ++ y ∷ []) ++ ys ≡ xs ++ y ∷ ys = append_assoc xs (y ∷ []) ys in
      let n : length (xs ++ y ∷ []) ≡ length xs + 1 = length-append xs (y ∷ []) in
      let rest = rw (e, n) at (back (xs ++ y ∷ []) ys (rw e h)) in
      let fits : length xs * 5 + 5 ≤ length t = omega (arith, length-append xs (y ∷ ys)) in
      rw (run_at xs ys y fits, rest)

  pub read_back : (rs : List Run) → length rs * 5 ≤ length t → runs_in (written (map five_of rs) t) 0 (length rs) ≡ rs
  read_back rs h = back [] rs h

-- zeros behind what was written: it might as well be written over zeros
zeroed_behind : (t : List Float) → drop 5 (zeroed t) ≡ zeroed (drop 5 t)
zeroed_behind [] = refl
zeroed_behind (a ∷ []) = refl
zeroed_behind (a ∷ b ∷ []) = refl
zeroed_behind (a ∷ b ∷ c ∷ []) = refl
zeroed_behind (a ∷ b ∷ c ∷ d ∷ []) = refl
zeroed_behind (a ∷ b ∷ c ∷ d ∷ e ∷ t) = refl

pub cleared : (rs : List Run) (t : List Float) → length rs * 5 ≤ length t
    → take (length rs * 5) (written (map five_of rs) t) ++ zeroed (drop (length rs * 5) (written (map five_of rs) t)) ≡ written (map five_of rs) (zeroed t)
unfolding written
cleared [] t h = refl
cleared (r ∷ rs) t h =
    let w = written (map five_of rs) (drop 5 t) in
    let n : suc (length rs) * 5 ≡ length (five_of r) + length rs * 5 = omega arith in
    let p : leb 5 (length t) ≡ true = le-leb 5 (length t) (omega arith) in
    let q : leb 5 (length (zeroed t)) ≡ true = le-leb 5 (length (zeroed t)) (omega (arith, length-replicate (length t) f0)) in
    let rest = cleared rs (drop 5 t) (omega (arith, length-drop 5 t)) in
    rw (p, q, zeroed_behind t, n, take-append-add (five_of r) w (length rs * 5), drop-append-add (five_of r) w (length rs * 5))
    (append_assoc (five_of r) (take (length rs * 5) w) (zeroed (drop (length rs * 5) w)) ∙ ap (λ (l : List Float). five_of r ++ l) rest)

-- the part behind a, cleared and back in its place
pub cleared_part : (a : ℕ) (xs ys : List Float) → a ≤ length xs → ys ≡ zeroed (mid_of a (length xs - a) xs)
    → put_mid a (length xs - a) xs ys ≡ take a xs ++ zeroed (drop a xs)
cleared_part a xs ys h e =
    let m : mid_of a (length xs - a) xs ≡ drop a xs = take_all (length xs - a) (drop a xs) (omega (arith, length-drop a xs)) in
    let n = Post-is a (length xs) xs h ∙ drop-length xs in
    rw (e, m, n) (ap (λ (l : List Float). take a xs ++ l) (append-nil (zeroed (drop a xs))))
