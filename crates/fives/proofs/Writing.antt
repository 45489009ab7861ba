-- Laws of tables of five numbers an entry.
use mathlib.Core.Bool.{Bool, true, false, cond}
use mathlib.Core.List.{List, [], ◌∷◌, ◌++◌, map, append_assoc}
use mathlib.Core.Logic.{◌⊎◌, inl, inr, ⊎_elim}
use mathlib.Core.Path.{◌≡◌, refl, sym, ap, ◌∙◌}
use Prim.Native.Nat.{ℕ, zero, suc, ◌+◌, ◌*◌, ◌/◌, ◌≤◌, ◌<◌}
use native.Mathlib.Numerals.{add-one, add-two, add-three, add-four}
use native.Mathlib.Omega.{arith}
use borrow.Author.Tests.{le-leb, lt-leb, leb-true, leb-false}
use lib.Dec.{leb}
use lib.Ieee.{Float}
use lib.ListN.{length, get_or, get_or-append, set, take, drop, replicate, length-append, length-drop}
use lib.Seq.{get_or-append-add, sets-eq, take-append-add, drop-append-add}
use Rattle.rules.proofs.Branches.{taken, left}
use Rattle.fives.specs.Tables.{put_at, written}

on_or_off : (b : Bool) → (b ≡ true) ⊎ (b ≡ false)
on_or_off true = inl refl
on_or_off false = inr refl

-- the code's five stores, where there is room, and where there is none
module _ (t : List Float) (m : ℕ) (a b c d e : Float) where
  pub put_stores : m < length t / 5
      → set (set (set (set (set t (m * 5) a) (m * 5 + 1) b) (m * 5 + 2) c) (m * 5 + 3) d) (m * 5 + 4) e ≡ put_at t m (a ∷ b ∷ c ∷ d ∷ e ∷ [])
  unfolding put_at
  put_stores h =
      taken _ _ _ _ (le-leb (m * 5 + 5) (length t) (omega arith))
      (rw (add-one, add-two, add-three, add-four) (sets-eq (a ∷ b ∷ c ∷ d ∷ e ∷ []) t (m * 5) (omega arith)))

  pub put_none : length t / 5 ≤ m → t ≡ put_at t m (a ∷ b ∷ c ∷ d ∷ e ∷ [])
  unfolding put_at
  put_none h = left _ _ _ _ (lt-leb (m * 5 + 5) (length t) (omega arith)) refl

none_behind : (t : List Float) (m : ℕ) (v : List Float) → length t < 5 → t ≡ put_at t (suc m) v
unfolding put_at
none_behind t m v h = left _ _ _ _ (lt-leb (suc m * 5 + 5) (length t) (omega arith)) refl

-- one entry more
module _ {A : Type 0} (f : A → List Float) (five : (x : A) → length (f x) ≡ 5) where
  put_behind : (y : A) (w : List Float) (m : ℕ) (v : List Float) → put_at (f y ++ w) (suc m) v ≡ f y ++ put_at w m v
  unfolding put_at
  put_behind y w m v =
      ⊎_elim
      (λ (p : leb (m * 5 + 5) (length w) ≡ true).
      let q : m * 5 + 5 ≤ length w = leb-true (m * 5 + 5) (length w) p in
      let r : leb (suc m * 5 + 5) (length (f y ++ w)) ≡ true = le-leb (suc m * 5 + 5) (length (f y ++ w)) (omega (arith, length-append (f y) w, five y)) in
      let n : suc m * 5 + 5 ≡ length (f y) + (m * 5 + 5) = omega (arith, five y) in
      let k : suc m * 5 ≡ length (f y) + m * 5 = omega (arith, five y) in
      let d : drop (suc m * 5 + 5) (f y ++ w) ≡ drop (m * 5 + 5) w = ap (λ (i : ℕ). drop i (f y ++ w)) n ∙ drop-append-add (f y) w (m * 5 + 5) in
      let h : take (suc m * 5) (f y ++ w) ≡ f y ++ take (m * 5) w = ap (λ (i : ℕ). take i (f y ++ w)) k ∙ take-append-add (f y) w (m * 5) in
      rw (p, r, d, h) (append_assoc (f y ++ take (m * 5) w) v _ ∙ append_assoc (f y) (take (m * 5) w) _
      ∙ ap (λ (l : List Float). f y ++ l) (sym (append_assoc (take (m * 5) w) v _))))
      (λ (p : leb (m * 5 + 5) (length w) ≡ false).
      let q : length w < m * 5 + 5 = leb-false (m * 5 + 5) (length w) p in
      let r : leb (suc m * 5 + 5) (length (f y ++ w)) ≡ false = lt-leb (suc m * 5 + 5) (length (f y ++ w)) (omega (arith, length-append (f y) w, five y)) in
      rw (p, r))
      (on_or_off _)

  pub written_more : (xs : List A) (x : A) (t : List Float) → written (map f (xs ++ x ∷ [])) t ≡ put_at (written (map f xs) t) (length xs) (f x)
  unfolding written
  written_more [] x t = unfold put_at in refl
  written_more (y ∷ ys) x t = by_room (leb 5 (length t)) refl (written_more ys x (drop 5 t))
    where
      w : List Float
      w = written (map f ys) (drop 5 t)

      by_room : (b : Bool) → leb 5 (length t) ≡ b → written (map f (ys ++ x ∷ [])) (drop 5 t) ≡ put_at w (length ys) (f x)
          → cond b (f y ++ written (map f (ys ++ x ∷ [])) (drop 5 t)) t ≡ put_at (cond b (f y ++ w) t) (suc (length ys)) (f x)
      by_room true p r = ap (λ (l : List Float). f y ++ l) r ∙ sym (put_behind y w (length ys) (f x))
      by_room false p r = none_behind t (length ys) (f x) (leb-false 5 (length t) p)

  pub written_length : (xs : List A) (t : List Float) → length (written (map f xs) t) ≡ length t
  unfolding written
  written_length [] t = refl
  written_length (x ∷ xs) t =
      ⊎_elim
      (λ (p : leb 5 (length t) ≡ true).
      let q : 5 ≤ length t = leb-true 5 (length t) p in
      rw p (omega (arith, length-append (f x) (written (map f xs) (drop 5 t)), five x, written_length xs (drop 5 t), length-drop 5 t)))
      (λ (p : leb 5 (length t) ≡ false). rw p)
      (on_or_off _)

-- a loop that clears a table from the front
pub clear_more : {A : Type 0} (n : ℕ) (v : A) (d : List A) → n < length d → set (replicate n v ++ drop n d) n v ≡ replicate (n + 1) v ++ drop (n + 1) d
clear_more n v d h = rw (add-one n) (go n d h)
  where
    go : (n : ℕ) (d : List _) → n < length d → set (replicate n v ++ drop n d) n v ≡ replicate (suc n) v ++ drop (suc n) d
    go n [] l = absurd (omega arith)
    go zero (x ∷ d) l = refl
    go (suc n) (x ∷ d) l = ap (λ (t : List _). v ∷ t) (go n d (omega arith))

-- entry number (length xs) of what was written
module _ {A : Type 0} (f : A → List Float) (five : (x : A) → length (f x) ≡ 5) where
  pub written_at : (xs ys : List A) (x : A) (t : List Float) (k : ℕ) (d : Float) → length xs * 5 + 5 ≤ length t → k < 5
      → get_or (written (map f (xs ++ x ∷ ys)) t) (length xs * 5 + k) d ≡ get_or (f x) k d
  unfolding written
  written_at [] ys x t k d h l =
      let p : leb 5 (length t) ≡ true = le-leb 5 (length t) (omega arith) in
      let z : length {A = A} [] * 5 + k ≡ k = omega arith in
      rw (p, z) (get_or-append (f x) _ d k (omega (arith, five x)))
  written_at (y ∷ xs) ys x t k d h l =
      let p : leb 5 (length t) ≡ true = le-leb 5 (length t) (omega arith) in
      let z : suc (length xs) * 5 + k ≡ length (f y) + (length xs * 5 + k) = omega (arith, five y) in
      rw (p, z) (get_or-append-add (f y) _ (length xs * 5 + k) d ∙ written_at xs ys x (drop 5 t) k d (omega (arith, length-drop 5 t)) l)
