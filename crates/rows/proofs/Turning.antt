-- A row sampled from its other end has the same stretches, in the other order and each from its other end.
use Rattle.std.proofs.Common.{◌≡◌, ℕ, zero, suc, ◌+◌, ◌-◌, ◌<◌, ◌≤◌, Bool, true, false, cond, ltb, List, [], ◌∷◌, ◌++◌, map, reverse, length, replicate, sym, refl, ap, ◌∙◌, append_assoc, append-nil, add-one, arith, ltb-true}
use mathlib.Core.List.{reverse-cons, reverse-append, map-append, map-map}
use lib.ListN.{length-reverse}
use Rattle.rows.specs.Stretches.{Ends, ends, sampled, ended_at, stretches_from, stretches_of, turned, backward}

-- ends as they stand d samples further on, and as they stand in a row of n samples from its other end
abbrev later : ℕ → Ends → Ends
later d e = ends (e.from + d) (e.to + d)

abbrev mirrored : ℕ → Ends → Ends
mirrored n e = ends (n - 1 - e.to) (n - 1 - e.from)

-- two ends are the same
same_ends : (a b c d : ℕ) → a ≡ c → b ≡ d → ends a b ≡ ends c d
same_ends a b c d p q = rw (p, q)

-- ---- how stretches go over a list of samples

-- a stretch ended d samples further on
ended_later : (k s d : ℕ) → k ≤ s → ended_at k (s + d) ≡ map (later d) (ended_at k s)
unfolding ended_at
ended_later k s d h = by (ltb 1 k) refl
  where
    by : (b : Bool) → ltb 1 k ≡ b → cond b (ends (s + d - k) (s + d - 1) ∷ []) [] ≡ map (later d) (cond b (ends (s - k) (s - 1) ∷ []) [])
    by true t = let l : 1 < k = ltb-true 1 k t in ap (λ (e : Ends). e ∷ []) (same_ends _ _ _ _ (omega arith) (omega arith))
    by false t = refl

from_later : (fs : List Bool) (k s d : ℕ) → k ≤ s → stretches_from k (s + d) fs ≡ map (later d) (stretches_from k s fs)
unfolding stretches_from
from_later [] k s d h = ended_later k s d h
from_later (true ∷ fs) k s d h = let e : s + d + 1 ≡ s + 1 + d = omega arith in rw e (from_later fs (k + 1) (s + 1) d (omega arith))
from_later (false ∷ fs) k s d h =
    let e : s + d + 1 ≡ s + 1 + d = omega arith in
    rw (e, map-append (later d) (ended_at k s) (stretches_from 0 (s + 1) fs), ended_later k s d h, from_later fs 0 (s + 1) d (omega arith))

-- a sample that is not on the level parts a row
from_parted : (xs ys : List Bool) (k s : ℕ) → stretches_from k s (xs ++ false ∷ ys) ≡ stretches_from k s xs ++ stretches_from 0 (s + length xs + 1) ys
unfolding stretches_from
from_parted [] ys k s = let e : s + 0 + 1 ≡ s + 1 = omega arith in rw e
from_parted (true ∷ xs) ys k s = let e : s + suc (length xs) + 1 ≡ s + 1 + length xs + 1 = omega arith in rw e (from_parted xs ys (k + 1) (s + 1))
from_parted (false ∷ xs) ys k s =
    let e : s + suc (length xs) + 1 ≡ s + 1 + length xs + 1 = omega arith in
    rw (e, from_parted xs ys 0 (s + 1)) (sym (append_assoc (ended_at k s) (stretches_from 0 (s + 1) xs) (stretches_from 0 (s + 1 + length xs + 1) ys)))

-- samples that are all on the level
from_all : (m k s : ℕ) → stretches_from k s (replicate m true) ≡ ended_at (k + m) (s + m)
unfolding stretches_from
from_all zero k s = let e : k + 0 ≡ k = omega arith in let f : s + 0 ≡ s = omega arith in rw (e, f)
from_all (suc m) k s =
    let e : k + suc m ≡ k + 1 + m = omega arith in
    let f : s + suc m ≡ s + 1 + m = omega arith in
    rw (e, f) (from_all m (k + 1) (s + 1))

-- a stretch in front of the rest, seen from the other end
ended_mirrored : (k n : ℕ) → k ≤ n → map (mirrored n) (reverse (ended_at k k)) ≡ ended_at k n
unfolding ended_at
ended_mirrored k n h = by (ltb 1 k) refl
  where
    by : (b : Bool) → ltb 1 k ≡ b → map (mirrored n) (reverse (cond b (ends (k - k) (k - 1) ∷ []) [])) ≡ cond b (ends (n - k) (n - 1) ∷ []) []
    by true t = let l : 1 < k = ltb-true 1 k t in ap (λ (e : Ends). e ∷ []) (same_ends _ _ _ _ (omega arith) (omega arith))
    by false t = refl

map_same : {A B : Type 0} (f g : A → B) → ((x : A) → f x ≡ g x) → (xs : List A) → map f xs ≡ map g xs
map_same f g h [] = refl
map_same f g h (x ∷ xs) = rw (h x, map_same f g h xs)

map_reverse : {A B : Type 0} (f : A → B) (xs : List A) → map f (reverse xs) ≡ reverse (map f xs)
map_reverse f [] = refl
map_reverse f (x ∷ xs) = rw (reverse-cons x xs, map-append f (reverse xs) (x ∷ []), map_reverse f xs) (sym (reverse-cons (f x) (map f xs)))

-- k samples on the level and then fs, seen from the other end
from_mirrored : (fs : List Bool) (k : ℕ) → stretches_from 0 0 (reverse fs ++ replicate k true) ≡ map (mirrored (k + length fs)) (reverse (stretches_from k k fs))
unfolding stretches_from
from_mirrored [] k =
    let e : 0 + k ≡ k = omega arith in
    let f : k + 0 ≡ k = omega arith in
    from_all k 0 0 ∙ (rw (e, f) (sym (ended_mirrored k k (omega arith))))
from_mirrored (true ∷ fs) k =
    let e : k + suc (length fs) ≡ k + 1 + length fs = omega arith in
    let l : reverse (true ∷ fs) ++ replicate k true ≡ reverse fs ++ replicate (k + 1) true =
    ap (λ (x : List Bool). x ++ replicate k true) (reverse-cons true fs) ∙ append_assoc (reverse fs) (true ∷ []) (replicate k true) ∙ (rw (add-one k)) in
    ap (stretches_from 0 0) l ∙ (rw e (from_mirrored fs (k + 1)))
from_mirrored (false ∷ fs) k =
    let n = k + suc (length fs) in
    let l : reverse (false ∷ fs) ++ replicate k true ≡ reverse fs ++ false ∷ replicate k true =
    ap (λ (x : List Bool). x ++ replicate k true) (reverse-cons false fs) ∙ append_assoc (reverse fs) (false ∷ []) (replicate k true) in
    let z : 0 + length (reverse fs) + 1 + k ≡ n = omega (arith, length-reverse fs) in
    let k₀ : 0 + k ≡ k = omega arith in
    let front : stretches_from 0 0 (reverse fs) ≡ map (mirrored (0 + length fs)) (reverse (stretches_from 0 0 fs)) =
    ap (stretches_from 0 0) (sym (append-nil (reverse fs))) ∙ from_mirrored fs 0 in
    let s₀ : k + 1 ≡ 0 + (k + 1) = omega arith in
    let rest : stretches_from 0 (k + 1) fs ≡ map (later (k + 1)) (stretches_from 0 0 fs) = ap (λ (x : ℕ). stretches_from 0 x fs) s₀
    ∙ from_later fs 0 0 (k + 1) (omega arith) in
    let back : map (mirrored n) (reverse (stretches_from 0 (k + 1) fs)) ≡ map (mirrored (0 + length fs)) (reverse (stretches_from 0 0 fs)) =
    ap (λ (x : List Ends). map (mirrored n) (reverse x)) rest
    ∙ ap (map (mirrored n)) (sym (map_reverse (later (k + 1)) (stretches_from 0 0 fs)))
    ∙ map-map (mirrored n) (later (k + 1)) (reverse (stretches_from 0 0 fs))
    ∙ map_same _ _ (λ e. same_ends _ _ _ _ (omega arith) (omega arith)) (reverse (stretches_from 0 0 fs)) in
    ap (stretches_from 0 0) l
    ∙ from_parted (reverse fs) (replicate k true) 0 0
    ∙ ap (λ (x : List Ends). x ++ stretches_from 0 (0 + length (reverse fs) + 1) (replicate k true)) front
    ∙ ap (λ (x : List Ends). map (mirrored (0 + length fs)) (reverse (stretches_from 0 0 fs)) ++ x) (from_all k 0 (0 + length (reverse fs) + 1)
    ∙ (rw (z, k₀) (sym (ended_mirrored k n (omega arith)))))
    ∙ ap (λ (x : List Ends). x ++ map (mirrored n) (reverse (ended_at k k))) (sym back)
    ∙ sym (map-append (mirrored n) (reverse (stretches_from 0 (k + 1) fs)) (reverse (ended_at k k)))
    ∙ ap (map (mirrored n)) (sym (reverse-append (ended_at k k) (stretches_from 0 (k + 1) fs)))

-- ---- a row's samples

pub sampled_length : (f : ℕ → Bool) (a m : ℕ) → length (sampled f a m) ≡ m
unfolding sampled
sampled_length f a zero = refl
sampled_length f a (suc m) = ap suc (sampled_length f (a + 1) m)

sampled_same : (f g : ℕ → Bool) (a b m : ℕ) → ((j : ℕ) → j < m → f (a + j) ≡ g (b + j)) → sampled f a m ≡ sampled g b m
unfolding sampled
sampled_same f g a b zero h = refl
sampled_same f g a b (suc m) h =
    let e : a + 0 ≡ a = omega arith in
    let e' : b + 0 ≡ b = omega arith in
    let first : f a ≡ g b = rw (e, e') at (h 0 (omega arith)) in
    rw (
      first,
      sampled_same f g (a + 1) (b + 1) m (λ j l.
          let p : a + 1 + j ≡ a + suc j = omega arith in
          let q : b + 1 + j ≡ b + suc j = omega arith in
          rw (p, q) (h (suc j) (omega arith))),
    )

sampled_last : (f : ℕ → Bool) (a m : ℕ) → sampled f a (suc m) ≡ sampled f a m ++ f (a + m) ∷ []
unfolding sampled
sampled_last f a zero = let e : a + 0 ≡ a = omega arith in rw e
sampled_last f a (suc m) = let e : a + suc m ≡ a + 1 + m = omega arith in rw e (ap (λ (l : List Bool). f a ∷ l) (sampled_last f (a + 1) m))

sampled_reverse : (f : ℕ → Bool) (a m : ℕ) → reverse (sampled f a m) ≡ sampled (λ j. f (a + m - 1 - j)) 0 m
unfolding sampled
sampled_reverse f a zero = refl
sampled_reverse f a (suc m) =
    let z : a + suc m - 1 - (0 + m) ≡ a = omega arith in
    reverse-cons (f a) (sampled f (a + 1) m)
    ∙ ap (λ (l : List Bool). l ++ f a ∷ []) (sampled_reverse f (a + 1) m
    ∙ sampled_same _ (λ j. f (a + suc m - 1 - j)) 0 0 m (λ j h. let e : a + 1 + m - 1 - (0 + j) ≡ a + suc m - 1 - (0 + j) = omega arith in ap f e))
    ∙ ap (λ (x : ℕ). sampled (λ j. f (a + suc m - 1 - j)) 0 m ++ f x ∷ []) (sym z)
    ∙ sym (sampled_last (λ j. f (a + suc m - 1 - j)) 0 m)

-- two readings of ends that agree within a row agree on its stretches
ended_agree : (f g : Ends → Ends) (b k s : ℕ) → ((e : Ends) → e.from ≤ b → e.to ≤ b → f e ≡ g e) → s ≤ b + 1 → map f (ended_at k s) ≡ map g (ended_at k s)
unfolding ended_at
ended_agree f g b k s h l = by (ltb 1 k) refl
  where
    by : (t : Bool) → ltb 1 k ≡ t → map f (cond t (ends (s - k) (s - 1) ∷ []) []) ≡ map g (cond t (ends (s - k) (s - 1) ∷ []) [])
    by true q = let w : 1 < k = ltb-true 1 k q in ap (λ (e : Ends). e ∷ []) (h (ends (s - k) (s - 1)) (omega arith) (omega arith))
    by false q = refl

from_agree : (f g : Ends → Ends) (b : ℕ) → ((e : Ends) → e.from ≤ b → e.to ≤ b → f e ≡ g e) → (fs : List Bool) (k s : ℕ) → s + length fs ≤ b + 1
    → map f (stretches_from k s fs) ≡ map g (stretches_from k s fs)
unfolding stretches_from
from_agree f g b h [] k s l = ended_agree f g b k s h (omega arith)
from_agree f g b h (true ∷ fs) k s l = from_agree f g b h fs (k + 1) (s + 1) (omega arith)
from_agree f g b h (false ∷ fs) k s l =
    map-append f (ended_at k s) (stretches_from 0 (s + 1) fs)
    ∙ (rw (ended_agree f g b k s h (omega arith), from_agree f g b h fs 0 (s + 1) (omega arith))
    (sym (map-append g (ended_at k s) (stretches_from 0 (s + 1) fs))))

-- sample j of a row that is walked the other way
abbrev pub counted : ℕ → Ends → Ends
counted samples e = ends (samples - e.from) (samples - e.to)

pub row_turned : (on : ℕ → Bool) (samples : ℕ) → map (counted samples) (stretches_of (λ j. on (samples - j)) samples) ≡ backward (stretches_of on samples)
unfolding stretches_of backward
row_turned on samples =
    let fs = sampled on 0 (samples + 1) in
    let n : length fs ≡ samples + 1 = sampled_length on 0 (samples + 1) in
    let r : sampled (λ j. on (samples - j)) 0 (samples + 1) ≡ reverse fs ++ [] =
    sampled_same _ (λ j. on (0 + (samples + 1) - 1 - j)) 0 0 (samples + 1)
    (λ j h. let e : samples - (0 + j) ≡ 0 + (samples + 1) - 1 - (0 + j) = omega arith in ap on e)
    ∙ sym (sampled_reverse on 0 (samples + 1))
    ∙ sym (append-nil (reverse fs)) in
    ap (λ (l : List Bool). map (counted samples) (stretches_from 0 0 l)) r
    ∙ ap (map (counted samples)) (from_mirrored fs 0)
    ∙ map-map (counted samples) (mirrored (0 + length fs)) (reverse (stretches_from 0 0 fs))
    ∙ map_reverse (λ e. counted samples (mirrored (0 + length fs) e)) (stretches_from 0 0 fs)
    ∙ ap reverse (from_agree (λ e. counted samples (mirrored (0 + length fs) e)) turned samples
    (λ e p q. same_ends _ _ _ _ (omega arith) (omega arith)) fs 0 0 (omega arith))
    ∙ sym (map_reverse turned (stretches_from 0 0 fs))
