-- A list of sections as a flat table, one section after the other.
use mathlib.Core.List.{List, [], ◌∷◌, ◌++◌}
use mathlib.Core.Path.{◌≡◌, refl, ap, ◌∙◌}
use Prim.Native.Nat.{ℕ, zero, suc, ◌+◌, ◌≤◌, ◌<◌}
use native.Mathlib.Nat.{not-suc-le-zero, le_of_suc-le-suc}
use native.Mathlib.Numerals.{add-one, add-two, add-three}
use native.Mathlib.Omega.{arith}
use borrow.Author.Tests.{leb-true}
use lib.Dec.{leb}
use lib.Ieee.{Float}
use lib.ListN.{length, set, take, length-take, length-append}
use lib.Seq.{sets-eq, take_at}
use Rattle.section.specs.declared.Section.{Section}
use Rattle.rules.proofs.Branches.{either}
use Rattle.flatten.specs.declared.Table.{Table}
use Rattle.flatten.specs.Flat.{four, flat_of, section_in, copied_of, held_in}

-- four stores at k, in a table with room for them
pub four_stored : (t : List Float) (k : ℕ) (a b c d : Float) → k + 4 ≤ length t
    → take (k + 4) (set (set (set (set t k a) (k + 1) b) (k + 2) c) (k + 3) d) ≡ take k t ++ (a ∷ b ∷ c ∷ d ∷ [])
four_stored t k a b c d h =
    let vs : List Float = a ∷ b ∷ c ∷ d ∷ [] in
    let front : length (take k t ++ vs) ≡ k + 4 = simp (length-append, length-take) (omega arith) in
    rw (add-one, add-two, add-three) (ap (take (k + 4)) (sets-eq vs t k h) ∙ take_at (take k t ++ vs) _ (k + 4) front)

-- one section more
pub flat_more : (ss : List Section) (i : ℕ) → i < length ss → flat_of (take (suc i) ss) ≡ flat_of (take i ss) ++ four (section_in ss i)
unfolding flat_of
flat_more [] i h = absurd (not-suc-le-zero h)
flat_more (s ∷ ss) zero h = refl
flat_more (s ∷ ss) (suc i) h = ap (λ (r : List Float). four s ++ r) (flat_more ss i (le_of_suc-le-suc h))

-- what is copied has room, and is there
pub copied_few : (n : ℕ) → copied_of n ≤ 32
unfolding copied_of
copied_few n = either (λ (k : ℕ). k ≤ 32) (leb n 32) n 0 (λ e. leb-true n 32 e) (λ e. omega arith)

pub copied_there : (n : ℕ) → copied_of n ≤ n
unfolding copied_of
copied_there n = either (λ (k : ℕ). k ≤ n) (leb n 32) n 0 (λ e. omega arith) (λ e. omega arith)

-- a table of no numbers
pub holds_none : (t : Table) (ss : List Section) → t.count ≡ 0 → held_in t ≡ flat_of (take 0 ss)
unfolding held_in flat_of
holds_none t ss e = rw e
