-- The law of joining: joining a joined list, also with more runs behind it, goes as joining the list itself.
use mathlib.Core.Bool.{true, false}
use mathlib.Core.List.{List, [], ◌∷◌, ◌++◌, append-nil}
use mathlib.Core.Path.{◌≡◌, refl, sym, ap, ◌∙◌}
use Prim.Native.Nat.{suc, ◌≤◌}
use native.Mathlib.Omega.{arith}
use lib.ListN.{length, take, drop, take-append-drop}
use Rattle.rules.proofs.Branches.{by_test}
use Rattle.fives.specs.Groups.{grouping, grouped}
use Rattle.runs.specs.Runs.{touches_of, lengthened, joined_of}
use Rattle.runs.specs.declared.Run.{Run}
use Rattle.join.specs.Law.{WheneverJoined}

-- the joined runs, r being the open one
abbrev opened : Run → List Run → List Run
opened r rs = grouping touches_of lengthened (λ r. r) r rs

-- a run begins where its first part begins
same_start : (g b c : Run) → touches_of g (lengthened b c) ≡ touches_of g b
unfolding touches_of
same_start g b c = refl

-- a run that is not touched by b is not touched by what b grows to
apart : (g b : Run) (bs ss : List Run) → touches_of g b ≡ false → opened g (opened b bs ++ ss) ≡ g ∷ joined_of (opened b bs ++ ss)
unfolding grouping grouped joined_of
apart g b [] ss e = rw e
apart g b (c ∷ bs) ss e =
    let grown = apart g (lengthened b c) bs ss (same_start g b c ∙ e) in
    by_test (touches_of b c) (λ (p : touches_of b c ≡ true). rw p grown) (λ (p : touches_of b c ≡ false). rw (p, e))

rejoined : (g : Run) (bs ss : List Run) → joined_of (opened g bs ++ ss) ≡ opened g (bs ++ ss)
unfolding grouping grouped joined_of
rejoined g [] ss = refl
rejoined g (b ∷ bs) ss =
    let grown = rejoined (lengthened g b) bs ss in
    let next = rejoined b bs ss in
    by_test (touches_of g b) (λ (p : touches_of g b ≡ true). rw p grown)
    (λ (p : touches_of g b ≡ false). rw p (apart g b bs ss p ∙ ap (λ (l : List Run). g ∷ l) next))

joined_more : (rs ss : List Run) → joined_of (joined_of rs ++ ss) ≡ joined_of (rs ++ ss)
joined_more [] ss = unfold joined_of grouped in refl
joined_more (r ∷ rs) ss = unfold joined_of grouped in rejoined r rs ss

pub whenever : WheneverJoined
whenever =
    record {
      again = λ rs. ap joined_of (sym (append-nil (joined_of rs))) ∙ joined_more rs [] ∙ ap joined_of (append-nil rs);
      parted = λ rs n. joined_more (take n rs) (drop n rs) ∙ ap joined_of (take-append-drop n rs);
    }

opened_few : (g : Run) (bs : List Run) → length (opened g bs) ≤ suc (length bs)
unfolding grouping
opened_few g [] = omega arith
opened_few g (b ∷ bs) =
    let grown = opened_few (lengthened g b) bs in
    let next = opened_few b bs in
    by_test (touches_of g b) (λ (p : touches_of g b ≡ true). rw p (omega arith)) (λ (p : touches_of g b ≡ false). rw p (omega arith))

-- joining makes no run
pub joined_few : (rs : List Run) → length (joined_of rs) ≤ length rs
unfolding joined_of grouped
joined_few [] = omega arith
joined_few (r ∷ rs) = opened_few r rs
