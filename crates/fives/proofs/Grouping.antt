-- Laws of groups: going through a list from the front, the groups done and the one that is open.
use mathlib.Core.Bool.{Bool, true, false}
use mathlib.Core.List.{List, [], ◌∷◌, ◌++◌, append_assoc, append-nil}
use mathlib.Core.Path.{◌≡◌, refl, sym, ap, ◌∙◌}
use Rattle.fives.specs.Groups.{grouping, grouped, Each}

module _ {A B : Type 0} (joins : A → B → Bool) (add : A → B → A) (first : B → A) where
  -- after bs the groups `done` are closed and g is open: whatever comes next, these are the groups of all
  abbrev pub Opened : List B → List A → A → Type 0
  Opened bs done g = (next : List B) → grouped joins add first (bs ++ next) ≡ done ++ grouping joins add first g next

  pub opened_first : (b : B) → Opened (b ∷ []) [] (first b)
  unfolding grouped
  opened_first b next = refl

  module _ (bs : List B) (done : List A) (g : A) (b : B) (o : Opened bs done g) where
    pub opened_joins : joins g b ≡ true → Opened (bs ++ b ∷ []) done (add g b)
    unfolding grouping
    opened_joins e next = rw (append_assoc bs (b ∷ []) next) (o (b ∷ next) ∙ (rw e))

    pub opened_next : joins g b ≡ false → Opened (bs ++ b ∷ []) (done ++ g ∷ []) (first b)
    unfolding grouping
    opened_next e next = rw (append_assoc bs (b ∷ []) next) (o (b ∷ next) ∙ (rw (e, append_assoc done (g ∷ []) (grouping joins add first (first b) next))))

  pub opened_ends : (bs : List B) (done : List A) (g : A) → Opened bs done g → grouped joins add first bs ≡ done ++ g ∷ []
  unfolding grouping
  opened_ends bs done g o = ap (grouped joins add first) (sym (append-nil bs)) ∙ o []

-- ---- what is said of each
module _ {A : Type 0} (P : A → Type 0) where
  pub each_append : (xs ys : List A) → Each P xs → Each P ys → Each P (xs ++ ys)
  unfolding Each
  each_append [] ys a b = b
  each_append (x ∷ xs) ys a b = (a.0, each_append xs ys a.1 b)

  pub each_parts : (xs ys : List A) → Each P (xs ++ ys) → Each P xs × Each P ys
  unfolding Each
  each_parts [] ys a = (tt, a)
  each_parts (x ∷ xs) ys a = let r = each_parts xs ys a.1 in ((a.0, r.0), r.1)
