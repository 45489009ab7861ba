-- The levels of a list of triangle numbers, written one after the other.
use mathlib.Core.Bool.{Bool, true, false, cond}
use mathlib.Core.List.{List, [], ◌∷◌, ◌++◌, map}
use mathlib.Core.Path.{◌≡◌, refl, sym, ap, ◌∙◌}
use Prim.Native.Nat.{ℕ, ◌+◌, ◌<◌}
use native.Mathlib.Numerals.{add-one}
use native.Mathlib.Omega.{arith}
use lib.Ieee.{Float}
use lib.ListN.{length, get_or, take, length-append}
use lib.Seq.{take-suc}
use Rattle.plane.specs.Mesh.{triangle_of}
use Rattle.grid.specs.Boxes.{box_at}
use Rattle.fives.specs.Tables.{put_at, written}
use Rattle.fives.specs.Groups.{grouped}
use Rattle.fives.proofs.Writing.{written_more}
use Rattle.fives.proofs.Grouping.{Opened, opened_first, opened_joins, opened_next, opened_ends}
use Rattle.levels.specs.Levels.{opened_by, joins_level, widened_by, levels_from, five_of}
use Rattle.levels.specs.Inside.{Grown, grown, grown_by}
use Rattle.levels.specs.declared.Level.{Level}
use Rattle.levels.specs.declared.Group.{Group}

module _ (mesh boxes : List Float) (tolerance : Float) (is : List ℕ) (t₀ : List Float) where
  -- with the first j numbers gone through, the levels `done` are written and g's is open
  pub record Collecting (t : List Float) (g : Group) (j : ℕ) : Type 0 where
    pub done : List Level
    pub table : t ≡ written (map five_of done) t₀
    pub number : g.count ≡ length done
    pub current : Opened (λ l i. joins_level tolerance l (triangle_of mesh i)) (λ l i. widened_by l (box_at boxes i))
        (λ i. opened_by (triangle_of mesh i) (box_at boxes i)) (take j is) done g.level
    pub few : g.count < j

  pub collecting_starts : (l : Level) → 0 < length is → l ≡ opened_by (triangle_of mesh (get_or is 0 0)) (box_at boxes (get_or is 0 0))
      → Collecting t₀ (record { level = l; count = 0 }) 1
  unfolding written
  collecting_starts l h e =
      record {
        done = [];
        table = refl;
        number = refl;
        current = rw (take-suc is 0 0 h, e) (opened_first _ _ _ (get_or is 0 0));
        few = omega arith;
      }

  pub collecting_goes : (t t' : List Float) (g g' : Group) (j : ℕ) → j < length is → Collecting t g j
      → grown t' g' ≡ grown_by tolerance t g (triangle_of mesh (get_or is j 0)) (box_at boxes (get_or is j 0)) → Collecting t' g' (j + 1)
  unfolding grown_by
  collecting_goes t t' g g' j h c e =
      by_test (joins_level tolerance g.level (triangle_of mesh (get_or is j 0))) refl (ap (λ (x : Grown). x.table) e) (ap (λ (x : Grown). x.group.level) e)
      (ap (λ (x : Grown). x.group.count) e)
    where
      i : ℕ
      i = get_or is j 0

      one : Grown
      one = grown t (record { level = widened_by g.level (box_at boxes i); count = g.count })

      two : Grown
      two = grown (put_at t g.count (five_of g.level)) (record { level = opened_by (triangle_of mesh i) (box_at boxes i); count = g.count + 1 })

      next : take (j + 1) is ≡ take j is ++ (i ∷ [])
      next = rw (add-one j) (take-suc is j 0 h)

      by_test : (b : Bool) → joins_level tolerance g.level (triangle_of mesh i) ≡ b → t' ≡ (cond b one two).table → g'.level ≡ (cond b one two).group.level
          → g'.count ≡ (cond b one two).group.count → Collecting t' g' (j + 1)
      by_test true q p l n =
          record {
            done = c.done;
            table = p ∙ c.table;
            number = n ∙ c.number;
            current = rw (next, l) (opened_joins _ _ _ (take j is) c.done g.level i c.current q);
            few = omega (arith, c.few);
          }
      by_test false q p l n =
          record {
            done = c.done ++ g.level ∷ [];
            table = p ∙ (rw (c.table, c.number) (sym (written_more five_of (λ _. refl) c.done g.level t₀)));
            number = n ∙ (rw (length-append c.done (g.level ∷ [])) (ap (λ (k : ℕ). k + 1) c.number));
            current = rw (next, l) (opened_next _ _ _ (take j is) c.done g.level i c.current q);
            few = omega (arith, c.few);
          }

  pub collecting_ends : (t t' : List Float) (g : Group) (j : ℕ) → take j is ≡ is → Collecting t g j → t' ≡ put_at t g.count (five_of g.level)
      → (t' ≡ written (map five_of (levels_from mesh boxes tolerance is)) t₀) × (g.count + 1 ≡ length (levels_from mesh boxes tolerance is))
  unfolding levels_from
  collecting_ends t t' g j w c e =
      let all = opened_ends _ _ _ is c.done g.level (rw w at c.current) in (
        rw all (e ∙ (rw (c.table, c.number) (sym (written_more five_of (λ _. refl) c.done g.level t₀)))),
        rw (all, length-append c.done (g.level ∷ [])) (ap (λ (k : ℕ). k + 1) c.number),
      )

pub collected_none : (mesh boxes : List Float) (tolerance : Float) (is : List ℕ) (t : List Float) (k : ℕ) → k ≡ 0
    → (t ≡ written (map five_of (levels_from mesh boxes tolerance (take k is))) t) × (0 ≡ length (levels_from mesh boxes tolerance (take k is)))
unfolding levels_from written grouped
collected_none mesh boxes tolerance is t k e = rw e (refl, refl)
