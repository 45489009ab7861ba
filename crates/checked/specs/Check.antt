-- Whether these are the index of this mesh, built or raised: demand 3's own condition ("Take a mesh, the index built from it"), answered for any header and
-- tables. An index that was made of another mesh, or of this one before it was moved, passes refusal 7 of every question as long as the counts fit; this does
-- not let it pass.
use Rattle.std.specs.Prelude.{◌≡◌, ℕ, ◌%◌, ltb, eqb, length}
use Rattle.rules.specs.Ladder.{refuse, demand}
use Rattle.rules.specs.Limits.{most}
use Rattle.grid.specs.Grid.{triangles_in}
use Rattle.grid.specs.Boxes.{is_boxed}
use Rattle.grid.specs.Index.{Index, BuiltFrom}

-- How it is told that they are not. 1: mesh not a multiple of 9 or over 65,536 triangles.
-- 23: box table not five numbers a triangle. 7: all else, an empty mesh too.
unfoldable pub refusal_of : Index → ℕ
refusal_of ix =
    demand (eqb (length ix.mesh % 9) 0) 1
    (refuse (ltb most (triangles_in ix.mesh)) 1
    (demand (is_boxed ix.mesh ix.boxes) 23
    7))

-- What the answer k promises: it is 0 if this is the index of its mesh, and only then; so for each index there is one answer.
pub record CheckPromise (ix : Index) (k : ℕ) : Type 0 where
  pub only : k ≡ 0 → BuiltFrom ix
  pub always : BuiltFrom ix → k ≡ 0
  pub else : (k ≡ 0 → ⊥) → k ≡ refusal_of ix
