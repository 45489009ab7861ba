-- The search for a number that is no coordinate.
use Rattle.std.specs.Prelude.{Option, None, Some, not}
use Rattle.std.specs.List.{position_from}
use Rattle.std.proofs.lemmas.Iterator.Adapters.{position_from-zero}
use Rattle.std.proofs.Common.{◌≡◌, ℕ, zero, suc, ◌+◌, ◌<◌, Bool, true, false, List, [], ◌∷◌, length, refl, sym, ◌∙◌, arith}
use lib.Ieee.{Float}
use Rattle.numbers.specs.Reals.{num}
use Rattle.plane.specs.Ranges.{is_coordinate}
use Rattle.rules.proofs.Branches.{by_test}
use Rattle.spans.specs.Mesh.{first_bad}

-- the same, place by place: of the numbers from place k on, where the first stands that is no coordinate
unfoldable pub bad_from : ℕ → List Float → Option ℕ
bad_from k xs = position_from (λ x. not (is_coordinate x)) k xs

pub bad_is : (mesh : List Float) → first_bad mesh ≡ bad_from 0 mesh
unfolding first_bad bad_from
bad_is mesh = position_from-zero _ mesh

-- ---- where nothing was found every number is a coordinate
from_good : (j : ℕ) (xs : List Float) → bad_from j xs ≡ None → (k : ℕ) → k < length xs → is_coordinate (num xs k) ≡ true
unfolding bad_from
from_good j [] e k h = absurd (omega arith)
from_good j (x ∷ xs) e k h = go (is_coordinate x) refl (λ p. from_good (j + 1) xs ((rw p) ∙ e)) k h
  where
    go : (t : Bool) → is_coordinate x ≡ t → (is_coordinate x ≡ true → (k : ℕ) → k < length xs → is_coordinate (num xs k) ≡ true) → (k : ℕ) → k < length (x ∷ xs)
        → is_coordinate (num (x ∷ xs) k) ≡ true
    go true p f zero l = p
    go true p f (suc k) l = f p k (omega arith)
    go false p f k l = let z : Some j ≡ None = (rw p) ∙ e in let y : ◌≡◌ {A = ℕ} 0 1 = cc in absurd (omega arith)

pub all_good : (mesh : List Float) → first_bad mesh ≡ None → (k : ℕ) → k < length mesh → is_coordinate (num mesh k) ≡ true
all_good mesh e = from_good 0 mesh (sym (bad_is mesh) ∙ e)
