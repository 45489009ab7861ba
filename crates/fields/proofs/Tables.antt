-- The test of a number that is finite, and of all numbers of a table.
use mathlib.Core.Bool.{Bool, true, false, ◌&&◌}
use mathlib.Core.List.{List, [], ◌∷◌}
use mathlib.Core.Path.{◌≡◌, refl, sym}
use Prim.Native.Nat.{ℕ}
use native.Mathlib.Omega.{arith}
use lib.Ieee.{Float, nan, inf, fin, of_bits, div, lt}
use Rattle.std.specs.Prelude.{All}
use Rattle.std.proofs.lemmas.List.Elements.{All-nil, All-cons, All-head, All-tail}
use Rattle.numbers.specs.Reals.{◌⊘◌, f0, f1, minus1}
use Rattle.fields.specs.Rows.{finite, all_finite}

pub between : (x : Float) → (lt (minus1 ⊘ f0) x && lt x (f1 ⊘ f0)) ≡ finite x
unfolding finite lt div of_bits
between nan = refl
between (inf true) = refl
between (inf false) = refl
between (fin s m e) = refl

abbrev Finite : Float → Type 0
Finite x = finite x ≡ true

both : (a b : Bool) → (a && b) ≡ true → (a ≡ true) × (b ≡ true)
both true b e = (refl, e)
both false b e = let z : ◌≡◌ {A = ℕ} 0 1 = cc in absurd (omega arith)

same : (a b : Bool) → (a ≡ true → b ≡ true) → (b ≡ true → a ≡ true) → a ≡ b
same true b f g = sym (f refl)
same false true f g = g refl
same false false f g = refl

all_in : (xs : List Float) → All Finite xs → all_finite xs ≡ true
unfolding all_finite
all_in [] h = refl
all_in (x ∷ xs) h = rw (All-head Finite x xs h) (all_in xs (All-tail Finite x xs h))

in_all : (xs : List Float) → all_finite xs ≡ true → All Finite xs
unfolding all_finite
in_all [] e = All-nil Finite
in_all (x ∷ xs) e =
    let d = both (finite x) (all_finite xs) e in
    All-cons Finite x xs d.0 (in_all xs d.1)

-- the test of a table from the test of each of its numbers
pub tested : (xs : List Float) (b : Bool) → (b ≡ true → All Finite xs) × (All Finite xs → b ≡ true) → b ≡ all_finite xs
tested xs b h = same b (all_finite xs) (λ e. all_in xs (h.0 e)) (λ e. h.1 (in_all xs e))
