-- The marks that a walk begins with are as many as were lent; and what tables of as many triangles have of each.
use mathlib.Core.List.{List}
use mathlib.Core.Path.{◌≡◌, refl}
use Prim.Native.Nat.{ℕ, ◌*◌}
use native.Mathlib.Omega.{arith}
use lib.Dec.{eqb}
use lib.ListN.{length, length-replicate}
use Rattle.rules.proofs.Branches.{either}
use Rattle.walk.specs.Walk.{ready_marks}
use Rattle.walk.specs.Inside.{Tabled, FitsAll}

pub ready_length : (marks : List ℕ) (stamp : ℕ) → length (ready_marks marks stamp) ≡ length marks
unfolding ready_marks
ready_length marks stamp =
    either (λ (l : List ℕ). length l ≡ length marks) (eqb stamp 4294967295) _ _ (λ _. length-replicate (length marks) 0) (λ _. refl)

-- tables of n triangles have the numbers of each
pub all_tabled : {A B : Type 0} (mesh : List A) (boxes : List B) (n : ℕ) → length mesh ≡ n * 9 → length boxes ≡ n * 5 → FitsAll (Tabled mesh boxes) n
all_tabled mesh boxes n nine five i h = (omega arith, omega arith)
