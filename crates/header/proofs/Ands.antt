-- A conjunction of tests taken apart and put together.
use mathlib.Core.Bool.{Bool, true, false, ◌&&◌}
use mathlib.Core.Path.{◌≡◌, refl}
use Prim.Native.Nat.{ℕ, ◌≤◌}
use borrow.Author.Tests.{leb-true}
use lib.Dec.{leb}
use Rattle.rules.proofs.Branches.{both_true}
use Rattle.rules.specs.Every.{is_from}

pub three : (a b c d : Bool) → ((a && (b && c)) && d) ≡ (a && (b && (c && d)))
three true true c d = refl
three true false c d = refl
three false b c d = refl

pub from_is : (a e k : ℕ) → is_from a e k ≡ true → (a ≤ k) × (k ≤ e)
unfolding is_from
from_is a e k h = let p = both_true (leb a k) (leb k e) h in (leb-true a k p.0, leb-true k e p.1)
