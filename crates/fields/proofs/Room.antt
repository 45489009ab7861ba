-- A count that is not too many.
use mathlib.Core.Bool.{Bool, true, false, cond}
use mathlib.Core.Path.{◌≡◌, refl}
use Prim.Native.Nat.{ℕ, ◌≤◌}
use native.Mathlib.Omega.{arith}
use borrow.Author.Tests.{ltb-false, le-ltb}
use lib.Dec.{ltb}
use Rattle.fields.specs.Room.{too_many}

no_either : (a b : Bool) → cond a true b ≡ false → (a ≡ false) × (b ≡ false)
no_either false b e = (refl, e)
no_either true b e = let z : ◌≡◌ {A = ℕ} 0 1 = cc in absurd (omega arith)

module _ (n room : ℕ) where
  pub room_for : too_many n room ≡ false → (n ≤ 65536) × (n ≤ room)
  unfolding too_many
  room_for e = let p = no_either (ltb 65536 n) (ltb room n) e in (ltb-false 65536 n p.0, ltb-false room n p.1)

  pub room_enough : n ≤ 65536 → n ≤ room → too_many n room ≡ false
  unfolding too_many
  room_enough h l = rw (le-ltb 65536 n h) (le-ltb room n l)
