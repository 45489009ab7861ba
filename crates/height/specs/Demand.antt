-- Demand 3 of the letter, for the swept-disk height, over the definitions of demand 2.
use Rattle.plane.specs.Contacts.{at_height}
use Rattle.std.specs.Prelude.{true, List, ◌⊎◌, ◌≡◌, ℕ, Float, length}
use Rattle.std.specs.Float.Ieee.{lt}
use Rattle.plane.specs.declared.Touch.{Touch}
use Rattle.plane.specs.Mesh.{triangle_of, top_of}
use Rattle.capsule.specs.declared.Capsule.{Capsule}
use Rattle.plane.specs.declared.Best.{Best}
use Rattle.grid.specs.Index.{Index, BuiltFrom}
use Rattle.query.specs.declared.Patch.{Patch}
use Rattle.query.specs.Looked.{Shares, LooksOnce, looked_in}
use Rattle.ask.specs.Ask.{Answer}
use Rattle.ask.specs.Ask.{at_floor, told_by}
use Rattle.ask.specs.Demand.{GoodAccepted}
use Rattle.height.specs.Sweep.{Sweep, patch_for, capsule_for, height_of}
use Rattle.height.specs.Height.{is_sweep}

-- The height "lies above the floor and is the computed height of one of them", which is the triangle named; and what is touched there is what is told.
pub record HeightOfOne (ix : Index) (p : Patch) (q : Capsule) (b : Best) : Type 0 where
  pub above : lt ix.header.floor b.height ≡ true
  pub of_them : Shares ix p b.triangle
  pub computed : height_of ix.mesh q b.triangle ≡ at_height b.height (record { kind = b.kind; which = b.which })

-- What an accepted question with the cells p and the capsule q has done over the list `is`, with the answer a:
--   looks   it "has looked at each triangle sharing a grid cell with the question exactly once, and at no other";
--   count   "the count reported is the number of those triangles";
--   height  "a swept-disk height is the floor, or lies above it and is the computed height of one of them", and that one is named; the floor names none;
--   none    "none of them has both its top and its computed height above the answer".
pub record Demand3 (ix : Index) (p : Patch) (q : Capsule) (is : List ℕ) (a : Answer) : Type 0 where
  pub looks : LooksOnce ix p is
  pub count : a.count ≡ length is
  pub height : (told_by a ≡ at_floor ix.header.floor) ⊎ HeightOfOne ix p q (told_by a)
  pub none : (i : ℕ) → Shares ix p i
      → (z : Float) (t : Touch) → height_of ix.mesh q i ≡ at_height z t
      → lt a.height (top_of (triangle_of ix.mesh i)) ≡ true
      → lt a.height z ≡ true
      → ⊥

-- What `max_height` promises over the index built from its mesh: a good question is accepted, and an accepted one
-- meets demand 3.
pub record DiskPromise (ix : Index) (marks : List ℕ) (stamp : ℕ) (s : Sweep) (a : Answer) : Type 0 where
  pub accepted : GoodAccepted (is_sweep s) true ix marks stamp a.refusal
  pub demand3 : BuiltFrom ix → a.refusal ≡ 0
      → Demand3 ix (patch_for ix.header s) (capsule_for ix.header s)
      (looked_in ix marks stamp (patch_for ix.header s)) a
