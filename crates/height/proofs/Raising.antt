-- One triangle of the walk, arm by arm.
use Rattle.std.specs.Prelude.{Option}
use mathlib.Core.Bool.{true, false}
use mathlib.Core.List.{List}
use mathlib.Core.Path.{◌≡◌, refl, ap, sym, ◌∙◌}
use Prim.Native.Nat.{ℕ}
use lib.Ieee.{Float, le}
use Rattle.rules.proofs.Branches.{taken, left}
use Rattle.plane.specs.declared.Triangle.{Triangle}
use Rattle.plane.specs.declared.Bounds.{Bounds}
use Rattle.plane.specs.declared.Contact.{Contact}
use Rattle.plane.specs.Mesh.{triangle_of}
use Rattle.capsule.specs.Candidates.{highest_in}
use Rattle.capsule.specs.declared.Capsule.{Capsule}
use Rattle.plane.specs.declared.Best.{Best}
use Rattle.grid.specs.Boxes.{box_at}
use Rattle.capsule.specs.Inside.{on_top}
use Rattle.plane.specs.Contacts.{raised_by}
use Rattle.above.proofs.Beside.{raised_beside}
use Rattle.height.specs.Sweep.{height_of, disk_step}

module _ (mesh boxes : List Float) (q : Capsule) (best : Best) (i : ℕ) (b : Bounds) (a : b ≡ box_at boxes i) where
  test_is : le (box_at boxes i).top best.height ≡ le b.top best.height
  test_is = ap (λ (u : Bounds). le u.top best.height) (sym a)

  pub raise_skips : le b.top best.height ≡ true → best ≡ disk_step mesh boxes q best i
  unfolding disk_step
  raise_skips e = taken _ _ _ _ (test_is ∙ e) refl

  pub raise_takes : le b.top best.height ≡ false → (t : Triangle) (k : Option Contact) (v : Best) → t ≡ triangle_of mesh i
      → k ≡ on_top best.height (highest_in q t) → v ≡ raised_by k i best → v ≡ disk_step mesh boxes q best i
  unfolding disk_step height_of
  raise_takes e t k v f c d =
      left _ _ _ _ (test_is ∙ e)
      (d ∙ (ap (λ (u : Option Contact). raised_by u i best) c ∙ (raised_beside (highest_in q t) i best ∙ ap (λ (u : Triangle). raised_by (highest_in q u) i best) f)))
