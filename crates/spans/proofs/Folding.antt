-- Extremes and scale, triangle by triangle.
use Rattle.std.proofs.Common.{◌≡◌, ℕ, ◌+◌, List, refl, add-one}
use lib.Ieee.{Float, of_bits, div, neg}
use Rattle.numbers.specs.Reals.{◌⊘◌, f0, f1, max_of}
use Rattle.plane.specs.Mesh.{triangle_of}
use Rattle.plane.specs.declared.Triangle.{Triangle}
use Rattle.plane.specs.declared.Bounds.{Bounds}
use Rattle.spans.specs.Mesh.{box_of, widened, extent_of, farthest_of, scale_of}
use Rattle.spans.specs.declared.Extent.{Extent}

module _ (mesh : List Float) where
  pub extent_none : record { left = f1 ⊘ f0; bottom = f1 ⊘ f0; right = neg f1 ⊘ f0; top = neg f1 ⊘ f0 } ≡ extent_of mesh 0
  unfolding extent_of of_bits div neg
  extent_none = refl

  pub extent_more : (i : ℕ) (e w : Extent) (b : Bounds) → e ≡ extent_of mesh i → b ≡ box_of mesh i → w ≡ widened e b → w ≡ extent_of mesh (i + 1)
  unfolding extent_of
  extent_more i e w b p q h = rw (add-one i, ← p, ← q) h

  pub scale_none : f1 ≡ scale_of mesh 0
  unfolding scale_of
  scale_none = refl

  pub scale_more : (i : ℕ) (s d w : Float) (t : Triangle) → s ≡ scale_of mesh i → t ≡ triangle_of mesh i → d ≡ farthest_of t → w ≡ max_of s d
      → w ≡ scale_of mesh (i + 1)
  unfolding scale_of
  scale_more i s d w t p q f h = rw (add-one i, ← p, ← q, ← f) h
