-- One triangle of the walk: what it makes of the best so far, and that the numbers stay in range.
use mathlib.Core.List.{List}
use mathlib.Core.Path.{◌≡◌, ap, ◌∙◌, subst⁻¹}
use Prim.Native.Nat.{ℕ, ◌+◌, ◌<◌}
use native.Mathlib.Omega.{arith}
use lib.IntN.{ℤ}
use Rattle.rules.proofs.Branches.{either}
use Rattle.micro.specs.declared.Box.{Box}
use Rattle.micro.specs.Micro.{box_of}
use Rattle.setup.specs.declared.Reach.{Reach}
use Rattle.setup.specs.declared.Best.{Best}
use Rattle.setup.specs.declared.Seen.{Seen}
use Rattle.setup.specs.Question.{meets, taken, step_of}
use Rattle.setup.specs.Inside.{Sane}

abbrev next : Seen → Best → Seen
next s v = record { count = s.count + 1; height = v.height; met = v.met }

pub taken_sane : (w : Reach) (b : Box) (s : Seen) (r : Best) → Sane s → b.top < 4294967296
    → r ≡ taken w b (record { height = s.height; met = s.met }) → Sane (next s r)
unfolding taken
taken_sane w b s r k h e =
    subst⁻¹ (λ (v : Best). Sane (next s v)) e
    (either (λ (v : Best). Sane (next s v)) (meets w b) _ _
    (λ _. record { met = omega (arith, k.met); height = omega (arith, k.height, h) })
    (λ _. record { met = omega (arith, k.met); height = k.height }))

pub take_step : (mesh : List ℤ) (w : Reach) (i : ℕ) (v : Best) (b : Box) (r : Best) → b ≡ box_of mesh i → r ≡ taken w b v → r ≡ step_of mesh w v i
unfolding step_of
take_step mesh w i v b r p e = e ∙ ap (λ (x : Box). taken w x v) p
