-- `spans::far` meets its contract.
use Rattle.std.proofs.Common.{◌≡◌, true}
use mathlib.Core.Path.{subst⁻¹}
use lib.Ieee.{Float}
use Rattle.spans.specs.Mesh.{farther}
use Rattle.spans.specs.Inside.{not_negative}
use Rattle.spans.proofs.Plain.{not_negative_more}
use Rattle.spans.proofs.far.Statement.{statement}
use Rattle.spans.proofs.far.Tie as tie

beyond-requires-2 : tie.Need-beyond-requires-2
beyond-requires-2 c κs =
    let s = c.before in
    (subst⁻¹ (λ (v : Float). not_negative v ≡ true) c.beyond.ensures (not_negative_more _ _ s.requires.0 s.requires.1), s.requires.2)

beyond-requires-3 : tie.Need-beyond-requires-3
beyond-requires-3 c κs =
    let s = c.before.before in (
      subst⁻¹ (λ (v : Float). not_negative v ≡ true) c.beyond-2.ensures
          (not_negative_more _ _ (beyond-requires-2 c.before c.beyond-2.lifetimes).0 s.requires.2),
      s.requires.3,
    )

returns : tie.Need-returns
unfolding farther
returns c = rw (c.beyond-3.ensures, c.before.beyond-2.ensures, c.before.before.beyond.ensures)

pub far_spec : {M : Type 1} → statement M
far_spec = tie.close (tie.spec (λ c κs. (c.requires.0, c.requires.1)) beyond-requires-2 beyond-requires-3 returns)
