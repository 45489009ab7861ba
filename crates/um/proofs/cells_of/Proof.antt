use mathlib.Core.Path.{subst⁻¹}
use borrow.Author.Rules.{rules}
use Rattle.micro.specs.declared.Box.{Box}
use Rattle.um.specs.Inside.{Above}
use Rattle.um.proofs.Gridding.{cells_are}
use Rattle.um.proofs.cells_of.Statement.{statement}
use Rattle.um.proofs.cells_of.Tie as tie

stretch_of-requires : tie.Need-stretch_of-x-requires
stretch_of-requires c κs =
    let s = c.before in
    let b = subst⁻¹ (λ (v : Box). Above s.args.g v) c.box_of-b.ensures.0 s.requires.4 in
    (b.left, b.right, s.requires.3, s.requires.1)

stretch_of-requires-2 : tie.Need-stretch_of-y-requires
stretch_of-requires-2 c κs =
    let s = c.before.before in
    let b = subst⁻¹ (λ (v : Box). Above s.args.g v) c.before.box_of-b.ensures.0 s.requires.4 in
    (b.bottom, b.top, s.requires.3, s.requires.2)

returns : tie.Need-returns
returns c = cells_are _ _ _ _ _ _ c.before.before.box_of-b.ensures.0 c.before.stretch_of-x.ensures c.stretch_of-y.ensures

pub cells_of_spec : {M : Type 1} → statement M
cells_of_spec =
    tie.close
    (tie.spec (λ c κs. search rules) stretch_of-requires stretch_of-requires-2 returns)
