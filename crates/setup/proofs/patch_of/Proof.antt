use mathlib.Core.Path.{refl}
use Rattle.setup.specs.Question.{patch_of}
use Rattle.setup.proofs.patch_of.Statement.{statement}
use Rattle.setup.proofs.patch_of.Tie as tie

span_of-requires : tie.Need-span_of-x-requires
span_of-requires c κs = let p = c.requires in (p.0.left, p.0.right, p.0.by, p.1, p.3)

span_of-requires-2 : tie.Need-span_of-y-requires
span_of-requires-2 c κs = let p = c.before.requires in (p.0.bottom, p.0.top, p.0.by, p.2, p.3)

returns : tie.Need-returns
unfolding patch_of
returns c = rw (c.before.span_of-x.ensures, c.span_of-y.ensures) refl

pub patch_of_spec : {M : Type 1} → statement M
patch_of_spec =
    tie.close
    (tie.spec span_of-requires span_of-requires-2 returns)
