use borrow.Author.Rules.{rules}
use mathlib.Core.Path.{◌∙◌}
use Rattle.height.specs.Sweep.{sweep_walk}
use Rattle.height.proofs.swept_height.Statement.{statement}
use Rattle.height.proofs.swept_height.Tie as tie

sweep_in-requires : tie.Need-sweep_in-requires
sweep_in-requires c κs =
    let s = c.before.before.before.before.before.before.before.before in
    (s.requires.0, s.requires.1, rw c.before.before.patch_of-p.ensures s.requires.2, s.requires.3)

returns : tie.Need-returns
unfolding sweep_walk
returns c =
    let d = c.before.before in
    (d.sweep_in.ensures.0 ∙ (rw (d.before.capsule_of.ensures, d.before.before.before.patch_of-p.ensures)), d.sweep_in.ensures.1)

pub swept_height_spec : {M : Type 1} → statement M
swept_height_spec = tie.close (tie.spec (λ c κs. tt) (λ c κs. tt) sweep_in-requires (λ c. search rules) returns)
