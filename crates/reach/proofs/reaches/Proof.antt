use borrow.Author.Rules.{rules}
use mathlib.Core.Path.{sym, ap, ◌∙◌}
use lib.Ieee.{Float, le}
use Rattle.roots.specs.Root.{root_of}
use Rattle.reach.proofs.Squares.{apart_root}
use Rattle.reach.proofs.reaches.Statement.{statement}
use Rattle.reach.proofs.reaches.Tie as tie

returns : tie.Need-returns
returns c =
    let a = c.before.before.args in
    c.is_within.ensures
    ∙ ap (λ (w : Float). le w a.k.r) (ap root_of c.before.square_at.ensures ∙ sym (apart_root a.t a.m a.s))

pub reaches_spec : {M : Type 1} → statement M
reaches_spec = tie.close (tie.spec (λ c κs. tt) (λ c κs. search rules) returns)
