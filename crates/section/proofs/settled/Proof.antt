use mathlib.Core.Bool.{true}
use mathlib.Core.Logic.{inl, inr}
use mathlib.Core.Path.{◌≡◌, subst}
use lib.Ieee.{Float, le}
use Rattle.numbers.specs.Reals.{◌⊕◌}
use Rattle.rules.proofs.Branches.{no}
use Rattle.section.proofs.settled.Statement.{statement}
use Rattle.section.proofs.settled.Tie as tie

returns : tie.Need-returns-then-top-m
returns c =
    let a = c.before.before.before.before.args in
    λ e. (
      c.before.before.before.looks.ensures c.before.before.if-looks.true,
      inl (subst (λ (v : Float). le v a.m ≡ true) c.before.cap_on-top.ensures c.if-top-m.true),
    )

returns-2 : tie.Need-returns-then-looks
returns-2 c =
    let a = c.before.before.before.before.args in
    λ e. (
      c.before.before.before.looks.ensures c.before.before.if-looks.true,
      inr (subst (λ (v : Float). le (v ⊕ a.more) a.limit ≡ true) c.before.cap_on-top.ensures e),
    )

returns-3 : tie.Need-returns
returns-3 c = λ e. absurd (no e)

pub settled_spec : {M : Type 1} → statement M
settled_spec = tie.close (tie.spec (λ c κs. tt) (λ c κs. tt) returns returns-2 returns-3)
