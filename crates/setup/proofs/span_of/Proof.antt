use Prim.Native.Nat.{ℕ, ◌/◌}
use mathlib.Core.Path.{refl, ap}
use borrow.Author.Rules.{rules}
use borrow.Author.Tests.{lt-ltb}
use Rattle.rules.proofs.Branches.{taken}
use Rattle.setup.specs.Question.{span_of}
use Rattle.setup.proofs.Reaching.{span_none, span_some}
use Rattle.setup.proofs.span_of.Statement.{statement}
use Rattle.setup.proofs.span_of.Tie as tie

returns : tie.Need-returns-then-b-r
unfolding span_of
returns c = taken _ _ _ _ (lt-ltb _ _ c.if-b-r.true) refl

returns-2 : tie.Need-returns-then-count-first
returns-2 c =
    let d = c.before in
    span_none _ _ _ _ _ _ _ (ap (λ (x : ℕ). x / d.before.before.args.cell) d.beyond.ensures) d.before.if-b-r.false c.if-count-first.true

returns-3 : tie.Need-returns
returns-3 c =
    let d = c.before.before in
    span_some _ _ _ _ _ _ _ (ap (λ (x : ℕ). x / d.before.before.args.cell) d.beyond.ensures) d.before.if-b-r.false _
    c.one_past.ensures c.before.if-count-first.false

pub span_of_spec : {M : Type 1} → statement M
span_of_spec =
    tie.close
    (tie.spec (λ c. search rules) returns (λ c. search rules) (λ c κs. search rules) (λ c. search rules) returns-2 (λ c. search rules) (λ c. search rules)
    (λ c. search rules) (λ c κs. search rules) returns-3)
