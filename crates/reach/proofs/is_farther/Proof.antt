use borrow.Author.Rules.{rules}
use mathlib.Core.Path.{subst, sym}
use lib.Dec.{T}
use Rattle.reach.proofs.Apart.{not_farther, farther}
use Rattle.reach.proofs.is_farther.Statement.{statement}
use Rattle.reach.proofs.is_farther.Tie as tie

returns : tie.Need-returns-then-p
returns c =
    let s = c.before.before in
    not_farther s.args.p s.args.q (subst T (sym s.well_formed.0.1) tt) (subst T (sym s.well_formed.1.0.1) tt) c.before.if-p-q.true c.if-p.true

returns-3 : tie.Need-returns-then-q-p
returns-3 c =
    let s = c.before.before.before in
    farther s.args.p s.args.q (subst T (sym s.well_formed.0.1) tt) (subst T (sym s.well_formed.1.0.1) tt)
    c.before.before.if-p-q.false c.before.if-q.true c.if-q-p.true

pub is_farther_spec : {M : Type 1} → statement M
is_farther_spec = tie.close (tie.spec returns (λ c κs. tt) (λ c. search rules) returns-3 (λ c κs. tt) (λ c. search rules))
