-- `numbers::total_less` meets its contract: four tests in the definition's order, and last the two sign bits (`SignBit.antt`).
use Rattle.std.proofs.Common.{T, sym, subst}
use Rattle.numbers.specs.Order.{total_less}
use Rattle.rules.proofs.Branches.{branches, left}
use Rattle.numbers.proofs.Patterns.{no_nan}
use Rattle.numbers.proofs.SignBit.{signs_less}
use Rattle.numbers.proofs.total_less.Statement.{statement}
use Rattle.numbers.proofs.total_less.Tie as tie

returns : tie.Need-returns-then-x-y
unfolding total_less
returns c = search branches

returns-2 : tie.Need-returns-then-y-x
unfolding total_less
returns-2 c = search branches

returns-3 : tie.Need-returns-then-x
unfolding total_less
returns-3 c = search branches

returns-4 : tie.Need-returns-then-y
unfolding total_less
returns-4 c = search branches

no-nan-x : tie.Need-float_to_bits-result
no-nan-x c = no_nan c.before.before.before.before.args.x c.before.if-x.false

no-nan-y : tie.Need-float_to_bits-result-2
no-nan-y c = no_nan c.before.before.before.before.args.y c.if-y.false

returns-5 : tie.Need-returns
unfolding total_less
returns-5 c =
    let a = c.before.before.before.before in
    let signs = signs_less a.args.x a.args.y (subst T (sym a.well_formed.0.1) tt) (subst T (sym a.well_formed.1.0.1) tt) (no-nan-x c) (no-nan-y c) in
    search (branches, signs)

pub total_less_spec : {M : Type 1} → statement M
total_less_spec = tie.close (tie.spec returns returns-2 returns-3 returns-4 no-nan-x no-nan-y returns-5)
