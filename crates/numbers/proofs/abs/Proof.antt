-- `numbers::abs` meets its contract: the law is `magnitude` (`Magnitude.antt`).
use Rattle.std.proofs.Common.{T, sym, refl, ◌∙◌, subst}
use lib.Ieee.{lt}
use Rattle.numbers.specs.Reals.{◌⊖◌, f0}
use Rattle.rules.proofs.Branches.{taken, left}
use Rattle.numbers.proofs.Magnitude.{magnitude}
use Rattle.numbers.proofs.abs.Statement.{statement}
use Rattle.numbers.proofs.abs.Tie as tie

returns : tie.Need-returns-then-y-x
returns c =
    let a = c.before in
    let x = a.args.x in
    taken (lt (f0 ⊖ x) x) x x (f0 ⊖ x) c.if-y-x.true refl ∙ magnitude x (subst T (sym a.well_formed.0.1) tt)

returns-2 : tie.Need-returns-else-y-x
returns-2 c =
    let a = c.before in
    let x = a.args.x in
    left (lt (f0 ⊖ x) x) (f0 ⊖ x) x (f0 ⊖ x) c.if-y-x.false refl ∙ magnitude x (subst T (sym a.well_formed.0.1) tt)

pub abs_spec : {M : Type 1} → statement M
abs_spec = tie.close (tie.spec returns returns-2)
