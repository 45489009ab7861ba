use mathlib.Core.Path.{refl}
use native.Mathlib.Omega.{arith}
use borrow.Author.Tests.{ne_eqb}
use Rattle.sheet.specs.Sheet.{shape_number, shape_from}
use Rattle.sheet.proofs.shape_from.Statement.{statement}
use Rattle.sheet.proofs.shape_from.Tie as tie

returns : tie.Need-returns-in-0
unfolding shape_number shape_from
returns c = rw c.in-0.is (refl, refl)

returns-2 : tie.Need-returns-in-1
unfolding shape_number shape_from
returns-2 c = rw c.in-1.is (refl, refl)

returns-3 : tie.Need-returns-in-2
unfolding shape_number shape_from
returns-3 c = rw c.in-2.is (refl, refl)

returns-4 : tie.Need-returns-in-3
unfolding shape_number shape_from
returns-4 c = rw c.in-3.is (refl, refl)

returns-5 : tie.Need-returns-in-4
unfolding shape_number shape_from
returns-5 c = rw c.in-4.is (refl, refl)

returns-6 : tie.Need-returns-in_default
unfolding shape_number shape_from
returns-6 c =
    let r = c.in_default.in_default-own.rest in (
      rw (ne_eqb _ 0 r.0.0.0.0.1, ne_eqb _ 1 r.0.0.0.1, ne_eqb _ 2 r.0.0.1, ne_eqb _ 3 r.0.1, ne_eqb _ 4 r.1),
      omega (arith, r.0.0.0.0.1, r.0.0.0.1, r.0.0.1, r.0.1, r.1),
    )

pub shape_from_spec : {M : Type 1} → statement M
shape_from_spec = tie.close (tie.spec returns returns-2 returns-3 returns-4 returns-5 returns-6)
