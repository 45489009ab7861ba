use mathlib.Core.Logic.{inl, inr}
use mathlib.Core.Path.{refl, sym, subst}
use lib.Dec.{T}
use lib.Ieee.{div, is_nan, of_bits}
use Rattle.section.proofs.low.kept_if.Statement.{statement}
use Rattle.section.proofs.low.kept_if.Tie as tie

returns : tie.Need-returns-then-good
returns c = inr (c.if-good.true, refl, subst T (sym c.before.well_formed.0.1) tt)

returns-2 : tie.Need-returns-else-good
unfolding of_bits div is_nan
returns-2 c = inl refl

pub kept_if_spec : {M : Type 1} → statement M
kept_if_spec = tie.close (tie.spec returns returns-2)
