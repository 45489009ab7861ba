-- `sections::max_over` meets its contract: the part of the table that is passed is what the table holds.
use borrow.Author.Rules.{rules}
use native.Mathlib.Omega.{arith}
use lib.ListN.{length-take}
use Rattle.flatten.specs.Flat.{held_in}
use Rattle.sections.proofs.max_over.Statement.{statement}
use Rattle.sections.proofs.max_over.Tie as tie

array_share_prefix-numbers : tie.Need-slice_bounds-numbers-end
array_share_prefix-numbers c = c.before.before.before.before.before.before.before.requires

slice_aggregate-max_sections : tie.Need-slice_bounds-max_sections-end
slice_aggregate-max_sections c = simp length-take (omega (arith, c.before.before.before.before.before.before.before.before.requires))

returns : tie.Need-returns
unfolding held_in
returns c = c.before.before.max_sections.ensures.0

pub max_over_spec : {M : Type 1} → statement M
max_over_spec = tie.close (tie.spec array_share_prefix-numbers slice_aggregate-max_sections (λ c κs. tt) (λ c. search rules) returns)
