-- `sections::chord_over` meets its contract: the part of the table that is passed is what the table holds.
use borrow.Author.Rules.{rules}
use native.Mathlib.Omega.{arith}
use lib.ListN.{length-take}
use Rattle.flatten.specs.Flat.{held_in}
use Rattle.sections.proofs.chord_over.Statement.{statement}
use Rattle.sections.proofs.chord_over.Tie as tie

array_share_prefix-numbers : tie.Need-slice_bounds-numbers-end
array_share_prefix-numbers c = c.before.before.before.before.before.before.before.requires

slice_aggregate-sections_chord_clear : tie.Need-slice_bounds-sections_chord_clear-end
slice_aggregate-sections_chord_clear c = simp length-take (omega (arith, c.before.before.before.before.before.before.before.before.requires))

returns : tie.Need-returns
unfolding held_in
returns c = c.before.before.sections_chord_clear.ensures.0

pub chord_over_spec : {M : Type 1} → statement M
chord_over_spec = tie.close (tie.spec array_share_prefix-numbers slice_aggregate-sections_chord_clear (λ c κs. tt) (λ c. search rules) returns)
