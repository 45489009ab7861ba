use Rattle.rows.specs.Lanes.{parts_of}
use Rattle.std.proofs.Common.{◌∙◌, rules}
use Rattle.rows.proofs.parts.Statement.{statement}
use Rattle.rows.proofs.parts.Tie as tie
use Rattle.rows.proofs.parts.Reads as reads
use Rattle.rows.proofs.parts.Lts as lts
use Rattle.numbers.proofs.max.Reads as max-reads
use Rattle.numbers.proofs.round_up.Reads as round-up-reads
use Rattle.numbers.proofs.cut.Reads as cut-reads

round_up-requires : tie.Need-round_up-requires
round_up-requires c κs = search rules

max-requires : tie.Need-max-requires
max-requires c κs = search rules

cut-requires : tie.Need-cut-requires
cut-requires c κs = search rules

returns : tie.Need-returns
unfolding parts_of
returns c = c.cut.ensures ∙ (rw (c.before.max.ensures, c.before.before.round_up.ensures))

pub parts_spec : {M : Type 1} → statement M
parts_spec = tie.close (tie.spec round_up-requires max-requires cut-requires returns)
