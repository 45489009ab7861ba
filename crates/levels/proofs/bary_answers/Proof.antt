use Rattle.levels.specs.Flats.{answers}
use mathlib.Core.Path.{sym, ap, ◌∙◌}
use borrow.Author.Rules.{rules}
use Rattle.levels.proofs.bary_answers.Statement.{statement}
use Rattle.levels.proofs.bary_answers.Tie as tie
use Rattle.levels.proofs.bary_answers.Reads as reads
use Rattle.levels.proofs.bary_answers.Lts as lts
use Rattle.plane.proofs.bary.Reads as bary-reads

bary-requires : tie.Need-bary-requires
bary-requires c κs = search rules

enum_told : tie.Need-enum_told-1
enum_told c = search rules

enum_told-2 : tie.Need-enum_told-in-Some
enum_told-2 c = search rules

returns : tie.Need-returns-in-None
unfolding answers
returns c = ap answers (sym c.in-None.is ∙ c.before.bary.ensures)

returns-2 : tie.Need-returns-in-Some
unfolding answers
returns-2 c = ap answers (sym c.in-Some.is ∙ c.before.bary.ensures)

pub bary_answers_spec : {M : Type 1} → statement M
bary_answers_spec = tie.close (tie.spec bary-requires enum_told enum_told-2 returns returns-2)
