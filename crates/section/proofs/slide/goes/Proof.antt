use Rattle.rules.proofs.Branches.{branches}
use Rattle.section.specs.Inside.{goes_of}
use Rattle.section.proofs.slide.goes.Statement.{statement}
use Rattle.section.proofs.slide.goes.Tie as tie

returns : tie.Need-returns-then-left
unfolding goes_of
returns c = search branches

returns-2 : tie.Need-returns
unfolding goes_of
returns-2 c = search branches

pub goes_spec : {M : Type 1} → statement M
goes_spec = tie.close (tie.spec returns returns-2)
