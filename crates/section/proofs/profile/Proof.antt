use Rattle.rules.proofs.Branches.{branches}
use Rattle.section.specs.Section.{profile_of}
use Rattle.section.proofs.profile.Statement.{statement}
use Rattle.section.proofs.profile.Tie as tie

returns : tie.Need-returns-then-d-s
unfolding profile_of
returns c = search branches

returns-2 : tie.Need-returns-then-d-s-2
unfolding profile_of
returns-2 c = search branches

returns-3 : tie.Need-returns
unfolding profile_of
returns-3 c = search branches

pub profile_spec : {M : Type 1} → statement M
profile_spec = tie.close (tie.spec returns returns-2 returns-3)
