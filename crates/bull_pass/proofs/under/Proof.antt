use Rattle.rules.proofs.Branches.{flags}
use Rattle.bull_pass.specs.Inside.{under_of}
use Rattle.bull_pass.proofs.under.Statement.{statement}
use Rattle.bull_pass.proofs.under.Tie as tie

returns : tie.Need-returns-then-not-tame
unfolding under_of
returns c = search flags

returns-2 : tie.Need-returns-then-z-high
unfolding under_of
returns-2 c = search flags

returns-3 : tie.Need-returns
unfolding under_of
returns-3 c = search flags

pub under_spec : {M : Type 1} → statement M
under_spec = tie.close (tie.spec (λ c κs. tt) returns returns-2 (λ c κs. tt) returns-3)
