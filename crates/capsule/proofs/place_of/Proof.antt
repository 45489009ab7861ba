use borrow.Author.Rules.{rules}
use Rattle.capsule.proofs.Extremes.{at_end, at_tangent, at_flank, at_flank_level}
use Rattle.capsule.proofs.place_of.Statement.{statement}
use Rattle.capsule.proofs.place_of.Tie as tie

returns : tie.Need-returns-then-i-lt2
returns c = at_end _ _ _ _ c.before.if-i-lt2.true c.end_of.ensures

returns-2 : tie.Need-returns-then-i-lt4
returns-2 c = at_tangent _ _ _ _ c.before.before.if-h.true (search rules) c.before.if-i-lt4.true c.tangent_of.ensures

returns-3 : tie.Need-returns-then-h
returns-3 c = at_flank _ _ _ _ c.before.before.if-h.true (search rules) c.flank_of.ensures

returns-4 : tie.Need-returns
returns-4 c = at_flank_level _ _ _ _ c.before.if-h.false (search rules) c.flank_of-2.ensures

pub place_of_spec : {M : Type 1} → statement M
place_of_spec = tie.close (tie.spec (λ c κs. tt) returns (λ c κs. tt) returns-2 (λ c κs. tt) returns-3 (λ c κs. tt) returns-4)
