-- `crests::crest_of` meets its contract: the highest so far caps the tops in front of the next.
use Rattle.crests.proofs.Capping.{Capped}
use Rattle.crests.proofs.crest_of.Given as goal

abbrev pub invariant-loop-i : goal.invariant-loop-i
invariant-loop-i l = Capped l.fn.boxes l.fn.part l.fn.crest l.i-index l.highest
