use Rattle.desk_moves.proofs.Laid.{phase_high, phase_fits}
use Rattle.desk_moves.proofs.next_from.Goals as goal

pub returns-then-state-gt7 : goal.returns-then-state-gt7
returns-then-state-gt7 c = phase_high _ _ _ _ _ c.state_from-s.ensures c.if-state-gt7.true _ c.refusal_of_phase.ensures

pub returns : goal.returns
returns c = phase_fits _ _ _ _ _ c.state_from-s.ensures c.if-state-gt7.false _ c.heights_from.ensures _ c.next.ensures
