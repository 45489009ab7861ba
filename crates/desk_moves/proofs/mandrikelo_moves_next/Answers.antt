use Rattle.desk_moves.proofs.Laid.{next_held, next_laid}
use Rattle.desk_moves.proofs.mandrikelo_moves_next.Goals as goal

pub returns-in-Ok : goal.returns-in-Ok
returns-in-Ok c =
    next_laid _ _ _ _ c.in-Ok.stepped c.in-Ok.ensures _ _ _ c.end_of-e.ensures c.kind_of-kind.ensures c.id_of-id.ensures _ c.phase_number-number.ensures

pub returns-in-Err : goal.returns-in-Err
returns-in-Err c = next_held _ _ _ _ c.in-Err.refusal c.in-Err.ensures _ c.number.ensures
