use Rattle.desk_moves.proofs.Laid.{begin_held, begin_laid}
use Rattle.moves.specs.Begin.{told}
use Rattle.desk_moves.proofs.mandrikelo_moves_begin.Goals as goal

pub returns-in-Ok : goal.returns-in-Ok
unfolding told
returns-in-Ok c =
    let q = c.in-Ok.ensures in
    let (v, f) = begin_laid _ _ _ _ _ c.heights_from.ensures _ _ c.point_from.ensures _ c.in-Ok.s q.value q.followed _ c.phase_number-number.ensures in
    record { state_after = v; followed = f }

pub returns-in-Err : goal.returns-in-Err
returns-in-Err c =
    let (v, f) = begin_held _ _ _ _ _ c.heights_from.ensures _ _ c.point_from.ensures _ c.in-Err.refusal c.in-Err.ensures.value _ c.number.ensures in
    record { state_after = v; followed = f }
