use Rattle.paths.proofs.Ladder.{exactly}
use Rattle.paths.proofs.Apart.{never_a_part}
use Rattle.paths.proofs.refusal.Goals as goal

pub returns-clause-sound_exactly : goal.returns-clause-sound_exactly
returns-clause-sound_exactly c = exactly _ _ c.refusal_of_head.ensures.value

pub returns-clause-never_taken_for_apart : goal.returns-clause-never_taken_for_apart
returns-clause-never_taken_for_apart c = never_a_part _ _ c.refusal_of_head.ensures.value
