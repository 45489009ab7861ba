-- `mandrikelo_rooms`: the rooms, or a refusal's number and zeros.
use Rattle.std.proofs.Common.{rules, ◌≡◌, ℕ, [], ◌∷◌}
use mathlib.Core.Path.{subst⁻¹}
use Rattle.rooms.specs.Rooms.{told, no_rooms, rooms_of, RoomsPromise}
use Rattle.desk_index.specs.Rooms.{rooms_from}
use Rattle.desk_index.proofs.mandrikelo_rooms.Goals as goal

pub returns-in-Ok-clause-rooms_after : goal.returns-in-Ok-clause-rooms_after
unfolding told
returns-in-Ok-clause-rooms_after c = c.in-Ok.ensures.value

pub returns-in-Ok-clause-rooms_promise : goal.returns-in-Ok-clause-rooms_promise
unfolding told
returns-in-Ok-clause-rooms_promise c = c.in-Ok.ensures.rooms_promise

pub returns-in-Err-clause-rooms_after : goal.returns-in-Err-clause-rooms_after
unfolding told no_rooms
returns-in-Err-clause-rooms_after c =
    subst⁻¹ (λ (k : ℕ). rooms_from k (0 ∷ 0 ∷ []) ≡ rooms_of c.args.mesh.now c.args.floor c.args.r) c.number.ensures c.in-Err.ensures.value

pub returns-in-Err-clause-rooms_promise : goal.returns-in-Err-clause-rooms_promise
unfolding told no_rooms
returns-in-Err-clause-rooms_promise c =
    subst⁻¹ (λ (k : ℕ). RoomsPromise c.args.mesh.now c.args.floor c.args.r (rooms_from k (0 ∷ 0 ∷ []))) c.number.ensures c.in-Err.ensures.rooms_promise
