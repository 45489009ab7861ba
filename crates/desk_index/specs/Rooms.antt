-- The rooms as C reads them: the answer, and an array of two, starts and members.
use Rattle.std.specs.Prelude.{List, ℕ, get_or}
use Rattle.rooms.specs.Rooms.{Rooms}

abbrev pub rooms_from : ℕ → List ℕ → Rooms
rooms_from k ns = record { refusal = k; starts = get_or ns 0 0; members = get_or ns 1 0 }
