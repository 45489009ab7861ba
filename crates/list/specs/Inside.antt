-- What reading the input promises: the bytes that it counts stand within the buffer.
use Rattle.std.specs.Prelude.{ℕ, ◌≤◌, Result, IfOk}

abbrev pub Within : {E : Type 0} → Result ℕ E → ℕ → Type 0
Within r room = IfOk r (λ n. n ≤ room)
