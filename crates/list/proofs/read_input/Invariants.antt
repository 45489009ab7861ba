-- What was read so far stands within the buffer; what is left of the buffer gets shorter at each turn.
use Rattle.std.proofs.Common.{length, ◌-◌, ◌≤◌}
use Rattle.list.proofs.read_input.Given as goal

abbrev pub invariant-loop-done : goal.invariant-loop-done
invariant-loop-done l = l.done ≤ length l.buf

abbrev pub decreases-loop-done : goal.decreases-loop-done
decreases-loop-done l = length l.initial.buf - l.done
