-- What is left from a number on, rising from `low`, is as the whole.
use Rattle.std.proofs.Common.{◌≡◌, ℕ, drop}
use Rattle.checked.specs.Inside.{box_covers, rises_from}
use Rattle.checked.proofs.rises.Given as goal

abbrev pub invariant-loop-member : goal.invariant-loop-member
invariant-loop-member l =
    rises_from (λ (i : ℕ). box_covers l.boxes l.g i l.c) l.n l.low (drop l.member-index l.part) ≡ rises_from (λ (i : ℕ). box_covers l.boxes l.g i l.c) l.n 0 l.part
