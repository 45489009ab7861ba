-- `chords::tool_ruling` meets its contract: blocked at once, or the walk over the cells.
use Rattle.std.proofs.Common.{refl, sym}
use Rattle.grid.specs.Index.{index_of}
use Rattle.walk.proofs.Marks.{all_tabled}
use Rattle.chords.proofs.Asking.{ended_is, ruled_early, ruled_chased, begins}
use Rattle.chords.proofs.tool_ruling.Goals as goal

pub returns-then-blocked_at_once : goal.returns-then-blocked_at_once
returns-then-blocked_at_once c = ended_is _ _ _ _ c.blocked.ensures (ruled_early _ _ _ _ _ _ (sym c.if-blocked_at_once.ensures))

pub chase-v-requires : goal.chase-v-requires
chase-v-requires c =
    let a = c.args in
    let r = begins (index_of a.mesh.now a.h a.starts.now a.members.now a.boxes.now) _ _ _ _ a.p c.next_stamp-next.ensures.1 c.requires in
    (r.1, r.2, all_tabled _ _ _ r.0 r.3)

pub returns : goal.returns
returns c =
    let x = c.next_stamp-next.ensures in
    ruled_chased _ _ _ _ _ _ _ _ _ _ _ (sym c.if-blocked_at_once.ensures) x.0 x.1 c.chase-v.ensures refl
