-- `probe::ask` meets its contract: the walk's value is that with wiped marks, and no mark is above its stamp.
use mathlib.Core.Path.{◌∙◌}
use native.Mathlib.Omega.{arith}
use borrow.Author.Rules.{rules}
use Rattle.grid.specs.Index.{index_of}
use Rattle.query.proofs.Patches.{patch_inside}
use Rattle.probe.proofs.Asking.{passed_decides}
use Rattle.probe.proofs.ask.Statement.{statement}
use Rattle.probe.proofs.ask.Tie as tie

swept_until-requires : tie.Need-swept_until-s-requires
swept_until-requires c κs =
    let s = c.before.before.before.before.before.before.before in
    let q = s.requires.0 in
    let m = s.requires.1 in
    let i = patch_inside s.args.h s.args.r.ax s.args.r.ay s.args.r.bx s.args.r.by s.args.h.r in (
      omega (arith, q.nine, m.size),
      omega (arith, q.five, m.size),
      omega (arith, q.few, m.size),
      rw m.size (q.walkable _ _ _ _ i.0 i.1),
      s.requires.2,
      m.below,
    )

returns : tie.Need-returns
returns c =
    let s = c.before.before.before.before.before.before.before.before.before.before.before in
    let ix = index_of s.args.mesh.now s.args.h s.args.starts.now s.args.members.now s.args.boxes.now in
    let e = c.before.before.before.swept_until-s.ensures in
    (passed_decides ix s.args.r _ _ e.0, record { size = e.1 ∙ s.requires.1.size; below = e.2 })

pub ask_spec : {M : Type 1} → statement M
ask_spec = tie.close (tie.spec swept_until-requires (λ c. search rules) returns)
