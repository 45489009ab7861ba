use mathlib.Core.Path.{ap, ◌∙◌}
use borrow.Author.Rules.{rules}
use lib.ListN.{length}
use Rattle.walk.proofs.Marks.{ready_length}
use Rattle.query.proofs.Patches.{patch_inside}
use Rattle.crests.proofs.Passing.{pass_ready}
use Rattle.crests.proofs.swept_until.Statement.{statement}
use Rattle.crests.proofs.swept_until.Tie as tie

pass-requires : tie.Need-pass-found-requires
pass-requires c κs =
    let s = c.before.before.before.before.before.before.before.before.before.before.before.before.before in
    let n = c.before.before.before.next_stamp-next in
    let p = c.before.before.before.before.before.before.patch_of-p.ensures in
    let i = patch_inside s.args.h s.args.px s.args.py s.args.qx s.args.qy s.args.r in
    let r = pass_ready _ _ _ _ _ _ _ _ _ _ _ _ _ _ _ n.ensures.1 n.ensures.0 s.requires.0 s.requires.1 s.requires.2 s.requires.3 s.requires.5 in
    (r.0, r.1, rw p r.2, s.requires.4, rw p i.0, rw p i.1, r.3, r.4)

returns : tie.Need-returns
returns c =
    let e = c.before.before.before.pass-found.ensures in
    let n = c.before.before.before.before.before.before.before.next_stamp-next.ensures in (
      rw (
        ← c.before.before.before.before.before.before.before.before.before.capsule_of-q.ensures,
        ← c.before.before.before.before.before.before.before.before.before.before.patch_of-p.ensures,
      ) e.0,
      e.1
          ∙ (ap length n.1 ∙ ready_length _ _),
      e.2,
    )

pub swept_until_spec : {M : Type 1} → statement M
swept_until_spec = tie.close (tie.spec (λ c κs. tt) (λ c κs. tt) (λ c κs. tt) pass-requires (λ c. search rules) returns)
