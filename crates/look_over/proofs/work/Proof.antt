use borrow.Author.Rules.{rules}
use lib.ListN.{length}
use Rattle.look_over.proofs.Looking.{wiped_marked, wiped_again}
use Rattle.look_over.proofs.work.Statement.{statement}
use Rattle.look_over.proofs.work.Tie as tie

first_bad-requires : tie.Need-first_bad-v-requires
first_bad-requires c κs =
    let s = c.before.before.before.before.before.before.before.before.before.before.before.before in
    (s.requires.0, s.requires.1, wiped_marked _ s.args.marks.now _ s.requires.2 c.before.before.before.wipe.ensures)

returns : tie.Need-returns
returns c =
    let f = c.before.before.before.before.before.before.first_bad-v.ensures in (
      f.0,
      wiped_again (length c.before.before.before.before.before.before.before.before.before.before.before.before.before.before.before.before.before.before.before.args.marks.now) _ _ _
          c.before.before.before.before.before.before.before.before.before.before.wipe.ensures f.1 c.before.before.wipe-2.ensures,
    )

pub work_spec : {M : Type 1} → statement M
work_spec = tie.close (tie.spec (λ c κs. tt) first_bad-requires (λ c κs. tt) (λ c. search rules) returns)
