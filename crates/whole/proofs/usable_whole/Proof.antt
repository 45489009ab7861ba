use mathlib.Core.Path.{sym, ◌∙◌}
use native.Mathlib.Omega.{arith}
use Rattle.rules.proofs.Branches.{branches, bool_called}
use Rattle.header.proofs.Ranges.{Headed, headed_is}
use Rattle.query.specs.Usable.{usable_whole}
use Rattle.whole.proofs.usable_whole.Statement.{statement}
use Rattle.whole.proofs.usable_whole.Tie as tie

headed : (c : tie.Then-head_usable) → let s = c.before.before.before.before.before.before.args in Headed s.mesh.now s.h s.starts.now
headed c = headed_is _ _ _ (sym c.before.head_usable.ensures ∙ c.if-head_usable.true)

returns : tie.Need-returns-then-triangles_usable
unfolding usable_whole
returns c = search (branches, bool_called)

returns-2 : tie.Need-returns-else-triangles_usable
unfolding usable_whole
returns-2 c = search (branches, bool_called)

returns-3 : tie.Need-returns-else-head_usable
unfolding usable_whole
returns-3 c = search (branches, bool_called)

pub usable_whole_spec : {M : Type 1} → statement M
usable_whole_spec = tie.close
    (tie.spec (λ c κs. tt) (λ c κs. ((headed c).nine, omega (arith, (headed c).nine, c.before.before.before.before.before.before.requires)))
    (λ c. omega (arith, (headed c.before.before).ranged)) (λ c κs. omega (arith, (headed c.before.before).room)) returns returns-2 returns-3)
