use mathlib.Core.Path.{ap, sym, ◌∙◌}
use borrow.Author.Rules.{rules}
use Rattle.grid.specs.Index.{index_of}
use Rattle.look_over.specs.Look.{fault_by}
use Rattle.look_over.proofs.try_move.Statement.{statement}
use Rattle.look_over.proofs.try_move.Tie as tie

rapid-requires : tie.Need-rapid-requires
rapid-requires c κs = c.before.before.before.before.before.before.before.before.requires

cut-requires : tie.Need-cut-requires
cut-requires c κs =
    let s = c.before.before.before.before.before.before.before.before in
    (s.requires.0.0.indexed, s.requires.0.1, s.requires.0.2)

returns : tie.Need-returns-in-Rapid
unfolding fault_by
returns c =
    let s = c.before.before.before.before.before.before.before.before.before.before.before in
    let t = c.before.before.rapid.ensures in (
      t.0 ∙ ap (fault_by (index_of s.args.mesh.now s.args.h s.args.starts.now s.args.members.now s.args.boxes.now) s.args.table.now
          s.args.tolerance s.args.m) (sym c.before.before.before.before.in-Rapid.is),
      t.1,
    )

returns-2 : tie.Need-returns-in-Cut
unfolding fault_by
returns-2 c =
    let s = c.before.before.before.before.before.before.before.before.before.before.before in
    let t = c.before.before.cut.ensures in (
      t.0 ∙ ap (fault_by (index_of s.args.mesh.now s.args.h s.args.starts.now s.args.members.now s.args.boxes.now) s.args.table.now
          s.args.tolerance s.args.m) (sym c.before.before.before.before.in-Cut.is),
      t.1,
    )

pub try_move_spec : {M : Type 1} → statement M
try_move_spec = tie.close
    (tie.spec (λ c. search rules) rapid-requires (λ c. search rules) cut-requires (λ c. search rules) returns (λ c. search rules) returns-2)
