use mathlib.Core.Path.{refl}
use Rattle.fields.proofs.Lengths.{none_whole, no_size, some_whole, all_whole}
use Rattle.fields.proofs.whole_in.Goals as goal

pub returns-then-length-head-clause-value : goal.returns-then-length-head-clause-value
returns-then-length-head-clause-value c = none_whole c.args.s _ c.if-length-head.true

pub returns-then-size-eq0-clause-value : goal.returns-then-size-eq0-clause-value
returns-then-size-eq0-clause-value c = no_size c.args.s _ c.if-size-eq0.true

pub returns-then-c-n-clause-value : goal.returns-then-c-n-clause-value
returns-then-c-n-clause-value c = some_whole c.args.s _ _ refl c.if-c-n.true

pub returns-clause-value : goal.returns-clause-value
returns-clause-value c = all_whole c.args.s _ _ refl c.if-c-n.false
