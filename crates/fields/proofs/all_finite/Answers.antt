use Rattle.std.proofs.Common.{rules}
use Rattle.fields.proofs.Tables.{tested}
use Rattle.fields.proofs.all_finite.Goals as goal

pub returns : goal.returns
returns c = tested _ _ (search rules)
