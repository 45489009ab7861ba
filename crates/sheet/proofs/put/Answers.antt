use Rattle.std.proofs.Common.{arith}
use Rattle.sheet.proofs.Lists.{none_put, one_long, one_put}
use Rattle.sheet.proofs.put.Goals as goal

pub store-requires : goal.store-requires
store-requires c = omega (arith, one_long _ _ c.in-Some.is)

pub returns-in-None : goal.returns-in-None
returns-in-None c = none_put _ _ _ c.in-None.is

pub returns-in-Some : goal.returns-in-Some
returns-in-Some c = one_put _ _ _ _ _ c.in-Some.is c.store.ensures
