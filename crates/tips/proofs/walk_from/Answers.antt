-- A walk that was raised found what the walk from the floor finds, and else that is walked.
use Rattle.std.proofs.Common.{sym, subst}
use lib.Dec.{T}
use Rattle.tips.proofs.Again.{left_besides}
use Rattle.tips.proofs.Walking.{visits, tables_again, raised_from}
use Rattle.tips.proofs.walk_from.Goals as goal

pub visit-s-requires : goal.visit-s-requires
visit-s-requires c = visits _ _ _ _ _ _ _ c.requires.0.tables _ _ _ c.begun.ensures

pub returns-then-s-ne0 : goal.returns-then-s-ne0
returns-then-s-ne0 c =
    raised_from _ _ _ c.requires.1 (subst T (sym c.well_formed.1.1.1.1.1.1.1.1.0.1.1.1.1.1.0.1) tt) _ _ _ _ _ _ _ _
    c.begun.ensures c.if-s-ne0.true c.visit-s.ensures.0

pub walk_back-requires : goal.walk_back-requires
walk_back-requires c = tables_again _ _ _ _ _ _ _ c.requires.0.tables _ (left_besides _ _ _ _ _ _ _ c.visit-s.ensures.0).size

pub returns : goal.returns
returns c = c.walk_back.ensures _ c.requires.0.fresh (left_besides _ _ _ _ _ _ _ c.visit-s.ensures.0)
