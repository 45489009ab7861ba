-- The walk that guesses leaves marks over which the next walk does what it does over those before.
use Rattle.rules.proofs.Branches.{bool_called}
use Rattle.tips.proofs.Again.{besides_own, left_besides, left_fresh, walked_again}
use Rattle.tips.proofs.Walking.{visits, tables_again, walks_again}
use Rattle.tips.proofs.walk_nose.Goals as goal

pub visit-s-requires : goal.visit-s-requires
visit-s-requires c = visits _ _ _ _ _ _ _ c.requires.tables _ _ _ c.begun.ensures

pub walk_from-requires : goal.walk_from-requires
walk_from-requires c =
    let v = c.visit-s.ensures.0 in (
      record {
        tables = tables_again _ _ _ _ _ _ _ c.requires.tables _ (left_besides _ _ _ _ _ _ _ v).size;
        fresh = left_fresh _ _ c.other_than-other.ensures _ _ c.requires.fresh _ _ (besides_own _ _) _ _ v;
      },
      bool_called _ _ _ c.may_begin.ensures c.if-may_begin.true,
    )

pub returns-then-may_begin : goal.returns-then-may_begin
returns-then-may_begin c =
    walked_again _ _ c.other_than-other.ensures _ _ c.requires.fresh _ _ (besides_own _ _) _ _ c.visit-s.ensures.0 _ _ _ c.walk_from.ensures

pub visit-requires : goal.visit-requires
visit-requires c =
    visits _ _ _ _ _ _ _ (tables_again _ _ _ _ _ _ _ c.requires.tables _ (left_besides _ _ _ _ _ _ _ c.visit-s.ensures.0).size) _ _ _ c.begun-2.ensures

pub returns : goal.returns
returns c =
    walks_again _ _ c.other_than-other.ensures _ _ c.requires.fresh _ _ _ (besides_own _ _) _ _ c.visit-s.ensures.0 _ _ _
    c.begun-2.ensures _ _ c.visit.ensures.0
