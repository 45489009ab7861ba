-- The marks that the first walk leaves are the ones asked about, but for triangles that the second looks at.
use Rattle.tips.proofs.Again.{left_besides}
use Rattle.tips.proofs.Walking.{visits, tables_again, walks_again}
use Rattle.tips.proofs.walk_back.Goals as goal

pub visit-requires : goal.visit-requires
visit-requires c = visits _ _ _ _ _ _ _ c.requires _ _ _ c.begun.ensures

pub visit-requires-2 : goal.visit-requires-2
visit-requires-2 c =
    visits _ _ _ _ _ _ _ (tables_again _ _ _ _ _ _ _ c.requires _ (left_besides _ _ _ _ _ _ _ c.visit.ensures.0).size) _ _ _ c.begun-2.ensures

pub returns : goal.returns
returns c m fresh besides =
    walks_again _ _ c.other_than-aside.ensures _ m fresh _ _ _ besides _ _ c.visit.ensures.0 _ _ _ c.begun-2.ensures _ _ c.visit-2.ensures.0
