use mathlib.Core.Path.{◌≡◌, ap, ◌∙◌, subst, sym}
use mathlib.Core.Bool.{true}
use lib.Dec.{T}
use lib.Ieee.{Float, le}
use Rattle.numbers.specs.Reals.{max_of}
use Rattle.caps.proofs.Beside.{same_beside}
use Rattle.bull.specs.Bull.{bull_at}
use Rattle.bull.proofs.Taking.{way_at_lem, along_way}
use Rattle.bull.proofs.Capping.{cap_ends}
use Rattle.bull.proofs.search.Statement.{statement}
use Rattle.bull.proofs.search.Tie as tie

returns : tie.Need-returns-then-cap-m
returns c =
    let a = c.before.before.before.before.before.before in
    let w = c.before.before.before.before.before.way_of-w.ensures in
    let m : c.before.max-m.result ≡ max_of (bull_at a.args.k a.args.e a.args.lo) (bull_at a.args.k a.args.e a.args.hi) =
    c.before.max-m.ensures ∙ ap (λ (x : Float). max_of x c.before.before.at.result) (way_at_lem _ _ _ _ _ w c.before.before.before.at-low.ensures)
    ∙ ap (max_of (bull_at a.args.k a.args.e a.args.lo)) (way_at_lem _ _ _ _ _ w c.before.before.at.ensures) in
    same_beside _ _ _ (m
    ∙ cap_ends a.args.k a.args.e a.args.cap a.args.lo a.args.hi (subst T (sym a.well_formed.1.1.1.1.1.0.1) tt)
    (subst T (sym a.well_formed.1.1.1.1.1.1.0.1) tt) a.requires.1 40
    (subst (λ (v : Float). le a.args.cap v ≡ true) m c.if-cap-m.true))

search_on-requires : tie.Need-search_on-requires
search_on-requires c κs =
    record {
      base_is = c.before.before.before.before.before.before.requires.0;
      way_is = c.before.before.before.before.before.way_of-w.ensures;
      flat_to = c.before.before.before.before.flat_of-flat.ensures;
      ends = c.before.max-m.ensures ∙ ap (λ (x : Float). max_of x c.before.before.at.result) c.before.before.before.at-low.ensures
          ∙ ap (max_of _) c.before.before.at.ensures;
    }

returns-2 : tie.Need-returns
returns-2 c = along_way _ _ _ _ _ _ _ c.before.before.before.before.before.before.way_of-w.ensures c.search_on.ensures

pub search_spec : {M : Type 1} → statement M
search_spec = tie.close (tie.spec (λ c κs. tt) (λ c κs. tt) (λ c κs. c.flat_of-flat.ensures) (λ c κs. c.before.flat_of-flat.ensures)
    (λ c κs. tt) returns search_on-requires returns-2)
