use mathlib.Core.Path.{◌≡◌, ap, ◌∙◌, subst, sym}
use mathlib.Core.Bool.{true}
use lib.Dec.{T}
use lib.Ieee.{Float, le}
use Rattle.numbers.specs.Reals.{◌⊕◌, max_of}
use Rattle.caps.proofs.Beside.{same_beside}
use Rattle.section.specs.Section.{section_at}
use Rattle.section.proofs.Ends.{cap_ends}
use Rattle.section.proofs.search.Statement.{statement}
use Rattle.section.proofs.search.Tie as tie

returns : tie.Need-returns-then-cap-m
returns c =
    let a = c.before.before.before.before.before in
    let f : Float → Float = section_at a.args.s a.args.x a.args.y a.args.e in
    let m : c.before.max-m.result ≡ max_of (f a.args.lo) (f a.args.hi) =
    c.before.max-m.ensures ∙ ap (λ (v : Float). max_of v c.before.before.at.result) c.before.before.before.at-first.ensures
    ∙ ap (max_of (f a.args.lo)) c.before.before.at.ensures in
    same_beside _ _ _ (ap (λ (v : Float). v ⊕ a.args.more) (m
    ∙ cap_ends a.args.s a.args.low a.args.x a.args.y a.args.e a.args.cap a.args.lo a.args.hi a.requires.0
    (subst T (sym a.well_formed.1.1.1.1.1.0.1) tt) (subst T (sym a.well_formed.1.1.1.1.1.1.0.1) tt)
    a.requires.1 60 (subst (λ (v : Float). le a.args.cap v ≡ true) m c.if-cap-m.true)))

search_on-requires : tie.Need-search_on-requires
search_on-requires c κs =
    record {
      firm = c.before.before.before.before.before.requires.0;
      flat_to = c.before.before.before.before.flat_of-flat.ensures;
      ends = c.before.max-m.ensures ∙ ap (λ (v : Float). max_of v c.before.before.at.result) c.before.before.before.at-first.ensures
          ∙ ap (max_of _) c.before.before.at.ensures;
    }

returns-2 : tie.Need-returns
returns-2 c = c.search_on.ensures

pub search_spec : {M : Type 1} → statement M
search_spec = tie.close (tie.spec (λ c κs. tt) (λ c κs. c.flat_of-flat.ensures) (λ c κs. c.before.flat_of-flat.ensures)
    (λ c κs. tt) returns search_on-requires returns-2)
