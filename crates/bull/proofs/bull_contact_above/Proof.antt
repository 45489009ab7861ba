use mathlib.Core.Path.{ap, ◌∙◌}
use Rattle.above.specs.Above.{offer_of}
use Rattle.above.proofs.Above.{alone}
use Rattle.cutters.specs.Touch.{facing_of}
use Rattle.bull.specs.Bull.{bull_edges, bull_facet, bull_contact_above}
use Rattle.bull.proofs.bull_contact_above.Statement.{statement}
use Rattle.bull.proofs.bull_contact_above.Tie as tie

returns : tie.Need-returns
unfolding bull_contact_above
returns c =
    let a = c.before.args in
    c.contact_on.ensures ∙ ap (λ d. offer_of (bull_edges a.k a.floor a.t d) (bull_facet a.k a.t (facing_of a.t))) (alone _)

pub bull_contact_above_spec : {M : Type 1} → statement M
bull_contact_above_spec = tie.close (tie.spec (λ c κs. tt) returns)
