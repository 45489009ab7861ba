use mathlib.Core.Path.{◌∙◌}
use lib.ListN.{length-set}
use native.Mathlib.Omega.{arith}
use borrow.Author.Rules.{rules}
use Rattle.crests.proofs.Capping.{set_caps, set_all}
use Rattle.crests.proofs.raise_crest.Statement.{statement}
use Rattle.crests.proofs.raise_crest.Tie as tie

slice_read-crest_of : tie.Need-bounds-crests-k
slice_read-crest_of c = omega (arith, c.before.place_of-k.ensures.1, c.before.before.before.before.before.requires.1)

slice_write-crests : tie.Need-bounds-crests-k-2
slice_write-crests c = omega (arith, c.before.before.place_of-k.ensures.1, c.before.before.before.before.before.before.requires.1)

returns : tie.Need-returns
returns c =
    let s = c.before.before.before.before.before.before in
    let k = c.before.before.place_of-k.ensures in (
      length-set s.args.crests.now _ _ ∙ s.requires.1,
      set_caps s.args.crests.now _ _ (slice_write-crests c) c.crest_of.ensures.0,
      set_all s.args.crests.now _ c.crest_of.result (slice_write-crests c) s.args.boxes.now s.args.part.now _ k.0
          c.crest_of.ensures.1,
    )

pub raise_crest_spec : {M : Type 1} → statement M
raise_crest_spec = tie.close
    (tie.spec (λ c κs. tt) (λ c. search rules) slice_read-crest_of (λ c κs. search rules) (λ c. search rules) slice_write-crests (λ c. search rules) returns)
