use borrow.Author.Rules.{rules}
use Rattle.rules.proofs.Branches.{branches}
use Rattle.lines.proofs.glyph.Statement.{statement}
use Rattle.lines.proofs.glyph.Tie as tie

returns : tie.Need-returns-then-d-lt10
returns c = search branches

returns-2 : tie.Need-returns-else-d-lt10
returns-2 c = search branches

pub glyph_spec : {M : Type 1} → statement M
glyph_spec = tie.close (tie.spec (λ c. search rules) (λ c. search rules) (λ c. search rules) (λ c. search rules) returns returns-2)
