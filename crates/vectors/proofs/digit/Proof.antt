use borrow.Author.Rules.{rules}
use Rattle.rules.proofs.Branches.{branches}
use Rattle.vectors.specs.Lines.{digit_of}
use Rattle.vectors.proofs.digit.Statement.{statement}
use Rattle.vectors.proofs.digit.Tie as tie

returns : tie.Need-returns-then-b-ge48
unfolding digit_of
returns c = search branches

returns-2 : tie.Need-returns-then-b-le57
unfolding digit_of
returns-2 c = search branches

returns-3 : tie.Need-returns-then-b-ge97
unfolding digit_of
returns-3 c = search branches

returns-4 : tie.Need-returns-else-b-ge97
unfolding digit_of
returns-4 c = search branches

returns-5 : tie.Need-returns-else-b-le102
unfolding digit_of
returns-5 c = search branches

pub digit_spec : {M : Type 1} → statement M
digit_spec =
    tie.close
    (tie.spec (λ c. search rules) returns returns-2 (λ c. search rules) (λ c. search rules) returns-3 returns-4 returns-5)
