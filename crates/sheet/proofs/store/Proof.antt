use borrow.Author.Rules.{rules}
use native.Mathlib.Omega.{arith}
use Rattle.sheet.proofs.Lists.{placed_one}
use lib.ListN.{length-set}
use Rattle.sheet.proofs.store.Statement.{statement}
use Rattle.sheet.proofs.store.Tie as tie

slice_write-sections-2 : tie.Need-bounds-sections-k-2
slice_write-sections-2 c = simp length-set (omega arith)

slice_write-sections-3 : tie.Need-bounds-sections-k-3
slice_write-sections-3 c = simp length-set (omega arith)

slice_write-sections-4 : tie.Need-bounds-sections-k-4
slice_write-sections-4 c = simp length-set (omega arith)

returns : tie.Need-returns
returns c = placed_one _ _ _ (omega arith)

pub store_spec : {M : Type 1} → statement M
store_spec = tie.close (tie.spec (λ c. search rules) (λ c. search rules) (λ c. search rules) (λ c. search rules) (λ c. search rules) slice_write-sections-2
    (λ c. search rules) (λ c. search rules) slice_write-sections-3 (λ c. search rules) (λ c. search rules) slice_write-sections-4 (λ c. search rules) returns)
