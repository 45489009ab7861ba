-- `flatten::push` meets its contract: four stores behind the numbers that the table holds.
use native.Mathlib.Omega.{arith}
use lib.ListN.{length-set}
use borrow.Author.Rules.{rules}
use Rattle.flatten.specs.Flat.{held_in}
use Rattle.flatten.proofs.Flattening.{four_stored}
use Rattle.flatten.proofs.push.Statement.{statement}
use Rattle.flatten.proofs.push.Tie as tie

returns : tie.Need-returns
unfolding held_in
returns c = record {
  room = simp length-set c.before.requires.0;
  more = search rules;
  held = four_stored c.before.args.t.numbers c.before.args.t.count _ _ _ _ (omega arith);
}

pub push_spec : {M : Type 1} → statement M
push_spec =
    tie.close
    (tie.spec (λ c. search rules) (λ c. search rules) (λ c. search rules) (λ c. search rules) (λ c. search rules) (λ c. search rules)
    (λ c. search rules) (λ c. search rules) (λ c. search rules) (λ c. search rules) (λ c. search rules) (λ c. search rules) returns)
