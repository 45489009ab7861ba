use Rattle.rules.proofs.Branches.{branches, bool_called}
use Rattle.setup.specs.Question.{is_question}
use Rattle.setup.proofs.is_question.Statement.{statement}
use Rattle.setup.proofs.is_question.Tie as tie

returns : tie.Need-returns-then-are_points
unfolding is_question
returns c = search (branches, bool_called)

returns-2 : tie.Need-returns-else-are_points
unfolding is_question
returns-2 c = search (branches, bool_called)

pub is_question_spec : {M : Type 1} → statement M
is_question_spec =
    tie.close
    (tie.spec (λ c κs. tt) (λ c κs. tt) returns returns-2)
