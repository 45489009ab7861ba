use mathlib.Core.Path.{ap, ◌∙◌}
use Rattle.micro.specs.Micro.{counted}
use Rattle.micro.proofs.Signed.{again}
use Rattle.desk_um.proofs.Left.{question_is}
use Rattle.desk_um.proofs.question_from.Statement.{statement}
use Rattle.desk_um.proofs.question_from.Tie as tie

returns : tie.Need-returns
returns c =
    let d = c.before.before.before in
    let f = d.before.before.ranges in
    question_is _ _ _ _ _ _ _ _ _ _
    (d.before.count.ensures.0 ∙ ap counted (again _ f.px.sfits))
    (d.count-2.ensures.0 ∙ ap counted (again _ f.py.sfits))
    (c.before.before.count-3.ensures.0 ∙ ap counted (again _ f.qx.sfits))
    (c.before.count-4.ensures.0 ∙ ap counted (again _ f.qy.sfits))
    (c.count-5.ensures.0 ∙ ap counted (again _ f.r.sfits))

pub question_from_spec : {M : Type 1} → statement M
question_from_spec =
    tie.close
    (tie.spec (λ c κs. tt) (λ c κs. tt) (λ c κs. tt) (λ c κs. tt) (λ c κs. tt) returns)
