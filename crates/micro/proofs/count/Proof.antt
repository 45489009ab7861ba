use Rattle.micro.proofs.Signed.{widened_fits, sum_fits, count_fits, count_is}
use Rattle.micro.proofs.count.Statement.{statement}
use Rattle.micro.proofs.count.Tie as tie

pub count_spec : {M : Type 1} → statement M
count_spec =
    tie.close
    (tie.spec (λ c. widened_fits _ c.ranges.z) (λ c. sum_fits _ c.ranges.z) (λ c. count_fits _ c.ranges.z) (λ c. count_is _ c.ranges.z))
