use mathlib.Core.Path.{refl}
use borrow.Author.Rules.{rules}
use Rattle.micro.proofs.Signed.{again}
use Rattle.desk_um.specs.Doors.{header_from}
use Rattle.desk_um.proofs.header_from.Statement.{statement}
use Rattle.desk_um.proofs.header_from.Tie as tie

returns : tie.Need-returns
unfolding header_from
returns c =
    let x = c.before.before.before.before.before.before.before.before.before.before.before.before.before.before.before.x-1.given in
    let y = c.before.before.before.before.before.before.before.before.before.before.before.before.before.before.y-1.given in
    let f = c.before.before.before.before.before.before.before.before.before.before.before.before.before.floor-1.given in
    let r = c.before.before.before.before.before.before.before.before.before.before.before.before.r-1.given in
    rw (
      c.before.before.before.before.before.before.before.before.before.before.wide.ensures,
      c.before.before.before.before.before.before.before.before.before.count.ensures.0,
      c.before.before.before.before.before.before.before.before.count-2.ensures.0,
      c.before.before.before.before.before.before.before.count-3.ensures.0,
      c.before.before.before.before.before.before.count-4.ensures.0,
      c.before.before.before.before.wide-2.ensures,
      c.before.before.wide-3.ensures,
      c.long.ensures,
      again _ x,
      again _ y,
      again _ f,
      again _ r,
    ) refl

pub header_from_spec : {M : Type 1} → statement M
header_from_spec =
    tie.close
    (tie.spec (λ c. search rules) (λ c. search rules) (λ c. search rules) (λ c. search rules) (λ c. search rules) (λ c κs. tt) (λ c κs. tt) (λ c κs. tt)
    (λ c κs. tt) (λ c κs. tt) (λ c. search rules) (λ c κs. tt) (λ c. search rules) (λ c κs. tt) (λ c. search rules) (λ c κs. tt) returns)
