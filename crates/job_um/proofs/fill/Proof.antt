-- The first i entries are written, the others are as they were.
use Prim.Native.Nat.{◌-◌, ◌≤◌}
use mathlib.Core.Path.{◌≡◌, refl}
use mathlib.Core.List.{◌++◌}
use native.Mathlib.Omega.{arith}
use borrow.Author.Rules.{rules}
use lib.IntN.{pos}
use lib.ListN.{length, drop, length-set}
use Rattle.fields.specs.Rows.{row}
use Rattle.fields.proofs.Rows.{filled_next}
use Rattle.micro.proofs.Signed.{again}
use Rattle.job_um.specs.Reader.{number_of}
use Rattle.job_um.proofs.fill.Statement.{statement}
use Rattle.job_um.proofs.fill.Tie as tie

abbrev invariant-loop : tie.invariant-loop-i
invariant-loop bytes k count out₀ i₀ out i = (out ≡ row (number_of bytes) k i ++ drop i out₀) × (length out ≡ length out₀) × (i ≤ count)

abbrev decreases-loop : tie.decreases-loop-i
decreases-loop bytes k count out₀ i₀ out i = count - i

loop-holds : tie.Need-loop-i-init invariant-loop decreases-loop
unfolding row
loop-holds c = (refl, refl, search rules)

loop-again : tie.Need-loop-i-preserved invariant-loop decreases-loop
loop-again c =
    let l = c.before.before.loop-i in (
      rw (l.invariant.0, again _ c.number_at-z.type_inv, c.number_at-z.ensures) (filled_next _ (pos 0) _ l.i _ (omega arith)),
      simp length-set l.invariant.1,
      omega arith,
    )

returns : tie.Need-returns invariant-loop decreases-loop
returns c =
    let e : c.before.loop-i.i ≡ c.before.before.before.args.count = omega arith in
    rw (← e) c.before.loop-i.invariant.0

pub fill_spec : {M : Type 1} → statement M
fill_spec =
    tie.close
    (tie.spec invariant-loop decreases-loop loop-holds (λ c. omega arith) (λ c κs. omega arith) (λ c. omega arith) (λ c. omega arith) (λ c. omega arith)
    (λ c. omega arith) loop-again
    (λ c. c.before.loop-i.invariant.1) returns)
