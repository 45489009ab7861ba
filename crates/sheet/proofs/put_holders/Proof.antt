use Prim.Native.Nat.{◌-◌, ◌/◌, ◌≤◌}
use mathlib.Core.Path.{◌≡◌, refl, ap, ◌∙◌}
use native.Mathlib.Omega.{arith}
use lib.ListN.{length}
use Rattle.sheet.specs.Sheet.{holders_from, placed}
use Rattle.sheet.proofs.Lists.{placed_none, placed_length, holder_placed}
use Rattle.sheet.proofs.put_holders.Statement.{statement}
use Rattle.sheet.proofs.put_holders.Tie as tie

abbrev invariant-loop : tie.invariant-loop-i
invariant-loop holders at sections₀ n i₀ sections i = (sections ≡ placed (holders_from holders 0 i) at sections₀) × (length sections ≡ length sections₀) × (i ≤ n)

abbrev decreases-loop : tie.decreases-loop-i
decreases-loop holders at sections₀ n i₀ sections i = n - i

loop-holds : tie.Need-loop-i-init invariant-loop decreases-loop
unfolding holders_from
loop-holds c = (placed_none _ _, refl, omega arith)

loop-again : tie.Need-loop-i-preserved invariant-loop decreases-loop
loop-again c =
    let s = c.before.before in
    let h = s.before.before in
    let l = h.before.before.loop-i in (
      holder_placed _ l.i _ _ _ _ _ (omega arith) l.invariant.0 h.holder_at.ensures s.store.ensures,
      ap length s.store.ensures ∙ placed_length _ _ _ (omega arith) ∙ l.invariant.1,
      omega arith,
    )

returns : tie.Need-returns invariant-loop decreases-loop
returns c =
    let l = c.before.loop-i in
    let e : l.i ≡ length c.before.before.before.before.args.holders.now / 4 = omega arith in
    (refl, rw (← e) l.invariant.0)

pub put_holders_spec : {M : Type 1} → statement M
put_holders_spec = tie.close (tie.spec invariant-loop decreases-loop loop-holds (λ c κs. omega arith) (λ c. omega arith) (λ c κs. omega arith) (λ c. omega arith)
    (λ c. omega arith) loop-again (λ c. omega arith) (λ c. c.before.loop-i.invariant.1) returns)
