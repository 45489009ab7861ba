use Prim.Native.Nat.{◌-◌, ◌/◌, ◌≤◌}
use mathlib.Core.Path.{◌≡◌, ap, ◌∙◌}
use native.Mathlib.Omega.{arith}
use lib.ListN.{length}
use Rattle.section.specs.Section.{valid_section}
use Rattle.rules.proofs.Testing.{failed, passed}
use Rattle.sheet.specs.Sheet.{holders_from, all_valid}
use Rattle.sheet.proofs.Loops.{holders_begin, holder_stops, holder_goes, holders_end}
use Rattle.sheet.proofs.valid_holders.Statement.{statement}
use Rattle.sheet.proofs.valid_holders.Tie as tie

abbrev invariant-loop : tie.invariant-loop-i
invariant-loop holders n i₀ i = (all_valid (holders_from holders i (n - i)) ≡ all_valid (holders_from holders 0 (length holders / 4))) × (i ≤ n)

abbrev decreases-loop : tie.decreases-loop-i
decreases-loop holders n i₀ i = n - i

loop-holds : tie.Need-loop-i-init invariant-loop decreases-loop
loop-holds c = (holders_begin _ _, omega arith)

returns : tie.Need-returns-then-not-valid invariant-loop decreases-loop
returns c =
    let l = c.before.before.before.before.loop-i in
    holder_stops _ l.i _ _ (omega arith)
    (failed _ _ (c.before.valid.ensures ∙ ap valid_section c.before.before.holder_at.ensures) c.if-not-valid.true-raw) l.invariant.0

loop-again : tie.Need-loop-i-preserved invariant-loop decreases-loop
loop-again c =
    let l = c.before.before.before.before.loop-i in (
      holder_goes _ l.i _ _ (omega arith) (passed _ _ (c.before.valid.ensures ∙ ap valid_section c.before.before.holder_at.ensures) c.if-not-valid.false-raw)
          l.invariant.0,
      omega arith,
    )

returns-2 : tie.Need-returns invariant-loop decreases-loop
returns-2 c = holders_end _ c.before.loop-i.i _ _ (omega arith) c.before.loop-i.invariant.0

pub valid_holders_spec : {M : Type 1} → statement M
valid_holders_spec = tie.close
    (tie.spec invariant-loop decreases-loop loop-holds (λ c κs. omega arith) (λ c κs. tt) returns (λ c. omega arith) (λ c. omega arith) loop-again returns-2)
