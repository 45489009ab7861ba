use Prim.Native.Nat.{◌≤◌, ◌-◌}
use mathlib.Core.Path.{◌≡◌}
use native.Mathlib.Omega.{arith}
use Rattle.section.specs.Section.{valid_section}
use Rattle.tool.specs.Tool.{section_of, sections_in}
use Rattle.rules.specs.Every.{every}
use Rattle.rules.proofs.Testing.{every_stops, every_goes, every_ends, failed, passed}
use Rattle.tool.proofs.Sections.{valid_here, all_left}
use Rattle.tool.proofs.all_valid.Statement.{statement}
use Rattle.tool.proofs.all_valid.Tie as tie

abbrev invariant-loop : tie.invariant-loop-i
invariant-loop table n i₀ i = (every (λ k. valid_section (section_of table k)) i (n - i) ≡ every (λ k. valid_section (section_of table k)) 0 (sections_in table)) × (i ≤ n)

abbrev decreases-loop : tie.decreases-loop-i
decreases-loop table n i₀ i = n - i

loop-holds : tie.Need-loop-i-init invariant-loop decreases-loop
loop-holds c = (all_left _ _, omega arith)

returns : tie.Need-returns-then-not-valid invariant-loop decreases-loop
returns c = let l = c.before.before.before.before.loop-i in
    every_stops _ l.i _ _ (omega arith)
    (failed _ _ (valid_here _ _ _ c.before.before.section_at.ensures _ c.before.valid.ensures) c.if-not-valid.true-raw) l.invariant.0

loop-again : tie.Need-loop-i-preserved invariant-loop decreases-loop
loop-again c = let l = c.before.before.before.before.loop-i in (
  every_goes _ l.i _ _ (omega arith) (passed _ _ (valid_here _ _ _ c.before.before.section_at.ensures _ c.before.valid.ensures) c.if-not-valid.false-raw)
      l.invariant.0,
  omega arith,
)

returns-2 : tie.Need-returns invariant-loop decreases-loop
returns-2 c = every_ends _ c.before.loop-i.i _ _ (omega arith) c.before.loop-i.invariant.0

pub all_valid_spec : {M : Type 1} → statement M
all_valid_spec =
    tie.close
    (tie.spec invariant-loop decreases-loop loop-holds (λ c κs. omega arith) (λ c κs. tt) returns (λ c. omega arith) (λ c. omega arith) loop-again returns-2)
