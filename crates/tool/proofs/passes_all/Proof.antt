use Prim.Native.Nat.{◌≤◌, ◌-◌}
use mathlib.Core.Path.{◌≡◌, ap, sym, ◌∙◌}
use native.Mathlib.Omega.{arith}
use mathlib.Core.Bool.{not}
use Rattle.section_gap.specs.Blocks.{section_blocks}
use Rattle.tool.specs.Tool.{section_of, passes_all}
use Rattle.rules.specs.Every.{every}
use Rattle.rules.proofs.Testing.{every_stops, every_goes, every_ends}
use Rattle.tool.proofs.Sections.{blocks_here, all_left}
use Rattle.tool.proofs.passes_all.Statement.{statement}
use Rattle.tool.proofs.passes_all.Tie as tie

abbrev invariant-loop : tie.invariant-loop-i
invariant-loop t b m table n i₀ i = (every (λ k. not (section_blocks t b m (section_of table k))) i (n - i) ≡ passes_all t b m table) × (i ≤ n)

abbrev decreases-loop : tie.decreases-loop-i
decreases-loop t b m table n i₀ i = n - i

loop-holds : tie.Need-loop-i-init invariant-loop decreases-loop
unfolding passes_all
loop-holds c = (all_left _ _, omega arith)

returns : tie.Need-returns-then-section_blocks invariant-loop decreases-loop
returns c = let l = c.before.before.before.before.loop-i in
    every_stops _ l.i _ _ (omega arith) (sym (blocks_here _ _ _ c.before.before.section_at.ensures _ _ _ _ c.before.section_blocks.ensures)
    ∙ ap not c.if-section_blocks.true) l.invariant.0

loop-again : tie.Need-loop-i-preserved invariant-loop decreases-loop
loop-again c = let l = c.before.before.before.before.loop-i in (
  every_goes _ l.i _ _ (omega arith) (sym (blocks_here _ _ _ c.before.before.section_at.ensures _ _ _ _ c.before.section_blocks.ensures)
      ∙ ap not c.if-section_blocks.false) l.invariant.0,
  omega arith,
)

returns-2 : tie.Need-returns invariant-loop decreases-loop
returns-2 c = every_ends _ c.before.loop-i.i _ _ (omega arith) c.before.loop-i.invariant.0

pub passes_all_spec : {M : Type 1} → statement M
passes_all_spec =
    tie.close
    (tie.spec invariant-loop decreases-loop loop-holds (λ c κs. omega arith) (λ c κs. tt) returns (λ c. omega arith) (λ c. omega arith) loop-again returns-2)
