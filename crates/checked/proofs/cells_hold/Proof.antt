-- `checked::cells_hold` meets its contract. At cell c all cells before it hold what they should. What is left of the cells falls.
use Prim.Native.Nat.{ℕ, ◌-◌, ◌*◌, ◌≤◌, ◌<◌}
use mathlib.Core.Bool.{true}
use mathlib.Core.Path.{◌≡◌, refl, sym, ◌∙◌}
use native.Mathlib.Omega.{arith}
use borrow.Author.Tests.{not-true, not-false}
use Rattle.rules.proofs.Branches.{no}
use Rattle.checked.specs.Inside.{box_covers, cell_holds}
use Rattle.checked.proofs.Comparing.{tells_true, tells_false, all_more}
use Rattle.checked.proofs.cells_hold.Statement.{statement}
use Rattle.checked.proofs.cells_hold.Tie as tie

abbrev invariant-loop : tie.invariant-loop-c
invariant-loop n g starts members boxes c₀ c-end c =
    ((k : ℕ) → k < c → cell_holds (box_covers boxes g) n starts members k ≡ true) × (c-end ≡ g.rows * g.columns) × (c ≤ c-end)

abbrev decreases-loop : tie.decreases-loop-c
decreases-loop n g starts members boxes c₀ c-end c = c-end - c

cell_holds-requires : tie.Need-cell_holds-requires invariant-loop decreases-loop
cell_holds-requires c κs = let s = c.before.before.before.before.before.before in (s.requires.0, omega (arith, s.requires.1))

returns : tie.Need-returns-then-not-cell_holds invariant-loop decreases-loop
returns c =
    let l = c.before.before.before.loop-c in
    tells_false _ refl (λ p. no (sym (c.if-not-cell_holds.true) ∙ c.before.cell_holds.ensures ∙ p l.c (omega arith)))

loop-again : tie.Need-loop-c-preserved invariant-loop decreases-loop
loop-again c =
    let s = c.before.before.before.before.before.before.before.before in
    let l = c.before.before.before.loop-c in (
      all_more (λ (k : ℕ). cell_holds (box_covers s.args.boxes.now s.args.g) s.args.n s.args.starts.now s.args.members.now k
          ≡ true) l.c l.invariant.0
          (sym c.before.cell_holds.ensures ∙ c.if-not-cell_holds.false),
      l.invariant.1,
      omega arith,
    )

returns-2 : tie.Need-returns invariant-loop decreases-loop
returns-2 c = let l = c.before.loop-c in tells_true _ refl (λ k h. l.invariant.0 k (omega arith))

pub cells_hold_spec : {M : Type 1} → statement M
cells_hold_spec =
    tie.close
    (tie.spec
    invariant-loop
    decreases-loop
    (λ c. omega (arith, c.before.before.before.before.requires.0.few))
    (λ c. (λ k h. absurd (omega arith), refl, omega arith))
    cell_holds-requires
    returns
    (λ c. omega arith)
    (λ c. omega arith)
    loop-again
    returns-2)
