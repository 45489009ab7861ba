-- At triangle i the extremes are those of the triangles before it.
use Prim.Native.Nat.{◌-◌, ◌≤◌}
use mathlib.Core.Path.{◌≡◌, refl, ap, ◌∙◌}
use native.Mathlib.Numerals.{add-one}
use native.Mathlib.Omega.{arith}
use borrow.Author.Rules.{rules}
use Rattle.um.specs.Grid.{extent_of}
use Rattle.um.proofs.extent_of.Statement.{statement}
use Rattle.um.proofs.extent_of.Tie as tie

abbrev invariant-loop : tie.invariant-loop-i
invariant-loop mesh n e₀ i₀ e i = (e ≡ extent_of mesh i) × (i ≤ n)

abbrev decreases-loop : tie.decreases-loop-i
decreases-loop mesh n e₀ i₀ e i = n - i

loop-holds : tie.Need-loop-i-init invariant-loop decreases-loop
unfolding extent_of
loop-holds c = (refl, search rules)

loop-again : tie.Need-loop-i-preserved invariant-loop decreases-loop
unfolding extent_of
loop-again c =
    let l = c.before.before.before.loop-i in
    (c.widen-e.ensures ∙ (rw (l.invariant.0, c.before.box_of.ensures.0, add-one l.i) refl), omega arith)

returns : tie.Need-returns invariant-loop decreases-loop
returns c = c.before.loop-i.invariant.0 ∙ ap (extent_of _) (omega arith)

pub extent_of_spec : {M : Type 1} → statement M
extent_of_spec = tie.close (tie.spec invariant-loop decreases-loop loop-holds (λ c κs. omega arith) (λ c κs. tt) (λ c. omega arith) (λ c. omega arith) loop-again returns)
