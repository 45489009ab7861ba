use mathlib.Core.Path.{◌≡◌, refl}
use Prim.Native.Nat.{◌≤◌, ◌-◌}
use borrow.Author.Rules.{rules}
use lib.ListN.{drop}
use Rattle.capsule.specs.Region.{offered_all, contact_of}
use Rattle.capsule.specs.Candidates.{each, sided, sides}
use Rattle.capsule.proofs.Gathering.{turn, ended}
use Rattle.capsule.proofs.offer_sides.Statement.{statement}
use Rattle.capsule.proofs.offer_sides.Tie as tie

abbrev invariant-loop : tie.invariant-loop-i
invariant-loop k e b₀ i₀ b i =
    (i ≤ 2) × (offered_all k (contact_of b) (each (sided k e) (drop i (sides))) ≡ offered_all k (contact_of b₀) (each (sided k e) (sides)))

abbrev decreases-loop : tie.decreases-loop-i
decreases-loop k e b₀ i₀ b i = 2 - i

loop-holds : tie.Need-loop-i-init invariant-loop decreases-loop
loop-holds c = (search rules, refl)

loop-again : tie.Need-loop-i-preserved invariant-loop decreases-loop
unfolding sides
loop-again c =
    let g = c.before.before.before in
    let a = g.before.args in (
      search rules,
      turn _ (sided a.k a.e) (sides) g.loop-i.i _ _ _ _ (search rules) c.before.side_of.ensures
          c.offer_side-b.ensures g.loop-i.invariant.1,
    )

returns : tie.Need-returns invariant-loop decreases-loop
unfolding sides
returns c =
    let g = c.before in
    let a = g.before.args in
    ended _ (sided a.k a.e) (sides) g.loop-i.i _ _ (search rules) g.loop-i.invariant.1

pub offer_sides_spec : {M : Type 1} → statement M
offer_sides_spec = tie.close (tie.spec invariant-loop decreases-loop loop-holds (λ c κs. tt) (λ c κs. tt) (λ c. search rules) (λ c. search rules) loop-again returns)
