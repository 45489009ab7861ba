use mathlib.Core.Path.{◌≡◌, refl}
use Prim.Native.Nat.{◌≤◌, ◌-◌}
use borrow.Author.Rules.{rules}
use lib.ListN.{drop}
use Rattle.capsule.specs.Region.{offered_all, contact_of}
use Rattle.capsule.specs.Candidates.{each, crossed, edges}
use Rattle.capsule.proofs.Gathering.{turn, ended}
use Rattle.capsule.proofs.offer_edges.Statement.{statement}
use Rattle.capsule.proofs.offer_edges.Tie as tie

abbrev invariant-loop : tie.invariant-loop-i
invariant-loop k t b₀ i₀ b i =
    (i ≤ 3) × (offered_all k (contact_of b) (each (crossed k) (drop i (edges t))) ≡ offered_all k (contact_of b₀) (each (crossed k) (edges t)))

abbrev decreases-loop : tie.decreases-loop-i
decreases-loop k t b₀ i₀ b i = 3 - i

loop-holds : tie.Need-loop-i-init invariant-loop decreases-loop
loop-holds c = (search rules, refl)

loop-again : tie.Need-loop-i-preserved invariant-loop decreases-loop
unfolding edges
loop-again c =
    let g = c.before.before.before in
    let a = g.before.args in (
      search rules,
      turn _ (crossed a.k) (edges a.t) g.loop-i.i _ _ _ _ (search rules) c.before.edge_of.ensures
          c.offer_crossings-b.ensures g.loop-i.invariant.1,
    )

returns : tie.Need-returns invariant-loop decreases-loop
unfolding edges
returns c =
    let g = c.before in
    let a = g.before.args in
    ended _ (crossed a.k) (edges a.t) g.loop-i.i _ _ (search rules) g.loop-i.invariant.1

pub offer_edges_spec : {M : Type 1} → statement M
offer_edges_spec = tie.close (tie.spec invariant-loop decreases-loop loop-holds (λ c κs. tt) (λ c κs. tt) (λ c. search rules) (λ c. search rules) loop-again returns)
