use mathlib.Core.Path.{◌≡◌, refl, sym, ◌∙◌}
use Prim.Native.Nat.{◌≤◌, ◌-◌}
use native.Mathlib.Omega.{arith}
use borrow.Author.Rules.{rules}
use lib.ListN.{length, drop}
use Rattle.capsule.specs.Region.{offered_all, contact_of}
use Rattle.capsule.specs.Candidates.{each, plane_over, places}
use Rattle.capsule.proofs.Gathering.{turn, ended}
use Rattle.capsule.proofs.Extremes.{how_many}
use Rattle.capsule.proofs.offer_places.Statement.{statement}
use Rattle.capsule.proofs.offer_places.Tie as tie

abbrev invariant-loop : tie.invariant-loop-i
invariant-loop k t h n b₀ i₀ b i =
    (i ≤ n) × (offered_all k (contact_of b) (each (plane_over t) (drop i (places k h))) ≡ offered_all k (contact_of b₀) (each (plane_over t) (places k h)))

abbrev decreases-loop : tie.decreases-loop-i
decreases-loop k t h n b₀ i₀ b i = n - i

loop-holds : tie.Need-loop-i-init invariant-loop decreases-loop
loop-holds c = (search rules, refl)

loop-again : tie.Need-loop-i-preserved invariant-loop decreases-loop
loop-again c =
    let g = c.before.before.before in
    let a = g.before.before.args in
    let e : g.before.count_of-n.result ≡ length (places a.k a.h) = g.before.count_of-n.ensures ∙ sym (how_many a.k a.h) in (
      search rules,
      turn _ (plane_over a.t) (places a.k a.h) g.loop-i.i _ _ _ _ (omega (arith, e)) c.before.place_of.ensures
          c.offer_over-b.ensures g.loop-i.invariant.1,
    )

returns : tie.Need-returns invariant-loop decreases-loop
returns c =
    let g = c.before in
    let a = g.before.before.args in
    let e : g.before.count_of-n.result ≡ length (places a.k a.h) = g.before.count_of-n.ensures ∙ sym (how_many a.k a.h) in
    ended _ (plane_over a.t) (places a.k a.h) g.loop-i.i _ _ (omega (arith, e)) g.loop-i.invariant.1

pub offer_places_spec : {M : Type 1} → statement M
offer_places_spec = tie.close
    (tie.spec invariant-loop decreases-loop (λ c κs. tt) loop-holds (λ c κs. tt) (λ c κs. tt) (λ c. search rules) (λ c. search rules) loop-again returns)
