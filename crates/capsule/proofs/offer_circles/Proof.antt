use mathlib.Core.Path.{◌≡◌, refl, sym, ◌∙◌}
use Prim.Native.Nat.{◌≤◌, ◌-◌}
use native.Mathlib.Omega.{arith}
use borrow.Author.Rules.{rules}
use lib.ListN.{take, drop}
use lib.Seq.{get_or-take}
use Rattle.capsule.specs.Region.{offered_all, contact_of}
use Rattle.capsule.specs.Candidates.{each, circled, ends}
use Rattle.capsule.proofs.Gathering.{turn, ended}
use Rattle.capsule.proofs.Again.{ends_taken, all_ends}
use Rattle.capsule.proofs.offer_circles.Statement.{statement}
use Rattle.capsule.proofs.offer_circles.Tie as tie

abbrev invariant-loop : tie.invariant-loop-i
invariant-loop k e n b₀ i₀ b i =
    (i ≤ n) × (offered_all k (contact_of b) (each (circled k e) (drop i (take n (ends k)))) ≡ offered_all k (contact_of b₀) (each (circled k e) (take n (ends k))))

abbrev decreases-loop : tie.decreases-loop-i
decreases-loop k e n b₀ i₀ b i = n - i

loop-holds : tie.Need-loop-i-init invariant-loop decreases-loop
loop-holds c = (search rules, refl)

loop-again : tie.Need-loop-i-preserved invariant-loop decreases-loop
loop-again c =
    let f = c.before.before in
    let g = f.before in
    let a = g.before.before.args in
    let n = g.before.circles_of-n.result in (
      search rules,
      turn _ (circled a.k a.e) (take n (ends a.k)) g.loop-i.i _ _ _ _ (omega (arith, ends_taken a.k n g.before.circles_of-n.ensures))
          (c.before.end_of.ensures ∙ sym (get_or-take n (ends a.k) g.loop-i.i _ (search rules))) c.offer_circle-b.ensures g.loop-i.invariant.1,
    )

returns : tie.Need-returns invariant-loop decreases-loop
returns c =
    let g = c.before in
    let a = g.before.before.args in
    let n = g.before.circles_of-n.result in
    all_ends _ (circled a.k a.e) n _ _ g.before.circles_of-n.ensures
    (ended _ (circled a.k a.e) (take n (ends a.k)) g.loop-i.i _ _
    (omega (arith, ends_taken a.k n g.before.circles_of-n.ensures)) g.loop-i.invariant.1)

pub offer_circles_spec : {M : Type 1} → statement M
offer_circles_spec = tie.close
    (tie.spec invariant-loop decreases-loop (λ c κs. tt) loop-holds (λ c κs. tt) (λ c κs. tt) (λ c. search rules) (λ c. search rules) loop-again returns)
